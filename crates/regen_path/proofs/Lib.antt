pub mod LawsOfArcs
mod Above
mod Chained
mod Entered
mod Grown
mod Hopping
mod LastUnder
mod Listing
mod Reach
mod Rooted
mod Spotted
mod Tabled
mod Tall
mod Waiting
