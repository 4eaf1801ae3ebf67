mod Bits
mod Backwards
mod Queued
mod Spread
mod Chained
mod Followed
mod Passing
mod Chain
mod Settled
mod Complete
mod Based
pub mod LawsOfNeeds
