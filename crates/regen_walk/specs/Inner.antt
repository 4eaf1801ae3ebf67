-- What inner functions promise to one another.
pub mod Forest
pub mod Met
pub mod Going
pub mod Telling
pub mod Crossing
pub mod Goal
pub mod OnTheWay
