-- What inner functions promise to one another: nobody has to believe these.
pub mod Finds
pub mod Growing
pub mod Heights
pub mod Sources
pub mod Spots
