-- What inner functions promise to one another.
pub mod Filling
pub mod Bodies
