-- What inner functions promise to one another: nobody has to believe these.
pub mod Heads
pub mod Inners
pub mod Recorded
