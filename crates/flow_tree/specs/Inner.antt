-- What inner functions promise to one another: nobody has to believe these.
pub mod Cells
pub mod Farthest
pub mod Growing
pub mod Heads
pub mod Rows
pub mod Spans
pub mod Waiting
pub mod Walks
