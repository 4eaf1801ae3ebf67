-- What inner functions promise to one another. No public contract cites anything of this folder, so nobody has to believe
-- it.
pub mod Command
pub mod FileWords
pub mod Loading
pub mod Machine
pub mod Printing
pub mod FromGraph
pub mod Reading
pub mod EventFiles
pub mod Tracing
