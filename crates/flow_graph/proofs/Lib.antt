mod Among
mod Counted
mod Ends
mod Few
mod Followed
mod LawsOfBlocks
pub mod LawsOfEdges
mod Leaving
mod Marked
mod Named
mod Numbered
mod Paired
mod Runs
mod Targets
mod Turns
mod Whole
