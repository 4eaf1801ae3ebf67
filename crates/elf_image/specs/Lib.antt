pub mod NoteBytes
pub mod Loads
pub mod CodeWords
pub mod Named
pub mod Refusal
pub mod Accepted
pub mod Inner
