-- Definitions that no public contract reaches: those of private functions.
pub mod Parts
pub mod Loaded
