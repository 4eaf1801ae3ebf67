-- Definitions that no public contract reaches: those of private functions.
pub mod Fits
pub mod Zeros
