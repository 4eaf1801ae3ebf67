-- What inner functions promise to one another. No public contract cites anything of this folder, so nobody has to believe it.
pub mod Advance
pub mod Decoded
