pub mod LawsOfContent
pub mod LawsOfFaults
mod Pieces
mod Left
mod Places
