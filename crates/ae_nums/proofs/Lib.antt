pub mod LawsOfRegisters
pub mod LawsOfTraces
pub mod LawsOfWriters
mod Pairs
mod Places
mod Reading
mod Written
