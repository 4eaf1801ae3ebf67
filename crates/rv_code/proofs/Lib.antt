pub mod LawsOfTests
pub mod LawsOfElements
pub mod LawsOfLists
pub mod LawsOfRows
pub mod LawsOfBytes
mod Levels
mod Apart
mod Registers
pub mod LawsOfPlaces
pub mod LawsOfLookUps
mod WordFields
mod Encoded
mod Decoded
mod Masks
pub mod LawsOfMasks
