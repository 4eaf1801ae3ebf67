pub mod LawsOfCells
pub mod LawsOfStart
mod Order
mod ReadBytes
mod RunBytes
mod ReadBack
mod WrittenBytes
mod Near
