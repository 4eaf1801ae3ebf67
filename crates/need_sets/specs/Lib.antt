pub mod Words
pub mod Needed
pub mod Masks
pub mod NeedsView
pub mod Inner
