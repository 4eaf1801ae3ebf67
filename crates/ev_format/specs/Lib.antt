pub mod Spelling
pub mod Shapes
pub mod Reading
pub mod Answers
pub mod Laws
pub mod Inner
