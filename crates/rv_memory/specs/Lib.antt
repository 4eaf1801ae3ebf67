pub mod Answers
pub mod Memory
pub mod Stretches
pub mod Outline
pub mod Laws
pub mod Inner
