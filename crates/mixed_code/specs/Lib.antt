pub mod Parts
pub mod Mixed
