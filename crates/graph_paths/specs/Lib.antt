pub mod Paths
pub mod Forests
