pub mod Arcs
pub mod Walks
pub mod Hops
pub mod PathsView
pub mod Inner
