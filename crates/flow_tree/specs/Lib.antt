pub mod Depth
pub mod Weight
pub mod WeightsView
pub mod WitnessEdges
pub mod Inner
