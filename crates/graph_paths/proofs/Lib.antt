pub mod LawsOfMembers
pub mod LawsOfPaths
pub mod LawsOfForests
pub mod LawsOfTrails
pub mod LawsOfWeights
pub mod LawsOfTwoSorts
