mod Crossed
mod Ordered
mod Seen
mod Shallow
pub mod LawsOfJoins
pub mod LawsOfCertificates
mod AmongLists
mod Certified
mod Checked
mod Degrees
mod Ends
mod FewEdges
mod Filled
mod LeafTest
mod LeafTrails
mod Leaves
mod Ranked
mod Settling
mod Walks
mod Without
mod Least
mod RowsWait
mod RowsLeft
mod RowsMade
mod Sides
mod Taking
mod Trees
