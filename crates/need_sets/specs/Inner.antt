pub mod Before
pub mod Waiting
pub mod WaitingView
pub mod Search
pub mod Sources
pub mod PredecessorsView
