pub mod Fault
pub mod Content
pub mod Files
pub mod Loan
pub mod Memory
pub mod Named
pub mod scaffolding
