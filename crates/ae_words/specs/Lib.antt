pub mod Files
pub mod Numbers
pub mod Options
pub mod Command
