pub mod LawsOfReadings
mod Words
mod Consumed
mod Filled
mod Counted
mod Headed
mod Spelled
mod Found
mod Unique
mod WrittenFile
mod Answered
