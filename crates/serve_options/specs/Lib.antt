pub mod Command
pub mod Options
pub mod Seen
pub mod Usage
