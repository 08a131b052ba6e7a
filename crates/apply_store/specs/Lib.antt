pub mod CustomReadings
pub mod FirstCustoms
pub mod Stores
