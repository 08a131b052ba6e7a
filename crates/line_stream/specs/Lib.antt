pub mod Answers
pub mod Buffers
pub mod Costs
pub mod Lines
pub mod Outputs
pub mod Streams
