pub mod Refusals
pub mod RunLines
