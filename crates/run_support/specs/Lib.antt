pub mod Cases
pub mod Outcomes
