pub mod ExitCodes
pub mod Outcomes
pub mod Parts
pub mod Runs
pub mod Samples
pub mod Service
