mod Beside
mod Fronts
mod FilesRead
pub mod OneOutcome
mod SetNames
