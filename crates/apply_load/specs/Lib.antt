pub mod Checks
pub mod DataRefusals
pub mod Generated
pub mod LoadStops
pub mod Loads
pub mod RefusedFiles
pub mod Transfers
