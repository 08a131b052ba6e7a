pub mod Broken
pub mod Found
pub mod Passes
pub mod Tests
pub mod Unbroken
