pub use Rattle.value_codes.specs.Codes
pub use Rattle.aggregate_ops.specs.KeyTables
pub mod Distincts
pub mod Found
pub mod Levels
pub mod Numbered
