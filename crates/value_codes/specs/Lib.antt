pub use Rattle.edm_values.specs.Values
pub mod Above
pub mod Codes
