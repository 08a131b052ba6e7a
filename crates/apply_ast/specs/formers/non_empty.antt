pub mod NonEmpty
