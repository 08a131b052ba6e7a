pub mod CustomFacts
pub mod RowFacts
