pub mod CommandLaws
pub mod NumberLaws
mod OptionRows
pub mod UsageLaws
