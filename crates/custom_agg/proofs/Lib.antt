pub mod DefinitionLemmas
pub mod FoldLemmas
pub mod GroupResults
pub mod NamedCustoms
pub mod TypedCustoms
pub mod NumberedResults
