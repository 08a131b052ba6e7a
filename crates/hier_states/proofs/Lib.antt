pub mod CycleFacts
pub mod NamedFacts
pub mod PartPlaces
pub mod StateFacts
