pub mod FirstPlaces
pub mod FirstRules
pub mod ResultEquations
pub mod TypedPlaces
