pub mod Collected
pub mod CustomEntries
pub mod CustomFacts
pub mod GroupFacts
pub mod LawfulLemmas
mod LawfulRows
pub mod LawfulShapes
pub mod LookUpFacts
pub mod MergeFacts
pub mod MergedShape
pub mod OutcomeFacts
pub mod PathLemmas
pub mod PathOrders
pub mod SampleCustoms
pub mod ShapeLemmas
pub mod ShapeSteps
pub mod StepFacts
pub mod TableFold
pub mod TableLemmas
pub mod TypesKept
pub mod TypingEquations
pub mod TypingLaw
mod TypingRows
pub mod WalkFacts
pub mod WholeCustoms
