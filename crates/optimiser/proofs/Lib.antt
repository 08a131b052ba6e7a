mod AnywhereLemmas
mod ApartLemmas
mod CrossingLemmas
mod FactorLemmas
mod GivenLemmas
mod KindLemmas
mod LastingLemmas
mod PlanSteps
mod PlanTurns
mod RestLemmas
mod SamePipes
mod WithinLemmas
pub mod HeadLemmas
pub mod HeldLists
pub mod IdleLemmas
pub mod KnownLemmas
pub mod PlanMeaning
pub mod SteppingLemmas
pub mod TypedInside
pub mod WalkTrees
pub mod WalkedLemmas
pub mod WalkedSteps
