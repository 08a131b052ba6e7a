mod BesideLemmas
pub mod JoinLemmas
mod JoinRows
