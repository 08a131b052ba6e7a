pub mod FrameSteps
pub mod FrontLemmas
pub mod HeldLemmas
pub mod JoinLemmas
