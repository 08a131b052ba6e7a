pub mod BranchForms
pub mod ClimbForms
pub mod FirstRuns
pub mod GroupForms
pub mod JoinForms
pub mod NodeForms
pub mod RuleForms
