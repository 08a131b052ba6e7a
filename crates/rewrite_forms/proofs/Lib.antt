pub mod BranchShapes
pub mod CutLists
pub mod KeyForms
pub mod NewPaths
pub mod NodeShapes
pub mod SameLists
pub mod ShapeSteps
pub mod TypedSteps
