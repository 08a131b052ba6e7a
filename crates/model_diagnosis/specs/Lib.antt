pub use Rattle.edm_schema.specs.JsonTrees
pub use Rattle.edm_schema.specs.MemberLists
pub use Rattle.edm_schema.specs.ModelTrees
pub mod Faults
pub mod Searched
