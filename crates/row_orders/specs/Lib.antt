pub use Rattle.edm_values.specs.Lists
pub use Rattle.edm_values.specs.Refusals
pub use Rattle.apply_ast.specs.Views
pub use Rattle.apply_meaning.specs.Meaning
pub use Rattle.apply_meaning.specs.Running
pub mod Orders
pub mod Places
pub mod Ranks
