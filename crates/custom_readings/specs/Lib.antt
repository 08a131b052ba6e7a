pub use Rattle.edm_model.specs.IdLists
pub use Rattle.apply_ast.specs.Views
pub use Rattle.apply_grammar.specs.Limits
pub mod Readings
