pub use Rattle.edm_model.specs.LookUps
pub use Rattle.context_typing.specs.Readings
pub use Rattle.context_typing.specs.Typing
pub use Rattle.apply_meaning.specs.Meaning
pub use Rattle.apply_meaning.specs.MeaningLaws
pub mod CustomValues
