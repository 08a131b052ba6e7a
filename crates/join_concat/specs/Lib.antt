pub use Rattle.edm_values.specs.Names
pub use Rattle.edm_model.specs.LookUps
pub use Rattle.edm_model.specs.Models
pub use Rattle.apply_meaning.specs.Instances
pub use Rattle.apply_meaning.specs.Meaning
pub mod Joins
