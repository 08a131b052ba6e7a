pub use Rattle.edm_data.specs.DataFile
pub use Rattle.edm_data.specs.Worlds
pub use Rattle.edm_model.specs.LookUps
pub use Rattle.edm_model.specs.Soundness
pub mod EntityFaults
pub mod FileLaws
