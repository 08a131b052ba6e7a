pub use Rattle.edm_model.specs.ModelFile
pub use Rattle.edm_model.specs.SampleModel
pub use Rattle.edm_data.specs.DataFile
pub mod Generator
