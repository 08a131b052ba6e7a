pub use Rattle.edm_values.specs.Values
pub use Rattle.par_stages.specs.Placed
