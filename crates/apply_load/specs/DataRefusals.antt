-- The line of each refusal of a data file.
use Rattle.std.specs.Prelude.{◌≡◌, ℕ, List, map}
use Rattle.edm_model.specs.Models.{Model, EntitySet}
use Rattle.edm_data.specs.DataFile.{DataReading}
use Rattle.edm_data.specs.Refusals.{Tells}
use Rattle.edm_data.specs.declared.DataRefused.{DataRefused}
use Rattle.edm_data.specs.declared.DataRefused.TheVariants as refused
use Rattle.apply_load.specs.RefusedFiles.{data_line}

-- this is the line of what a refusal tells of the file, over a model with sets of these names; want of memory has no line
pub record IsLineOf (names : List (List ℕ)) (e : DataRefused) (line : List ℕ) : Type 0 where
  pub told : (m : Model) (reading : DataReading) → map (λ (s : EntitySet). s.name) m.sets ≡ names → Tells e reading → line ≡ data_line m reading
  pub no_memory : e ≡ refused.Memory → ⊥
