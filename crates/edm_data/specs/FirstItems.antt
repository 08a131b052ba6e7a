-- The first item of a set that is no entity.
use Rattle.std.specs.Prelude.{ℕ, ◌≡◌, ◌<◌, false, List, map, slice_get, Option, Some, None, unwrap_or, is_none}
use Rattle.edm_data.specs.Columns.{Grid}
use Rattle.edm_values.specs.declared.Value.{Value}

-- what options hold something up to this place, which holds nothing
pub record IsFirstNone {X : Type 0} (os : List (Option X)) (k : ℕ) : Type 0 where
  pub here : slice_get os k ≡ Some None
  pub before : (q : ℕ) → q < k → is_none (unwrap_or (slice_get os q) None) ≡ false

-- the values of entities, each of which there is
abbrev pub rows_read : Grid → List (Option (List Value))
rows_read grid = map Some grid.rows
