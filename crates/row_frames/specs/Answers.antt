-- What a filter is told of values, and the picks that it keeps.
use Rattle.std.specs.Prelude.{◌≡◌, Bool, true, false, List, [], ◌∷◌, Option, Some, None, is_none, if◌then◌else◌}
use Rattle.std.specs.declared.result.Result as result
use Rattle.std.specs.Global.{Vec}
use Rattle.std.specs.List.{list_any}
use Rattle.edm_values.specs.declared.Value.{Value}
use Rattle.edm_values.specs.declared.refusals.Refused.{Refused}
use Rattle.edm_values.specs.Refusals.{Returns}
use Rattle.edm_values.specs.Values.{is_beyond, is_value}
use Rattle.row_frames.specs.declared.tables.Pick.{Pick}

-- whether the value is true, and none where it is past its range
abbrev pub answer_of : Value → Option Bool
answer_of v = if is_beyond v then None else Some (is_value true v)

-- the picks whose answers are true
abbrev pub kept_by : List (Option Bool) → List Pick → List Pick
kept_by bs [] = []
kept_by [] (x ∷ xs) = []
kept_by (None ∷ bs) (x ∷ xs) = kept_by bs xs
kept_by (Some true ∷ bs) (x ∷ xs) = x ∷ kept_by bs xs
kept_by (Some false ∷ bs) (x ∷ xs) = kept_by bs xs

-- those picks were kept, or it is refused where one has no answer; `Memory` says nothing
abbrev pub Keeps : List (Option Bool) → List Pick → result.Result (Vec Pick) Refused → Type 0
Keeps bs xs r = Returns (λ (ys : Vec Pick). (ys.items ≡ kept_by bs xs) × (list_any is_none bs ≡ false)) (list_any is_none bs ≡ true) r
