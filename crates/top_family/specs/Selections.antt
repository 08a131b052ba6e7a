-- What a selection from the top or the bottom of a list of values answers (Data Aggregation 4.0, section 3.3.1).
use Rattle.std.specs.Prelude.{◌≡◌, ℕ, List, map, Option, Some, None}
use Rattle.std.specs.declared.result.Result as result
use Rattle.std.specs.Global.{Vec}
use Rattle.edm_values.specs.declared.Seen.{Seen}
use Rattle.edm_values.specs.declared.Value.{Value}
use Rattle.edm_values.specs.declared.refusals.Refused.{Refused}
use Rattle.edm_values.specs.Values.{seen_value}
use Rattle.edm_values.specs.Refusals.{Returns}

-- the values that are seen
abbrev pub seen_values : List Seen → List Value
seen_values = map seen_value

-- what a selection returned: the places that it takes, or a refusal where none are defined; `Memory` says nothing
abbrev pub Takes : Option (List ℕ) → result.Result (Vec ℕ) Refused → Type 0
Takes places r = Returns (λ (v : Vec ℕ). places ≡ Some v.items) (places ≡ None) r
