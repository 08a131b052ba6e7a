-- The first places by rank of parts of a list, which threads share.
use Rattle.std.specs.Prelude.{◌≡◌, ℕ, ◌++◌, ◌∷◌, List, Ok, Err, map}
use Rattle.std.specs.declared.result.Result.{Result}
use Rattle.std.specs.Global.{Vec}
use Rattle.edm_values.specs.declared.refusals.Refused.{Refused}
use Rattle.edm_values.specs.declared.refusals.Refused.TheVariants as refused

-- one of the results, and none before it, is refused, since a value is past its range
abbrev pub HasPast : List (Result (Vec ℕ) Refused) → Type 0
HasPast rs = (ls : List (Vec ℕ)) × (rest : List (Result (Vec ℕ) Refused)) × (rs ≡ map Ok ls ++ Err refused.Range ∷ rest)
