-- How far numbers of one kind lie above the least of them.
use Rattle.std.specs.Prelude.{◌≡◌, ℕ, suc, ◌<◌, ℤ, pos, ◌+ℤ◌, false, List, length, get_or, slice_get, Some, IsTrue}
use Rattle.edm_values.specs.declared.Value.{Value}

-- one more than how far a number of this kind lies above the least, and 0 of null; integers are of kind 0, and decimals of the kind that is one more than their scale
abbrev pub IsCode : ℕ → ℤ → Value → ℕ → Type 0
IsCode kind least Value.Null c = c ≡ 0
IsCode kind least (Value.Int z) c = (0 < c) × (kind ≡ 0) × (z +ℤ pos 1 ≡ least +ℤ pos c)
IsCode kind least (Value.Dec d) c = (0 < c) × (kind ≡ suc d.scale) × (d.mantissa +ℤ pos 1 ≡ least +ℤ pos c)
IsCode kind least _ c = IsTrue false

-- each element has its number
pub record AreCoded {X : Type 0} (R : X → ℕ → Type 0) (xs : List X) (cs : List ℕ) : Type 0 where
  pub size : length cs ≡ length xs
  pub each : (k : ℕ) (x : X) → slice_get xs k ≡ Some x → R x (get_or cs k 0)
