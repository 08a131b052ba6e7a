-- The last value of some first values of a key, beside the number of those before it.
use Rattle.std.specs.Prelude.{◌≡◌, ℕ, Bool, ◌&&◌, ◌++◌, List, IsTrue, nat_eq}
use Rattle.std.specs.Cmp.{IsEquivalence, and_equiv, nat_eq_equiv, on_equiv, unsigned_Decides}
use Rattle.std.specs.Hash as fed
use Rattle.std.specs.Hash.{and-Alike, on_Alike, same_Alike}
use Rattle.edm_values.specs.declared.Value.{Value}
use Rattle.edm_values.specs.Values.{same_value}
use Rattle.aggregate_ops.specs.Numbers.{same_value_equiv, value_writes, value_writes_alike}

-- a value, and the number of the values before it
pub record KeyStepState : Type 0 where
  pub before : ℕ
  pub value : Value

-- the numbers are one, and the values the same
abbrev pub same_step : KeyStepState → KeyStepState → Bool
same_step a b = nat_eq a.before b.before && same_value a.value b.value

-- what a step gives the hash of a table
abbrev pub step_writes : KeyStepState → List (List ℕ)
step_writes s = fed.usize s.before ++ value_writes s.value

-- an equivalence
pub same_step_equiv : IsEquivalence same_step
same_step_equiv = and_equiv (on_equiv (λ s. s.before) nat_eq_equiv) (on_equiv (λ s. s.value) same_value_equiv)

-- the same step gives a hash the same
pub step_writes_alike : (x y : KeyStepState) → IsTrue (same_step x y) → step_writes x ≡ step_writes y
step_writes_alike = (and-Alike (on_Alike (λ s. s.before) (same_Alike fed.usize unsigned_Decides)) (on_Alike (λ s. s.value) (record { fed = value_writes_alike }))).fed
