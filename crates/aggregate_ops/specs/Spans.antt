-- Keys that stand one after the other in a list of values: the words of this crate's own contracts.
use Rattle.std.specs.Prelude.{◌≡◌, ℕ, ◌-◌, ◌≤◌, All, List, drop, length, map, take}
use Rattle.edm_values.specs.declared.Value.{Value}
use Rattle.aggregate_ops.specs.declared.groups.Span.{Span}
use Rattle.aggregate_ops.specs.Fronts.{Entry}

-- the items from one place to before another
abbrev pub span : List Value → ℕ → ℕ → List Value
span values begin end = take (end - begin) (drop begin values)

-- the key that stands there, with its places
abbrev pub spanned : List Value → Span → Entry
spanned values s = (span values s.begin s.end, s.places.items)

-- where keys stand in a list of values, with their places
pub record AreSpansOf (values : List Value) (entries : List Entry) (spans : List Span) : Type 0 where
  pub within : All (λ s. (s.begin ≤ s.end) × (s.end ≤ length values)) spans
  pub are : map (spanned values) spans ≡ entries
