use Rattle.std.proofs.Common.{◌≡◌, ℕ, ◌<◌}
use Rattle.std.specs.Prelude.{◌⊎◌, slice_index}
use Rattle.aggregate_ops.proofs.fronts.put_number.Given as goal

-- the places so far have the number
abbrev pub invariant-loop-place : goal.invariant-loop-place
invariant-loop-place l = record {
  put : (t : ℕ) → t < l.place-index → slice_index l.numbers (slice_index l.places t) ≡ l.number;
  others : (r : ℕ) → (slice_index l.numbers r ≡ slice_index l.initial.numbers r) ⊎ ((t : ℕ) × (t < l.place-index) × (slice_index l.places t ≡ r) × (slice_index l.numbers r ≡ l.number));
}
