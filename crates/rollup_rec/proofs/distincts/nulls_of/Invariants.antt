use Rattle.std.proofs.Common.{◌≡◌, ℕ, ◌<◌, false, get_or, length, map}
use Rattle.edm_values.specs.Values.{is_null, seen_value, value_in}
use Rattle.rollup_rec.proofs.distincts.nulls_of.Given as goal

-- the numbers of the rows so far are told
abbrev pub invariant-loop-row : goal.invariant-loop-row
invariant-loop-row l = record {
  size : length l.nulls.items ≡ l.codes.bound;
  told : (i : ℕ) → i < l.row → get_or l.nulls.items (get_or l.codes.codes i 0) false ≡ is_null (value_in (map seen_value l.values) i);
}
