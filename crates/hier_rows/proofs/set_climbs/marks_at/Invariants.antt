use Rattle.std.proofs.Common.{◌≡◌, ◌<◌, ℕ, false, get_or, length, take}
use Rattle.std.specs.Prelude.{nat_eq}
use Rattle.std.specs.List.{list_any}
use Rattle.hier_rows.proofs.set_climbs.marks_at.Given as goal

-- the places so far are marked, and no other
abbrev pub invariant-loop-at : goal.invariant-loop-at
invariant-loop-at l = record {
  size : length l.marks.items ≡ l.count;
  marks : (k : ℕ) → k < l.count → get_or l.marks.items k false ≡ list_any (nat_eq k) (take l.at-index l.found);
}
