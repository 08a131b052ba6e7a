use Rattle.std.proofs.Common.{◌≡◌, ◌≤◌, not, take}
use Rattle.std.specs.Prelude.{count_by}
use Rattle.numbered_groups.proofs.distincts.others.Given as goal

-- those so far are counted
abbrev pub invariant-loop-null : goal.invariant-loop-null
invariant-loop-null l = record {
  few : l.found ≤ l.null-index;
  counted : l.found ≡ count_by (λ b. not b) (take l.null-index l.nulls);
}
