use Rattle.std.proofs.Common.{◌≡◌, ◌<◌, ℕ, length, get_or, take, nat_eq}
use Rattle.std.specs.Prelude.{count_by}
use Rattle.step_run.proofs.group_totals.counts.Given as goal

-- the numbers so far are counted
abbrev pub invariant-loop-number : goal.invariant-loop-number
invariant-loop-number l = record {
  size : length l.counts.items ≡ length l.groups.firsts;
  counted : (k : ℕ) → k < length l.groups.firsts → get_or l.counts.items k 0 ≡ count_by (λ y. nat_eq y k) (take l.number-index l.groups.numbers);
}
