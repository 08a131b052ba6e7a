use Rattle.std.proofs.Common.{◌≡◌, ◌<◌, ℕ, length, get_or, take, nat_eq}
use Rattle.std.specs.Prelude.{count_by}
use Rattle.numbered_groups.proofs.distincts.tallies.Given as goal

-- the numbers so far are counted
abbrev pub invariant-loop-number : goal.invariant-loop-number
invariant-loop-number l = record {
  size : length l.found.items ≡ l.count;
  counted : (j : ℕ) → j < l.count → get_or l.found.items j 0 ≡ count_by (λ n. nat_eq n j) (take l.number-index l.numbers);
}
