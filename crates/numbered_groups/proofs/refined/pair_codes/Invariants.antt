use Rattle.std.proofs.Common.{◌≡◌, ◌+◌, ◌*◌, ◌<◌, ℕ, get_or, length}
use Rattle.numbered_groups.proofs.refined.pair_codes.Given as goal

-- the pairs so far
abbrev pub invariant-loop-at : goal.invariant-loop-at
invariant-loop-at l = record {
  size : length l.pairs.items ≡ l.at;
  are : (i : ℕ) → i < l.at → get_or l.pairs.items i 0 ≡ get_or l.before i 0 * l.bound + get_or l.codes i 0;
}
