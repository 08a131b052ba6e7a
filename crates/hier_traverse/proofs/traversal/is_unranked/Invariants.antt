use Rattle.std.proofs.Common.{◌≡◌, ℕ, ◌<◌, slice_index}
use Rattle.hier_traverse.proofs.traversal.is_unranked.Given as goal

-- the ranks so far are 0
abbrev pub invariant-loop-number : goal.invariant-loop-number
invariant-loop-number l = (i : ℕ) → i < l.number-index → slice_index l.rank i ≡ 0
