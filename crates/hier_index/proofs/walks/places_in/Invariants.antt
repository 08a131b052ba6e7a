use Rattle.std.proofs.Common.{◌≡◌, ◌<◌, ℕ, length, slice_index}
use Rattle.hier_index.proofs.walks.places_in.Given as goal

-- each node so far has its place
abbrev pub invariant-loop-k : goal.invariant-loop-k
invariant-loop-k l = (length l.found.items ≡ length l.walked) × ((j : ℕ) → j < l.k → slice_index l.found.items (slice_index l.walked j) ≡ j)
