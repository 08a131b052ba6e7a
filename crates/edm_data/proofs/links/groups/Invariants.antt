use Rattle.std.proofs.Common.{◌≡◌, ℕ}
use Rattle.edm_data.specs.LinkLists.{group_in, linking_before}
use Rattle.edm_data.proofs.links.groups.Given as goal

abbrev pub invariant-loop-place : goal.invariant-loop-place
invariant-loop-place l = (t : ℕ) → group_in l.groups t ≡ linking_before t l.links l.place
