use Rattle.std.proofs.Common.{◌≡◌, map, take}
use Rattle.aggregate_ops.proofs.hashed.hashed_keys.Given as goal

-- the key lists so far
abbrev pub invariant-loop-list : goal.invariant-loop-list
invariant-loop-list l = l.keys.items ≡ map (λ k. k.items) (take l.list-index l.lists)
