use Rattle.std.proofs.Common.{◌≡◌, ◌++◌, map}
use Rattle.std.specs.Vec.Iter.{into_iter_items}
use Rattle.aggregate_ops.proofs.groups.as_groups.Given as goal

-- the levels so far, and those that are left
abbrev pub invariant-loop-groups : goal.invariant-loop-groups
invariant-loop-groups l = map (λ l. l.items) l.fn.levels.items ≡ l.found.items ++ map (λ l. l.items) (into_iter_items l.groups-iterator)
