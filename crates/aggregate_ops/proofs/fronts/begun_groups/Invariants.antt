use Rattle.std.proofs.Common.{◌≡◌, [], map, take}
use Rattle.aggregate_ops.specs.Fronts.{filled, key_at}
use Rattle.aggregate_ops.proofs.fronts.begun_groups.Given as goal

-- the groups so far
abbrev pub invariant-loop-first : goal.invariant-loop-first
invariant-loop-first l = l.begun.items ≡ filled (map (λ i. take l.front (key_at l.groups i)) (take l.first-index l.firsts)) []
