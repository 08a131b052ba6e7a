use Rattle.std.proofs.Common.{◌≡◌, map, take}
use Rattle.hier_rows.specs.Sources.{own_at}
use Rattle.hier_rows.proofs.kept_places.own_nodes.Given as goal

abbrev pub invariant-loop-k : goal.invariant-loop-k
invariant-loop-k l = l.nodes.items ≡ map (own_at l.count) (take l.k l.places)
