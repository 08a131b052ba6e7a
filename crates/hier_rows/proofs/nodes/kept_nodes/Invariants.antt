use Rattle.std.proofs.Common.{◌≡◌, map, take}
use Rattle.std.specs.Prelude.{option_and_then}
use Rattle.apply_meaning.specs.Instances.{root_of}
use Rattle.hier_rows.specs.Sources.{node_at}
use Rattle.hier_rows.proofs.nodes.kept_nodes.Given as goal

-- the nodes of the instances so far
abbrev pub invariant-loop-k : goal.invariant-loop-k
invariant-loop-k l = l.nodes.items ≡ map (λ i. option_and_then (λ e. node_at l.source e.at) (root_of i)) (take l.k l.list)
