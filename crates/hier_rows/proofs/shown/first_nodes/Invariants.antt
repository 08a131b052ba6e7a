use Rattle.std.proofs.Common.{◌≡◌}
use Rattle.edm_values.specs.Lists.{places}
use Rattle.hier_rows.proofs.shown.first_nodes.Given as goal

abbrev pub invariant-loop-node : goal.invariant-loop-node
invariant-loop-node l = l.nodes.items ≡ places l.node
