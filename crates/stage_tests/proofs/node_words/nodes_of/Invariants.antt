use Rattle.hier_traverse.specs.Rows.{AreNodesOf}
use Rattle.stage_tests.proofs.node_words.nodes_of.Given as goal

abbrev pub invariant-loop-name : goal.invariant-loop-name
invariant-loop-name l = AreNodesOf l.count l.starts.items
