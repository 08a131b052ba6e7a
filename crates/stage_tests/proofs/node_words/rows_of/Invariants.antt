use Rattle.hier_traverse.specs.Rows.{AreRowsOf}
use Rattle.stage_tests.proofs.node_words.rows_of.Given as goal

abbrev pub invariant-loop-name : goal.invariant-loop-name
invariant-loop-name l = AreRowsOf l.count l.rows.items
