use Rattle.rollup_rec.specs.NodeFolds.{AreLasts}
use Rattle.rollup_rec.proofs.node_folds.lasts_by_number.Given as goal

-- those of the nodes so far stand there
abbrev pub invariant-loop-x : goal.invariant-loop-x
invariant-loop-x l = AreLasts l.numbers l.lasts l.x l.found.items
