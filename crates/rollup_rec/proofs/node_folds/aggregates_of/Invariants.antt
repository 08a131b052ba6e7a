use Rattle.std.proofs.Common.{length}
use Rattle.rollup_rec.proofs.FoldSteps.{AreLeft}
use Rattle.rollup_rec.proofs.node_folds.aggregates_of.Given as goal

-- what is left and found, of all values of which partials were given
abbrev pub invariant-loop-kept : goal.invariant-loop-kept
invariant-loop-kept g l = AreLeft g.P.Partial.kind g.P.Partial.stands_for l.rows.numbers.now l.rows.lasts.now l.rows.nodes.now g.P.Aggregated.method l.fn.own.items l.own.items l.runs.items l.found.items

abbrev pub decreases-loop-kept : goal.decreases-loop-kept
decreases-loop-kept g l = length l.own.items
