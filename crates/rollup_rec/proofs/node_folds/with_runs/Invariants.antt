use Rattle.std.proofs.Common.{◌+◌, List, length}
use Rattle.edm_values.specs.declared.Value.{Value}
use Rattle.rollup_rec.specs.NodeFolds.{AreOpen, HasRuns, HasValues, rows_between}
use Rattle.rollup_rec.proofs.node_folds.with_runs.Given as goal

-- what is kept so far, and the runs that are left, of whatever values these were kept
abbrev pub invariant-loop-next : goal.invariant-loop-next
invariant-loop-next g l = (vs : List Value) → HasValues g.P.Partial.kind g.P.Partial.stands_for (g.P.Partial.kind l.fn.own) vs (rows_between l.rows.numbers.now l.rows.nodes.now l.first (l.first + 1)) l.fn.own
    → AreOpen g.P.Partial.kind g.P.Partial.stands_for (g.P.Partial.kind l.fn.own) l.rows.numbers.now l.rows.lasts.now l.rows.nodes.now vs (length l.rows.numbers.now) (l.first + 1) l.fn.runs.items
    → HasRuns g.P.Partial.kind g.P.Partial.stands_for (g.P.Partial.kind l.fn.own) l.rows.numbers.now l.rows.lasts.now l.rows.nodes.now vs l.first l.last l.all l.runs.items

abbrev pub decreases-loop-next : goal.decreases-loop-next
decreases-loop-next g l = length l.runs.items
