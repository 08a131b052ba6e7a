use Rattle.std.proofs.Common.{◌≡◌, take}
use Rattle.apply_ast.specs.Views.{expr_of}
use Rattle.custom_agg.specs.CustomValues.{results_at}
use Rattle.custom_agg.proofs.groups.group_values.Given as goal

-- the results so far
abbrev pub invariant-loop-k : goal.invariant-loop-k
invariant-loop-k g l = l.results.items ≡ results_at l.store (expr_of l.e) l.method l.rows (take l.k l.groups)
