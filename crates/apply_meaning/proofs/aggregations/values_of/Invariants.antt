use Rattle.std.proofs.Common.{◌≡◌, take}
use Rattle.apply_ast.specs.Views.{expr_of}
use Rattle.apply_meaning.specs.Meaning.{values}
use Rattle.apply_meaning.proofs.aggregations.values_of.Given as goal

-- the values so far
abbrev pub invariant-loop-row : goal.invariant-loop-row
invariant-loop-row l = l.found.items ≡ values l.store (expr_of l.e) (take l.row-index l.rows)
