use Rattle.std.proofs.Common.{◌≡◌, take, map}
use Rattle.edm_values.specs.Values.{seen_value}
use Rattle.apply_ast.specs.Views.{expr_of}
use Rattle.apply_meaning.specs.Meaning.{values}
use Rattle.apply_meaning.proofs.aggregations.seen_values.Given as goal

-- the values so far
abbrev pub invariant-loop-row : goal.invariant-loop-row
invariant-loop-row l = map seen_value l.found.items ≡ values l.store (expr_of l.e) (take l.row-index l.rows)
