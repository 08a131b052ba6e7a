use Rattle.std.proofs.Common.{◌≡◌, map, take}
use Rattle.apply_ast.specs.Views.{expr_of}
use Rattle.apply_meaning.specs.Meaning.{values}
use Rattle.row_values.proofs.computes.column_values.Given as goal

-- the values of the columns so far
abbrev pub invariant-loop-item : goal.invariant-loop-item
invariant-loop-item g l = map (λ c. c.items) l.lists.items ≡ map (λ x. values l.store (expr_of x.expr) l.rows) (take l.item-index l.items)
