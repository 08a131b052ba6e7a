use Rattle.std.proofs.Common.{◌≡◌, ◌++◌, drop}
use Rattle.edm_values.specs.Lists.{at_places}
use Rattle.apply_ast.specs.Views.{expr_of}
use Rattle.apply_meaning.specs.Meaning.{values}
use Rattle.row_values.proofs.lists.row_values_at.Given as goal

-- the values so far and those at the places that are left are all
abbrev pub invariant-loop-at : goal.invariant-loop-at
invariant-loop-at l = values l.store (expr_of l.e) (at_places l.rows l.places) ≡ l.found.items ++ values l.store (expr_of l.e) (at_places l.rows (drop l.at-index l.places))
