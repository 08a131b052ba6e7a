use Rattle.std.proofs.Common.{◌≡◌, true, take}
use Rattle.std.specs.List.{list_all}
use Rattle.apply_ast.specs.Views.{expr_of}
use Rattle.apply_meaning.specs.Meaning.{values}
use Rattle.aggregate_ops.specs.Partials.{is_of_every_kind}
use Rattle.row_values.proofs.aggregates.kind_on.Given as goal

-- no value so far has a type of its own
abbrev pub invariant-loop-row : goal.invariant-loop-row
invariant-loop-row l = list_all is_of_every_kind (take l.row-index (values l.store (expr_of l.e) l.rows)) ≡ true
