use Rattle.std.proofs.Common.{◌≡◌, map, take}
use Rattle.edm_values.specs.Values.{seen_value}
use Rattle.apply_ast.specs.Views.{expr_of}
use Rattle.apply_meaning.specs.Meaning.{values}
use Rattle.row_values.proofs.seen.values_in_turn.Given as goal

-- the values so far
abbrev pub invariant-loop-row : goal.invariant-loop-row
invariant-loop-row l = map (λ v. seen_value v) l.seen.items ≡ values l.store (expr_of l.e) (take l.row-index l.rows)
