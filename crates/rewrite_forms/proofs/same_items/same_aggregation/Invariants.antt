use Rattle.apply_ast.specs.Views.{agg_of}
use Rattle.rewrite_laws.specs.TreeEquality.{agg_same}
use Rattle.rewrite_forms.proofs.SameLists.{SameFrom}
use Rattle.rewrite_forms.proofs.same_items.same_aggregation.Given as goal

-- the items so far are equal
abbrev pub invariant-loop-i : goal.invariant-loop-i
invariant-loop-i l = SameFrom (λ x y. agg_same (agg_of x) (agg_of y)) l.a l.b l.i
