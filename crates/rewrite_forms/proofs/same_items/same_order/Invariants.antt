use Rattle.apply_ast.specs.Views.{item_of}
use Rattle.rewrite_laws.specs.TreeEquality.{item_same}
use Rattle.rewrite_forms.proofs.SameLists.{SameFrom}
use Rattle.rewrite_forms.proofs.same_items.same_order.Given as goal

-- the items so far are equal
abbrev pub invariant-loop-i : goal.invariant-loop-i
invariant-loop-i l = SameFrom (λ x y. item_same (item_of x) (item_of y)) l.a l.b l.i
