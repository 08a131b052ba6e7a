use Rattle.apply_ast.specs.Views.{named_of}
use Rattle.rewrite_laws.specs.TreeEquality.{named_same}
use Rattle.rewrite_forms.proofs.SameLists.{SameFrom}
use Rattle.rewrite_forms.proofs.same_items.same_computation.Given as goal

-- the items so far are equal
abbrev pub invariant-loop-i : goal.invariant-loop-i
invariant-loop-i l = SameFrom (λ x y. named_same (named_of x) (named_of y)) l.a l.b l.i
