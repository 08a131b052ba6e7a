use Rattle.apply_ast.specs.Views.{step_of}
use Rattle.rewrite_laws.specs.TreeEquality.{step_same}
use Rattle.rewrite_forms.proofs.SameLists.{SameFrom}
use Rattle.optimiser.proofs.same.same_pipe.Given as goal

-- the steps so far are equal
abbrev pub invariant-loop-i : goal.invariant-loop-i
invariant-loop-i l = SameFrom (λ x y. step_same (step_of x) (step_of y)) l.steps l.others l.i
