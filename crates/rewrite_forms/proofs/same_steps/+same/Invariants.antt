use Rattle.apply_ast.specs.Views.{key_of, pipe_of, step_of}
use Rattle.rewrite_laws.specs.TreeEquality.{key_same, pipe_same, step_same}
use Rattle.rewrite_forms.proofs.SameLists.{SameFrom}
use Rattle.rewrite_forms.proofs.same_steps.+same.Given as goal

-- the steps so far are equal
abbrev pub invariant-same_pipe-loop-i : goal.invariant-same_pipe-loop-i
invariant-same_pipe-loop-i l = SameFrom (λ x y. step_same (step_of x) (step_of y)) l.steps l.others l.i

-- the branches so far are equal
abbrev pub invariant-same_branches-loop-i : goal.invariant-same_branches-loop-i
invariant-same_branches-loop-i l = SameFrom (λ x y. pipe_same (pipe_of x) (pipe_of y)) l.branches l.others l.i

-- the keys so far are equal
abbrev pub invariant-same_keys-loop-i : goal.invariant-same_keys-loop-i
invariant-same_keys-loop-i l = SameFrom (λ x y. key_same (key_of x) (key_of y)) l.keys l.others l.i
