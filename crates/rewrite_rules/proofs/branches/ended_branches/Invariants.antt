use Rattle.std.proofs.Common.{◌≡◌, map, take}
use Rattle.apply_ast.specs.Views.{pipe_of, step_of}
use Rattle.rewrite_laws.specs.Rewrites.{ended}
use Rattle.rewrite_rules.proofs.branches.ended_branches.Given as goal

-- the branches so far have the step at their ends
abbrev pub invariant-loop-branch : goal.invariant-loop-branch
invariant-loop-branch l = map pipe_of l.made.items ≡ map (λ p. ended p (step_of l.step)) (map pipe_of (take l.branch-index l.branches))
