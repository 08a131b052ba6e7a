use Rattle.std.proofs.Common.{◌≡◌, ◌++◌, map, take}
use Rattle.apply_ast.specs.Views.{pipe_of}
use Rattle.rewrite_places.proofs.trees.with_branch.Given as goal

abbrev pub invariant-loop-branch : goal.invariant-loop-branch
invariant-loop-branch l = map pipe_of l.all.items ≡ map pipe_of (take l.branch-index l.before)

abbrev pub invariant-loop-branch-2 : goal.invariant-loop-branch-2
invariant-loop-branch-2 l = map pipe_of l.all.items ≡ map pipe_of l.initial.all.items ++ map pipe_of (take l.branch-index l.rest)
