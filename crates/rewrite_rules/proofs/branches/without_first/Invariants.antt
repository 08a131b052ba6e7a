use Rattle.std.proofs.Common.{◌≡◌, map, take}
use Rattle.apply_ast.specs.Views.{pipe_of}
use Rattle.rewrite_rules.specs.Branches.{without_first}
use Rattle.rewrite_rules.proofs.branches.without_first.Given as goal

-- the branches so far have lost their first steps
abbrev pub invariant-loop-branch : goal.invariant-loop-branch
invariant-loop-branch l = map pipe_of l.made.items ≡ map without_first (map pipe_of (take l.branch-index l.branches))
