use Rattle.std.proofs.Common.{◌≡◌, drop, map, take}
use Rattle.apply_ast.specs.Views.{pipe_of, step_of}
use Rattle.rewrite_laws.specs.Rewrites.{pipe_or_identity}
use Rattle.optimiser.proofs.factoring.all_left.Given as goal

-- the pipelines so far
abbrev pub invariant-loop-list : goal.invariant-loop-list
invariant-loop-list l = map pipe_of l.made.items ≡ map (λ v. pipe_or_identity (drop l.at (map step_of v.items))) (take l.list-index l.lists)
