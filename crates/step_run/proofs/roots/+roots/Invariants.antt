use Rattle.std.proofs.Common.{◌≡◌, List, drop, map, Some}
use Rattle.edm_values.specs.Lists.{all_some}
use Rattle.edm_model.specs.Models.{Model}
use Rattle.apply_ast.specs.Trees.{pipe}
use Rattle.apply_ast.specs.Views.{pipe_of, pipes_from, pipes_of, step_of}
use Rattle.context_typing.specs.Shapes.{Shape}
use Rattle.context_typing.specs.Typing.{Customs, branch_shapes, root_type, steps_shape}
use Rattle.step_run.proofs.BranchRoots.{Passed}
use Rattle.step_run.proofs.roots.+roots.Given as goal

-- the rest is typed from a shape with this type at its empty prefix to the last one
abbrev pub invariant-root_behind-loop-step : goal.invariant-root_behind-loop-step
invariant-root_behind-loop-step l =
    (m : Model) (c : Customs) (S S' : Shape) → steps_shape m c S (pipe_of l.pipe) ≡ Some S' → root_type S ≡ l.fn.root
    → (T : Shape) × (steps_shape m c T (pipe (map step_of (drop l.step-index l.step-items))) ≡ Some S') × (root_type T ≡ l.root)

-- the shapes after the branches so far have types at their empty prefixes, the first of which this is
abbrev pub invariant-root_of_branches-loop-branch : goal.invariant-root_of_branches-loop-branch
invariant-root_of_branches-loop-branch l =
    (m : Model) (c : Customs) (S : Shape) (Ss : List Shape) → all_some (branch_shapes m c S (pipes_of l.branches)) ≡ Some Ss → root_type S ≡ l.fn.root
    → Passed m c S Ss (pipes_from (map pipe_of (drop l.branch-index l.branch-items))) l.first
