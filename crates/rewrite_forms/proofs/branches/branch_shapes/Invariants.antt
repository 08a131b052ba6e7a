use Rattle.std.proofs.Common.{◌≡◌, true, Some, map, take}
use Rattle.std.specs.List.{list_all}
use Rattle.edm_values.specs.Lists.{all_some}
use Rattle.apply_ast.specs.Views.{pipe_of}
use Rattle.context_typing.specs.Readings.{readings}
use Rattle.context_typing.specs.ShapeTypes.{has_types}
use Rattle.context_typing.specs.Typing.{steps_shape}
use Rattle.rewrite_forms.proofs.branches.branch_shapes.Given as goal

-- the branches so far have a typing
abbrev pub invariant-loop-branch : goal.invariant-loop-branch
invariant-loop-branch l =
    (list_all (has_types l.m) l.shapes.items ≡ true) × (all_some (map (steps_shape l.m (readings l.c) l.shape) (map pipe_of (take l.branch-index l.branches))) ≡ Some l.shapes.items)
