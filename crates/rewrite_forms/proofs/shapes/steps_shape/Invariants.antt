use Rattle.std.proofs.Common.{◌≡◌, true, Some, map, take}
use Rattle.apply_ast.specs.Trees.{pipe}
use Rattle.apply_ast.specs.Views.{step_of}
use Rattle.context_typing.specs.Readings.{readings}
use Rattle.context_typing.specs.ShapeTypes.{has_types}
use Rattle.context_typing.specs.Typing.{steps_shape}
use Rattle.rewrite_forms.proofs.shapes.steps_shape.Given as goal

-- the steps so far have a typing
abbrev pub invariant-loop-step : goal.invariant-loop-step
invariant-loop-step l = (has_types l.m l.shape ≡ true) × (steps_shape l.m (readings l.c) l.start (pipe (map step_of (take l.step-index l.steps))) ≡ Some l.shape)
