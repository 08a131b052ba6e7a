use Rattle.std.proofs.Common.{◌≡◌, true, map, take}
use Rattle.apply_ast.specs.Views.{step_of}
use Rattle.context_typing.specs.Readings.{readings}
use Rattle.context_typing.specs.ShapeTypes.{has_types}
use Rattle.rewrite_forms.specs.StepShapes.{shape_behind}
use Rattle.rewrite_forms.proofs.shapes.shape_behind.Given as goal

abbrev pub invariant-loop-step : goal.invariant-loop-step
invariant-loop-step l = (has_types l.m l.shape ≡ true) × (l.shape ≡ shape_behind l.m (readings l.c) l.start (map step_of (take l.step-index l.before)))
