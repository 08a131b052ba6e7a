use Rattle.std.proofs.Common.{◌≡◌, true, map, take, drop}
use Rattle.std.specs.Prelude.{IfSome, is_some}
use Rattle.apply_ast.specs.Trees.{pipe}
use Rattle.apply_ast.specs.Views.{step_of}
use Rattle.context_typing.specs.Readings.{readings}
use Rattle.context_typing.specs.ShapeTypes.{has_types}
use Rattle.context_typing.specs.Typing.{steps_shape}
use Rattle.walk_laws.specs.Walks.{shape_behind}
use Rattle.optimiser.specs.CrossingForms.{IsCrossing}
use Rattle.optimiser.proofs.crossing.last_crossing.Given as goal

-- the last concatenation so far that filters cross, and the shape behind the steps so far
abbrev pub invariant-loop-at : goal.invariant-loop-at
invariant-loop-at l = record {
  found : IfSome l.found (IsCrossing l.m (readings l.c) l.start (map step_of l.steps));
  behind : l.shape ≡ shape_behind l.m (readings l.c) l.start (pipe (map step_of (take l.at l.steps)));
  types : has_types l.m l.shape ≡ true;
  typed : is_some (steps_shape l.m (readings l.c) l.shape (pipe (map step_of (drop l.at l.steps)))) ≡ true;
}
