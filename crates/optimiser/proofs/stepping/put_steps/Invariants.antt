use Rattle.std.proofs.Common.{◌≡◌, true, map, drop}
use Rattle.std.specs.Prelude.{is_some}
use Rattle.apply_ast.specs.Trees.{pipe}
use Rattle.apply_ast.specs.Views.{step_of}
use Rattle.context_typing.specs.Readings.{readings}
use Rattle.context_typing.specs.ShapeTypes.{has_types}
use Rattle.context_typing.specs.Typing.{steps_shape}
use Rattle.optimiser.specs.HeldSegments.{are_right, are_there, segments_of}
use Rattle.optimiser.specs.IdleForms.{frame}
use Rattle.optimiser.specs.KnownSteps.{are_known}
use Rattle.optimiser.specs.WalkRules.{rules_named}
use Rattle.walk_laws.specs.Walks as spec
use Rattle.optimiser.proofs.stepping.put_steps.Given as goal

-- what is put behind the segments so far is the steps that are left
abbrev pub invariant-loop-at : goal.invariant-loop-at
invariant-loop-at l = record {
  value : spec.put_steps (rules_named l.rules) l.m (readings l.c) l.shape (pipe (map step_of (drop l.at l.steps))) (segments_of l.m (frame (rules_named l.rules) (readings l.c) (map step_of l.steps)) l.segments.items) ≡ spec.put_steps (rules_named l.rules) l.m (readings l.c) l.start (pipe (map step_of l.steps)) spec.front;
  shape : spec.shape_behind l.m (readings l.c) l.shape (pipe (map step_of (drop l.at l.steps))) ≡ spec.shape_behind l.m (readings l.c) l.start (pipe (map step_of l.steps));
  types : has_types l.m l.shape ≡ true;
  typed : is_some (steps_shape l.m (readings l.c) l.shape (pipe (map step_of (drop l.at l.steps)))) ≡ true;
  right : are_right l.m l.segments.items ≡ true;
  there : are_there l.m (readings l.c) (map step_of l.steps) l.known l.segments.items ≡ true;
  known : are_known l.m (readings l.c) l.shape (pipe (map step_of (drop l.at l.steps))) (drop l.at l.known) ≡ true;
}
