use Rattle.std.proofs.Common.{◌≡◌, true, map, take, drop}
use Rattle.std.specs.List.{list_all}
use Rattle.std.specs.Prelude.{is_some}
use Rattle.apply_ast.specs.Trees.{pipe}
use Rattle.apply_ast.specs.Views.{pipe_of, pipes_from, step_of}
use Rattle.context_typing.specs.Readings.{readings}
use Rattle.context_typing.specs.ShapeTypes.{has_types}
use Rattle.context_typing.specs.Typing.{steps_shape}
use Rattle.optimiser.specs.KnownSteps.{are_known, branches_known}
use Rattle.walk_laws.specs.Walks.{shape_behind}
use Rattle.optimiser.proofs.known.+known.Given as goal

-- what is known of the branches so far
abbrev pub invariant-known_branches-loop-i : goal.invariant-known_branches-loop-i
invariant-known_branches-loop-i l = record {
  ends : l.ends.items ≡ map (λ p. shape_behind l.m (readings l.c) l.shape (pipe_of p)) (take l.i l.all);
  types : list_all (has_types l.m) l.ends.items ≡ true;
  inside : branches_known l.m (readings l.c) l.shape (pipes_from (map pipe_of (take l.i l.all))) l.inside.items ≡ true;
}

-- what is known of the steps so far, and the shape behind them
abbrev pub invariant-known_pipe-loop-i : goal.invariant-known_pipe-loop-i
invariant-known_pipe-loop-i l = record {
  at : l.shape ≡ shape_behind l.m (readings l.c) l.start (pipe (map step_of (take l.i l.steps)));
  types : has_types l.m l.shape ≡ true;
  known : are_known l.m (readings l.c) l.start (pipe (map step_of (take l.i l.steps))) l.known.items ≡ true;
  typed : is_some (steps_shape l.m (readings l.c) l.shape (pipe (map step_of (drop l.i l.steps)))) ≡ true;
}
