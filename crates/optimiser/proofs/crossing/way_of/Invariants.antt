use Rattle.std.proofs.Common.{◌≡◌, true, map, drop}
use Rattle.std.specs.List.{list_all}
use Rattle.std.specs.Prelude.{is_some}
use Rattle.apply_ast.specs.Trees.{Expr, pipe}
use Rattle.apply_ast.specs.Views.{pipe_of, step_of}
use Rattle.context_typing.specs.Readings.{readings}
use Rattle.context_typing.specs.ShapeTypes.{has_types}
use Rattle.context_typing.specs.Typing.{steps_shape}
use Rattle.walk_laws.specs.Crossing.{branch_crossed, sure_test}
use Rattle.optimiser.specs.HeldSegments.{passes}
use Rattle.optimiser.proofs.crossing.way_of.Given as goal

-- a filter that passes the steps so far crosses the branch where it crosses those that are left
abbrev pub invariant-loop-i : goal.invariant-loop-i
invariant-loop-i l = record {
  types : has_types l.m l.shape ≡ true;
  typed : is_some (steps_shape l.m (readings l.c) l.shape (pipe (map step_of (drop l.i l.steps)))) ≡ true;
  value : (e : Expr) → list_all (λ p. passes p (sure_test e)) l.passages.items ≡ true → branch_crossed l.m (readings l.c) l.shape (pipe (map step_of (drop l.i l.steps))) e ≡ true → branch_crossed l.m (readings l.c) l.start (pipe_of l.branch) e ≡ true;
}
