use Rattle.std.proofs.Common.{◌≡◌, ◌++◌, map}
use Rattle.apply_ast.specs.Views.{step_of}
use Rattle.rewrite_places.proofs.trees.with_rest.Given as goal

abbrev pub invariant-loop-step : goal.invariant-loop-step
invariant-loop-step l = map step_of l.all.items ≡ map step_of l.initial.all.items ++ map step_of l.yielded
