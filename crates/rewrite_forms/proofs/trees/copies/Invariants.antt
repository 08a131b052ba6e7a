use Rattle.std.proofs.Common.{◌≡◌, map, take}
use Rattle.apply_ast.specs.Views.{step_of}
use Rattle.rewrite_forms.proofs.trees.copies.Given as goal

abbrev pub invariant-loop-step : goal.invariant-loop-step
invariant-loop-step l = map step_of l.made.items ≡ map step_of (take l.step-index l.steps)
