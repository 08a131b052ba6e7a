use Rattle.std.proofs.Common.{◌≡◌, drop, map}
use Rattle.std.specs.List.{list_all}
use Rattle.apply_ast.specs.Views.{step_of}
use Rattle.step_run.specs.KeptGroups.{is_keeping}
use Rattle.step_run.proofs.kept_groups.all_keep.Given as goal

-- whether all do is told by those that are left
abbrev pub invariant-loop-step : goal.invariant-loop-step
invariant-loop-step l = list_all is_keeping (map step_of l.steps) ≡ list_all is_keeping (map step_of (drop l.step-index l.steps))
