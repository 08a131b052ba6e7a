use Rattle.std.proofs.Common.{map, take}
use Rattle.apply_ast.specs.Views.{step_of}
use Rattle.step_run.specs.KeptGroups.{AreRead}
use Rattle.step_run.proofs.kept_groups.all_read.Given as goal

-- what the transformations so far read
abbrev pub invariant-loop-step : goal.invariant-loop-step
invariant-loop-step g l = AreRead l.context.world l.rows (map step_of (take l.step-index l.steps)) l.all.items
