use Rattle.std.proofs.Common.{◌≡◌, ◌≤◌, true, length, map, take}
use Rattle.std.specs.List.{list_all}
use Rattle.apply_ast.specs.Views.{step_of}
use Rattle.optimiser.specs.CrossingForms.{crosses_by}
use Rattle.optimiser.proofs.crossing.count_crossing.Given as goal

-- the steps so far cross
abbrev pub invariant-loop-at : goal.invariant-loop-at
invariant-loop-at l = (l.at ≤ length l.steps) × (list_all (crosses_by l.m l.shape l.ways) (map step_of (take l.at l.steps)) ≡ true)
