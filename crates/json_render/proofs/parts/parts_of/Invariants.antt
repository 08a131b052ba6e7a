use Rattle.std.proofs.Common.{◌≤◌, ◌-◌, length, take}
use Rattle.json_render.specs.PartTexts.{AreParts}
use Rattle.json_render.proofs.parts.parts_of.Given as goal

abbrev pub invariant-loop-from : goal.invariant-loop-from
invariant-loop-from l = record {
  within : l.from ≤ length l.rows;
  parts : AreParts (take l.from l.rows) l.parts.items;
}

abbrev pub decreases-loop-from : goal.decreases-loop-from
decreases-loop-from l = length l.rows - l.from
