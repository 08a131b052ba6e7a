use Rattle.std.proofs.Common.{take}
use Rattle.numbered_groups.specs.Levels.{AreLevelsTo, IsNumberingBy, same_at}
use Rattle.numbered_groups.proofs.levels.number_levels.Given as goal

-- the levels so far, and the groups by the columns so far
abbrev pub invariant-loop-at : goal.invariant-loop-at
invariant-loop-at g l = record {
  levels : AreLevelsTo l.least l.at l.columns l.rows l.found.items;
  groups : IsNumberingBy (same_at (take l.at l.columns)) l.rows l.groups;
}
