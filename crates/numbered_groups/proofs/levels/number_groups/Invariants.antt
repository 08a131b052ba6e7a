use Rattle.std.proofs.Common.{take}
use Rattle.numbered_groups.specs.Levels.{IsNumberingBy, same_at}
use Rattle.numbered_groups.proofs.levels.number_groups.Given as goal

-- the groups by the columns so far
abbrev pub invariant-loop-at : goal.invariant-loop-at
invariant-loop-at g l = IsNumberingBy (same_at (take l.at l.columns)) l.rows l.groups
