use Rattle.std.proofs.Common.{take}
use Rattle.std.specs.List.{AllZip}
use Rattle.row_frames.specs.Gathered.{IsPartOf}
use Rattle.row_frames.proofs.gathered.gathered_prefixes.Given as goal

abbrev pub invariant-loop-prefix : goal.invariant-loop-prefix
invariant-loop-prefix l = AllZip (IsPartOf l.rows) (take l.prefix-index l.prefixes) l.made.items
