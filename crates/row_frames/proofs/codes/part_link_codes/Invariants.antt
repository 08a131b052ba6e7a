use Rattle.std.proofs.Common.{◌<◌, ◌+◌, take}
use Rattle.std.specs.List.{All}
use Rattle.row_frames.specs.LinkCodes.{IsLinkCode}
use Rattle.row_frames.specs.Runs.{part_rows}
use Rattle.value_codes.specs.Above.{AreCoded}
use Rattle.row_frames.proofs.codes.part_link_codes.Given as goal

-- those so far
abbrev pub invariant-loop-k : goal.invariant-loop-k
invariant-loop-k l = AreCoded (IsLinkCode l.tables l.links) (take l.k (part_rows l.part)) l.codes.items × All (λ c. c < l.count + 1) l.codes.items
