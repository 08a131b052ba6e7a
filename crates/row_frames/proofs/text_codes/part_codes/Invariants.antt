use Rattle.std.proofs.Common.{◌<◌, ◌+◌, take}
use Rattle.std.specs.Prelude.{option_map}
use Rattle.std.specs.List.{All}
use Rattle.row_frames.specs.Runs.{part_rows}
use Rattle.row_frames.specs.TextCodes.{IsCodeThere}
use Rattle.value_codes.specs.Above.{AreCoded}
use Rattle.row_frames.proofs.text_codes.part_codes.Given as goal

-- those so far
abbrev pub invariant-loop-k : goal.invariant-loop-k
invariant-loop-k l = AreCoded (IsCodeThere l.table l.texts (option_map (λ k. k.now) l.fn.links)) (take l.k (part_rows l.part)) l.codes.items × All (λ c. c < l.null + 1) l.codes.items
