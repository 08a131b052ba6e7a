use Rattle.std.proofs.Common.{◌≡◌, ◌++◌, drop, map}
use Rattle.edm_values.specs.declared.Value.{Value}
use Rattle.edm_values.specs.Values.{either}
use Rattle.row_frames.specs.Blocks.{paired}
use Rattle.row_frames.proofs.typed_blocks.either_truth.Given as goal

-- those so far, and those of the values that are left
abbrev pub invariant-loop-k : goal.invariant-loop-k
invariant-loop-k l =
    map Value.Bool l.found.items ++ paired either (map Value.Bool (drop l.k l.list)) (map Value.Bool (drop l.k l.others))
    ≡ paired either (map Value.Bool l.list) (map Value.Bool l.others)
