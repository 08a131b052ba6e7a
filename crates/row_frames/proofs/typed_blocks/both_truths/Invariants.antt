use Rattle.std.proofs.Common.{◌≡◌, ◌++◌, drop, map}
use Rattle.edm_values.specs.declared.Value.{Value}
use Rattle.edm_values.specs.Values.{both}
use Rattle.row_frames.specs.Blocks.{paired}
use Rattle.row_frames.proofs.typed_blocks.both_truths.Given as goal

-- those so far, and those of the values that are left
abbrev pub invariant-loop-k : goal.invariant-loop-k
invariant-loop-k l =
    map Value.Bool l.found.items ++ paired both (map Value.Bool (drop l.k l.list)) (map Value.Bool (drop l.k l.others))
    ≡ paired both (map Value.Bool l.list) (map Value.Bool l.others)
