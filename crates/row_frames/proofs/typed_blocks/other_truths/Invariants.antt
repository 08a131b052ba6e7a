use Rattle.std.proofs.Common.{◌≡◌, map, take}
use Rattle.edm_values.specs.declared.Value.{Value}
use Rattle.edm_values.specs.Values.{negation}
use Rattle.row_frames.proofs.typed_blocks.other_truths.Given as goal

-- those so far
abbrev pub invariant-loop-x : goal.invariant-loop-x
invariant-loop-x l = map Value.Bool l.found.items ≡ map (negation) (map Value.Bool (take l.x-index l.list))
