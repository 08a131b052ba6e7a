use Rattle.std.proofs.Common.{◌≡◌, map, take}
use Rattle.edm_values.specs.declared.Value.{Value}
use Rattle.edm_values.specs.Values.{minus}
use Rattle.row_frames.proofs.typed_blocks.ints_difference.Given as goal

-- those so far
abbrev pub invariant-loop-x : goal.invariant-loop-x
invariant-loop-x l = map Value.Int l.found.items ≡ map (λ a. minus a (Value.Int l.y)) (map Value.Int (take l.x-index l.list))
