use Rattle.std.proofs.Common.{◌≡◌, map, take}
use Rattle.edm_values.specs.declared.Value.{Value}
use Rattle.edm_values.specs.Values.{tested}
use Rattle.row_frames.specs.Blocks.{answer_to}
use Rattle.row_frames.proofs.typed_blocks.ints_answers.Given as goal

-- those so far
abbrev pub invariant-loop-x : goal.invariant-loop-x
invariant-loop-x l = map Value.Bool l.found.items ≡ map (λ a. tested (answer_to l.test) a (Value.Int l.y)) (map Value.Int (take l.x-index l.list))
