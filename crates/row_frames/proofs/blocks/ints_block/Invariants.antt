use Rattle.std.proofs.Common.{◌≡◌, map, take}
use Rattle.edm_values.specs.declared.Value.{Value}
use Rattle.edm_values.specs.Values.{value_in}
use Rattle.row_frames.specs.Frames.{place_in}
use Rattle.row_frames.proofs.blocks.ints_block.Given as goal

-- those so far
abbrev pub invariant-loop-row : goal.invariant-loop-row
invariant-loop-row l = map Value.Int l.found.items ≡ map (λ x. value_in (map Value.Int l.list) (place_in l.roots x.row)) (take l.row-index l.rows)
