use Rattle.std.proofs.Common.{◌≡◌, map, take}
use Rattle.edm_values.specs.Values.{negated, seen_value}
use Rattle.row_frames.proofs.blocks.negated_block.Given as goal

-- those so far
abbrev pub invariant-loop-value : goal.invariant-loop-value
invariant-loop-value l = map (λ v. seen_value v) l.found.items ≡ map (negated) (map (λ v. seen_value v) (take l.value-index l.values))
