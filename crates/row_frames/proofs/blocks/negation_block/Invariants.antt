use Rattle.std.proofs.Common.{◌≡◌, map, take}
use Rattle.edm_values.specs.Values.{negation, seen_value}
use Rattle.row_frames.proofs.blocks.negation_block.Given as goal

-- those so far
abbrev pub invariant-loop-value : goal.invariant-loop-value
invariant-loop-value l = map (λ v. seen_value v) l.found.items ≡ map (negation) (map (λ v. seen_value v) (take l.value-index l.values))
