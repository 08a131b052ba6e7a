use Rattle.std.proofs.Common.{◌≡◌, map, take}
use Rattle.edm_values.specs.Values.{seen_value}
use Rattle.apply_meaning.specs.Instances.{call1}
use Rattle.row_frames.proofs.blocks.call1_block.Given as goal

-- those so far
abbrev pub invariant-loop-value : goal.invariant-loop-value
invariant-loop-value l = map (λ v. seen_value v) l.found.items ≡ map (call1 l.f) (map (λ v. seen_value v) (take l.value-index l.values))
