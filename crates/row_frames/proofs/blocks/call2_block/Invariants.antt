use Rattle.std.proofs.Common.{◌≡◌, ◌++◌, drop, map}
use Rattle.edm_values.specs.Values.{seen_value}
use Rattle.apply_meaning.specs.Instances.{call2}
use Rattle.row_frames.specs.Blocks.{paired}
use Rattle.row_frames.proofs.blocks.call2_block.Given as goal

-- those so far, and those of the values that are left
abbrev pub invariant-loop-k : goal.invariant-loop-k
invariant-loop-k l =
    map (λ v. seen_value v) l.found.items ++ paired (call2 l.f) (map (λ v. seen_value v) (drop l.k l.values)) (map (λ v. seen_value v) (drop l.k l.others))
    ≡ paired (call2 l.f) (map (λ v. seen_value v) l.values) (map (λ v. seen_value v) l.others)
