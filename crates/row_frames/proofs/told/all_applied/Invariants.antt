use Rattle.std.proofs.Common.{◌≡◌, map, take}
use Rattle.edm_values.specs.Values.{seen_value}
use Rattle.row_frames.specs.Told.{operated}
use Rattle.row_frames.proofs.told.all_applied.Given as goal

-- those so far
abbrev pub invariant-loop-value : goal.invariant-loop-value
invariant-loop-value l = map (λ v. seen_value v) l.found.items ≡ map (operated l.o) (map (λ v. seen_value v) (take l.value-index l.values))
