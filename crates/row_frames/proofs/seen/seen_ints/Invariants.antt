use Rattle.std.proofs.Common.{◌≡◌, map, take}
use Rattle.edm_values.specs.Values.{seen_value}
use Rattle.row_frames.specs.Folded.{int_of}
use Rattle.row_frames.proofs.seen.seen_ints.Given as goal

-- those so far
abbrev pub invariant-loop-pick : goal.invariant-loop-pick
invariant-loop-pick l = map (λ v. seen_value v) l.found.items ≡ map (int_of l.list) (take l.pick-index l.picks)
