use Rattle.std.proofs.Common.{◌≡◌, ◌++◌, map}
use Rattle.std.specs.Iterator.Adapters.{zip_first, zip_second}
use Rattle.std.specs.Slice.Iter.{iter_rest}
use Rattle.row_frames.specs.Beside.{repeated}
use Rattle.row_frames.proofs.joins.repeated_picks.Given as goal

-- the picks so far and those that are left are the whole
abbrev pub invariant-loop-pick : goal.invariant-loop-pick
invariant-loop-pick l = repeated l.outer l.picks (map (λ v. v.items) l.inner) ≡ l.all.items ++ repeated l.outer (iter_rest (zip_first l.pick-iterator)) (map (λ v. v.items) (iter_rest (zip_second l.pick-iterator)))
