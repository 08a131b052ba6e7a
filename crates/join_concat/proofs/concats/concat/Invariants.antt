use Rattle.std.proofs.Common.{◌≡◌, ◌++◌}
use Rattle.std.specs.Prelude.{flat_map}
use Rattle.std.specs.Vec.Iter.{into_iter_items}
use Rattle.join_concat.proofs.concats.concat.Given as goal

-- the rows so far and those of the lists that are left are the whole
abbrev pub invariant-loop-part : goal.invariant-loop-part
invariant-loop-part l = flat_map (λ part. part.items) l.fn.parts.items ≡ l.all.items ++ flat_map (λ part. part.items) (into_iter_items l.part-iterator)
