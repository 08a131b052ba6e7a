use Rattle.std.specs.Vec.Iter.{into_iter_items}
use Rattle.numbered_groups.proofs.SeenLemmas.{AreSeenTo}
use Rattle.numbered_groups.proofs.seen.numbers_of.Given as goal

-- the values so far have their numbers
abbrev pub invariant-loop-value : goal.invariant-loop-value
invariant-loop-value l = AreSeenTo l.fn.hashed.items (into_iter_items l.value-iterator) l.known.keys l.codes.items
