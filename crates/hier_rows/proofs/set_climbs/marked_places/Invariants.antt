use Rattle.std.proofs.Common.{◌≡◌, false, filter, slice_index_or}
use Rattle.edm_values.specs.Lists.{places}
use Rattle.hier_rows.proofs.set_climbs.marked_places.Given as goal

-- the places so far that are marked
abbrev pub invariant-loop-k : goal.invariant-loop-k
invariant-loop-k l = l.found.items ≡ filter (λ i. slice_index_or l.marks i false) (places l.k)
