use Rattle.std.proofs.Common.{◌≡◌, false, [], flat_map, slice_index_or}
use Rattle.std.specs.Prelude.{if◌then◌else◌}
use Rattle.edm_values.specs.Lists.{places}
use Rattle.edm_data.specs.LinkLists.{linking_to}
use Rattle.hier_rows.proofs.set_climbs.linking_few.Given as goal

-- what refers to the marked nodes so far
abbrev pub invariant-loop-x : goal.invariant-loop-x
invariant-loop-x l = l.found.items ≡ flat_map (λ x. if slice_index_or l.marks x false then linking_to x l.links else []) (places l.x)
