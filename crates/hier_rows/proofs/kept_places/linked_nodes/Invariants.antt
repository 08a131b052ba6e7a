use Rattle.std.proofs.Common.{◌≡◌, map, take}
use Rattle.edm_data.specs.LinkLists.{link_in}
use Rattle.hier_rows.proofs.kept_places.linked_nodes.Given as goal

abbrev pub invariant-loop-k : goal.invariant-loop-k
invariant-loop-k l = l.nodes.items ≡ map (link_in l.links) (take l.k l.places)
