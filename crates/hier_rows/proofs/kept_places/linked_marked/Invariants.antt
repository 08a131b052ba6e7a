use Rattle.std.proofs.Common.{◌≡◌, false, filter, get_or, option_map, slice_index_or, unwrap_or}
use Rattle.edm_values.specs.Lists.{places}
use Rattle.edm_data.specs.LinkLists.{link_in}
use Rattle.hier_rows.proofs.kept_places.linked_marked.Given as goal

-- the rows so far whose node is marked
abbrev pub invariant-loop-k : goal.invariant-loop-k
invariant-loop-k l = l.rows.items ≡ filter (λ i. unwrap_or (option_map (λ x. slice_index_or l.marks x false) (link_in l.links (get_or l.places i 0))) false) (places l.k)
