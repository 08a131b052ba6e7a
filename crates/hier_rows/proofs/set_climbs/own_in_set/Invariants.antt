use Rattle.std.proofs.Common.{◌≡◌, false, filter, option_map, slice_index_or, unwrap_or}
use Rattle.edm_values.specs.Lists.{places}
use Rattle.hier_rows.specs.Sources.{own_at}
use Rattle.hier_rows.proofs.set_climbs.own_in_set.Given as goal

-- the entities so far whose node is marked
abbrev pub invariant-loop-k : goal.invariant-loop-k
invariant-loop-k l = l.found.items ≡ filter (λ i. unwrap_or (option_map (λ x. slice_index_or l.marks x false) (own_at l.nodes i)) false) (places l.k)
