use Rattle.std.proofs.Common.{◌≡◌, length, map, take}
use Rattle.edm_values.specs.Lists.{at_places}
use Rattle.step_run.proofs.keyed_totals.node_members.Given as goal

-- the nodes at the lists of places so far
abbrev pub invariant-loop-places : goal.invariant-loop-places
invariant-loop-places l = record {
  value : map (λ v. v.items) l.all.items ≡ map (λ v. at_places l.nodes v.items) (take l.places-index l.members);
  long : map (λ v. length v.items) l.all.items ≡ map (λ v. length v.items) (take l.places-index l.members);
}
