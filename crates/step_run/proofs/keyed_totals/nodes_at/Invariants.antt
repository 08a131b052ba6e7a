use Rattle.std.proofs.Common.{◌≡◌, ◌++◌, drop, length}
use Rattle.edm_values.specs.Lists.{at_places}
use Rattle.step_run.proofs.keyed_totals.nodes_at.Given as goal

-- the nodes so far and those at the places that are left are the whole
abbrev pub invariant-loop-place : goal.invariant-loop-place
invariant-loop-place l = record {
  rest : at_places l.nodes l.places ≡ l.own.items ++ at_places l.nodes (drop l.place-index l.places);
  long : length l.own.items ≡ l.place-index;
}
