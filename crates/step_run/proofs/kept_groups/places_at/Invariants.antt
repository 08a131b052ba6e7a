use Rattle.std.proofs.Common.{◌≡◌, ◌++◌, drop}
use Rattle.edm_values.specs.Lists.{at_places}
use Rattle.step_run.proofs.kept_groups.places_at.Given as goal

-- the places so far and those that are left are the whole
abbrev pub invariant-loop-k : goal.invariant-loop-k
invariant-loop-k l = at_places l.places l.chosen ≡ l.found.items ++ at_places l.places (drop l.k-index l.chosen)
