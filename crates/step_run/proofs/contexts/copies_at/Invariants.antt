use Rattle.std.proofs.Common.{◌≡◌, ◌++◌, drop}
use Rattle.edm_values.specs.Lists.{at_places}
use Rattle.step_run.proofs.contexts.copies_at.Given as goal

-- the values so far and those at the places that are left are all
abbrev pub invariant-loop-at : goal.invariant-loop-at
invariant-loop-at l = at_places l.values l.places ≡ l.copies.items ++ at_places l.values (drop l.at-index l.places)
