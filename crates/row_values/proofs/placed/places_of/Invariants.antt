use Rattle.std.proofs.Common.{◌≡◌, ◌++◌, drop}
use Rattle.edm_values.specs.Lists.{at_places}
use Rattle.row_values.proofs.placed.places_of.Given as goal

-- the places so far and those that are left are all
abbrev pub invariant-loop-at : goal.invariant-loop-at
invariant-loop-at l = at_places l.own l.places ≡ l.found.items ++ at_places l.own (drop l.at-index l.places)
