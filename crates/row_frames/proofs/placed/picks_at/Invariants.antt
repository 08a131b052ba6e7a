use Rattle.std.proofs.Common.{◌≡◌, ◌++◌, drop}
use Rattle.edm_values.specs.Lists.{at_places}
use Rattle.row_frames.proofs.placed.picks_at.Given as goal

-- the picks so far and those at the places that are left are all
abbrev pub invariant-loop-at : goal.invariant-loop-at
invariant-loop-at l = at_places l.picks l.places ≡ l.found.items ++ at_places l.picks (drop l.at-index l.places)
