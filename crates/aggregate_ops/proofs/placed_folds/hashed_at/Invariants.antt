use Rattle.std.proofs.Common.{◌≡◌, take}
use Rattle.edm_values.specs.Lists.{at_places}
use Rattle.aggregate_ops.proofs.placed_folds.hashed_at.Given as goal

-- the values so far
abbrev pub invariant-loop-at : goal.invariant-loop-at
invariant-loop-at l = l.hashed.items ≡ take l.at-index (at_places l.values l.places)
