use Rattle.std.proofs.Common.{◌≡◌}
use Rattle.edm_values.specs.Lists.{places}
use Rattle.aggregate_ops.proofs.placed_keys.first_places.Given as goal

-- the numbers so far
abbrev pub invariant-loop-at : goal.invariant-loop-at
invariant-loop-at l = l.found.items ≡ places l.at
