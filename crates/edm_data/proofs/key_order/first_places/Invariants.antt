use Rattle.std.proofs.Common.{◌≡◌}
use Rattle.edm_values.specs.Lists.{places}
use Rattle.edm_data.proofs.key_order.first_places.Given as goal

abbrev pub invariant-loop-place : goal.invariant-loop-place
invariant-loop-place l = l.all.items ≡ places l.place
