use Rattle.std.proofs.Common.{◌≡◌}
use Rattle.edm_values.specs.Lists.{places}
use Rattle.edm_model.proofs.id_lists.set_ids.Given as goal

abbrev pub invariant-loop-place : goal.invariant-loop-place
invariant-loop-place l =
    l.ids.items ≡ places l.place
