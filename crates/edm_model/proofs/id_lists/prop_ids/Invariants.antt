use Rattle.std.proofs.Common.{◌≡◌}
use Rattle.edm_model.specs.LookUps.{parts}
use Rattle.edm_model.proofs.id_lists.prop_ids.Given as goal

abbrev pub invariant-loop-at : goal.invariant-loop-at
invariant-loop-at l =
    l.ids.items ≡ parts l.of l.at
