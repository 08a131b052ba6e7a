use Rattle.std.proofs.Common.{◌≡◌, true, take}
use Rattle.std.specs.List.{list_all}
use Rattle.edm_values.specs.Lists.{at_places}
use Rattle.aggregate_ops.specs.Partials.{is_of_every_kind}
use Rattle.aggregate_ops.proofs.placed_folds.kind_at.Given as goal

-- no value so far has a type of its own
abbrev pub invariant-loop-at : goal.invariant-loop-at
invariant-loop-at l = list_all is_of_every_kind (take l.at-index (at_places l.values l.places)) ≡ true
