use Rattle.std.proofs.Common.{◌≡◌, ◌++◌, ◌∷◌, [], drop}
use Rattle.edm_values.specs.Names.{Name}
use Rattle.edm_model.specs.LookUps.{IsSet}
use Rattle.apply_meaning.specs.Instances.{value_behind}
use Rattle.apply_meaning.proofs.lookups.entity_behind.Given as goal

abbrev pub invariant-loop-name : goal.invariant-loop-name
invariant-loop-name l = IsSet l.store.model l.at.set × ((n : Name) → value_behind l.store (l.names ++ n ∷ []) l.fn.e ≡ value_behind l.store (drop l.name-index l.names ++ n ∷ []) l.at)
