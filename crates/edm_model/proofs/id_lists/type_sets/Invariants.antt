use Rattle.std.proofs.Common.{◌≡◌, ◌==◌, map}
use Rattle.std.specs.Prelude.{unwrap_or, position}
use Rattle.edm_values.specs.Lists.{places}
use Rattle.edm_model.proofs.id_lists.type_sets.Given as goal

abbrev pub invariant-loop-t : goal.invariant-loop-t
invariant-loop-t l =
    l.ids.items ≡ map (λ t. unwrap_or (position (λ s. s.of == t) l.sets) 0) (places l.t)
