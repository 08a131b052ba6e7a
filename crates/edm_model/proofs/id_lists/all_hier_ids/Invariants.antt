use Rattle.std.proofs.Common.{◌≡◌, length}
use Rattle.std.specs.Prelude.{flat_map}
use Rattle.edm_values.specs.Lists.{places}
use Rattle.edm_model.specs.LookUps.{parts, list_at}
use Rattle.edm_model.proofs.id_lists.all_hier_ids.Given as goal

abbrev pub invariant-loop-of : goal.invariant-loop-of
invariant-loop-of l =
    l.ids.items ≡ flat_map (λ t. parts t (length (list_at (λ e. e.hierarchies) l.types t))) (places l.of)
