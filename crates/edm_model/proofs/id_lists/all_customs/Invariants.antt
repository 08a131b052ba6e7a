use Rattle.std.proofs.Common.{◌≡◌, map}
use Rattle.std.specs.Prelude.{flat_map}
use Rattle.std.specs.List.{enumerate_from}
use Rattle.edm_values.specs.Lists.{places}
use Rattle.edm_model.specs.LookUps.{list_at}
use Rattle.edm_model.specs.IdLists.{custom_entry}
use Rattle.edm_model.proofs.id_lists.all_customs.Given as goal

abbrev pub invariant-loop-of : goal.invariant-loop-of
invariant-loop-of l =
    l.customs.items ≡ flat_map (λ t. map (custom_entry t) (enumerate_from 0 (list_at (λ e. e.customs) l.types t))) (places l.of)
