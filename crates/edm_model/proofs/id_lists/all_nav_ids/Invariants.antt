use Rattle.std.proofs.Common.{◌≡◌, map, length}
use Rattle.edm_values.specs.Lists.{places}
use Rattle.edm_model.specs.LookUps.{parts, list_at}
use Rattle.edm_model.proofs.id_lists.all_nav_ids.Given as goal

abbrev pub invariant-loop-of : goal.invariant-loop-of
invariant-loop-of l =
    map (λ ids. ids.items) l.all.items ≡ map (λ t. parts t (length (list_at (λ e. e.navigations) l.types t))) (places l.of)
