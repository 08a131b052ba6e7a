use Rattle.std.proofs.Common.{◌∙◌, ap, sym, Some}
use Rattle.std.specs.Prelude.{option_map}
use Rattle.step_run.proofs.item_lists.value_at.Goals as goal

pub known_value-requires-clause-values : goal.known_value-requires-clause-values
known_value-requires-clause-values g c κs within =
    c.requires.list c.in-Some-own.values (ap (option_map (λ o. o.now)) c.in-Some.is ∙ ap Some c.in-Some-own.is) ∙ ap Some (sym c.as_slice.ensures.value)
