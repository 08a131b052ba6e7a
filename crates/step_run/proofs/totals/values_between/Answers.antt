use Rattle.std.proofs.Common.{◌≡◌, ◌∙◌, ◌-◌, ap, sym, drop, take, Some}
use Rattle.std.specs.Prelude.{option_map, slice_get}
use Rattle.edm_values.proofs.OptionFacts.{some_value}
use Rattle.step_run.proofs.totals.values_between.Goals as goal

pub returns-in-Some-own : goal.returns-in-Some-own
returns-in-Some-own c = λ v e.
    let there : slice_get c.args.lists.now c.args.k ≡ Some (Some c.in-Some-own.values) = sym c.list_at.ensures ∙ ap (option_map (λ o. o.now)) c.in-Some.is ∙ ap Some c.in-Some-own.is in
    (c.in-Some-own.values, there, sym (some_value e) ∙ ap (λ us. take (c.args.end - c.args.first) (drop c.args.first us)) c.as_slice.ensures.value)
