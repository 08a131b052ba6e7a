use Rattle.std.proofs.Common.{ℕ, List, ◌≡◌, ◌∙◌, ap, sym, map}
use Rattle.std.proofs.lemmas.Result.{IfOk-weaker}
use Rattle.edm_values.specs.declared.Value.{Value}
use Rattle.edm_values.specs.Lists.{at_places, places}
use Rattle.apply_ast.specs.Views.{agg_of, expr_of}
use Rattle.apply_meaning.specs.Aggregates.{aggregate}
use Rattle.apply_meaning.specs.Meaning.{values}
use Rattle.numbered_groups.specs.Numbered.{places_with}
use Rattle.step_run.specs.GroupTotals.{values_by}
use Rattle.step_run.proofs.group_totals.item_values.Goals as goal

pub returns-in-Standard : goal.returns-in-Standard
returns-in-Standard g c =
    let w = c.args.context.now.world in
    let l = c.args.rows.now in
    let by : List ℕ → ℕ → List Value = λ ns m. map (λ j. aggregate c.in-Standard.method (at_places (values w (expr_of c.in-Standard.e) l) (places_with ns j))) (places m) in
    IfOk-weaker c.aggregates_by.result (λ vs. vs.items ≡ by c.numbers-numbers.result.now c.len-count.result) (λ vs. vs.items ≡ values_by w l c.args.groups.now (agg_of c.args.item.now))
    (λ vs e. e ∙ (λ i. by (c.numbers-numbers.ensures.value i) (c.len-count.ensures.value i)) ∙ sym (ap (λ i. values_by w l c.args.groups.now (agg_of i)) c.in-Standard.is))
    c.aggregates_by.ensures
