use Rattle.std.proofs.Common.{List, ◌∙◌, ◌∷◌, [], ◌++◌, ap, sym, map, Some}
use Rattle.edm_values.specs.Lists.{at_places}
use Rattle.apply_ast.specs.Views.{agg_of}
use Rattle.apply_ast.specs.declared.items.AggItem as code
use Rattle.context_typing.specs.Readings.{readings}
use Rattle.apply_meaning.specs.Instances.{Instance, no_instance}
use Rattle.apply_meaning.specs.Meaning.{item_value}
use Rattle.apply_meaning.proofs.MeaningEquations.{step_mean-Aggregate}
use Rattle.step_run.proofs.item_lists.aggregated_at.Goals as goal

pub returns-clause-mean : goal.returns-clause-mean
returns-clause-mean g c = λ S h.
    let x = c.args.context.now in
    let l = at_places c.args.rows.now c.args.places.now in
    let row : List code.AggItem → Instance = λ xs. record no_instance { columns = map (item_value x.world (readings x.customs) S l) (map agg_of xs) } in
    step_mean-Aggregate x.world (readings x.customs) S (map agg_of c.args.items.now) l
    ∙ ap Some (sym (c.in_ok-push.ensures.items ∙ (λ i. c.new-made.ensures.items i ++ (c.in_ok-row_at.ensures.row S h ∙ (λ j. row (c.as_slice-items.ensures.value j))) i ∷ [])))
