use Rattle.std.proofs.Common.{List, ◌∙◌, ◌∷◌, [], ◌++◌, ap, sym, subst, map, Some, IsTrue}
use Rattle.apply_ast.specs.Views.{agg_of}
use Rattle.apply_ast.specs.declared.items.AggItem as code
use Rattle.apply_meaning.specs.Instances.{Instance, no_instance}
use Rattle.apply_meaning.specs.Meaning.{item_value}
use Rattle.apply_meaning.specs.Running.{all_of}
use Rattle.apply_meaning.proofs.MeaningEquations.{step_mean-Aggregate}
use Rattle.apply_meaning.proofs.RunLemmas.{all-fit-of}
use Rattle.apply_meaning.proofs.plain.aggregation_rows.Goals as goal

pub aggregate_rows-requires-clause-of : goal.aggregate_rows-requires-clause-of
aggregate_rows-requires-clause-of g c =
    let r = c.requires.ready in
    subst (λ l. IsTrue (all_of c.args.store.now l)) (sym c.as_slice-3.ensures.value) (all-fit-of c.args.store.now r.1 c.args.rows.items r.3.fit)

pub returns-clause-mean : goal.returns-clause-mean
returns-clause-mean g c = λ c' S.
    let w = c.args.store.now in
    let row : List Instance → List code.AggItem → Instance = λ l xs. record no_instance { columns = map (item_value w c' S l) (map agg_of xs) } in
    step_mean-Aggregate w c' S (map agg_of c.args.items.now) c.args.rows.items
    ∙ ap Some (sym (c.in_ok-push.ensures.items ∙ (λ i. c.new-made.ensures.items i ++ (c.in_ok-aggregate_rows.ensures.row c' S ∙ (λ j. row (c.as_slice-3.ensures.value j) (c.as_slice-2.ensures.value j))) i ∷ [])))
