use Rattle.std.proofs.Common.{◌<◌, ◌∙◌, ap, length, map, subst}
use Rattle.std.specs.List.{All}
use Rattle.std.proofs.lemmas.Result.{IfOk-weaker}
use Rattle.edm_values.specs.Lists.{at_places}
use Rattle.edm_values.specs.Values.{is_null}
use Rattle.apply_ast.specs.Views.{expr_of}
use Rattle.apply_meaning.specs.Instances.{val}
use Rattle.apply_meaning.specs.Meaning.{values}
use Rattle.apply_meaning.specs.RowViews.{is_of}
use Rattle.apply_meaning.proofs.RootLemmas.{all-at_places}
use Rattle.row_values.proofs.DistinctLemmas.{nulls-at, rows-within}
use Rattle.row_values.proofs.distincts.told_nulls.Goals as goal

pub values_at-requires-clause-of : goal.values_at-requires-clause-of
values_at-requires-clause-of c = all-at_places (is_of c.args.store.now) c.args.list.now c.firsts.result.now c.requires.of

pub values_at-requires-clause-within : goal.values_at-requires-clause-within
values_at-requires-clause-within c = rows-within _ c.firsts.result.now (subst (λ n. All (λ f. f < n) c.firsts.result.now) c.requires.size c.firsts.ensures.there)

pub returns : goal.returns
returns c =
    let w = c.args.store.now in
    let l = c.args.list.now in
    let e = expr_of c.args.e.now in
    record {
      value = IfOk-weaker c.nulls.result _ _
          (λ ns made.
          made
          ∙ ap (map is_null) (c.as_slice.ensures.value ∙ c.in_ok-values.ensures.value ∙ ap (λ fs. values w e (at_places l fs)) c.firsts.ensures.value)
          ∙ nulls-at (λ i. val w i e) l c.args.found.now.firsts (subst (All (λ f. f < length l)) c.firsts.ensures.value (subst (λ n. All (λ f. f < n) c.firsts.result.now) c.requires.size c.firsts.ensures.there)))
          c.nulls.ensures;
    }
