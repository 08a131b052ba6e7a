use Rattle.std.proofs.Common.{◌∙◌, ap, refl, subst, sym}
use Rattle.std.specs.List.{All}
use Rattle.std.proofs.lemmas.Result.{IfOk-weaker}
use Rattle.edm_values.specs.declared.Method.TheVariants as by
use Rattle.par_stages.specs.Placed.{placed}
use Rattle.aggregate_ops.specs.Partials.{IsOfKind}
use Rattle.aggregate_ops.proofs.KindLemmas.{all-of_kind}
use Rattle.row_values.proofs.NumberedLemmas.{aggregates-numbered}
use Rattle.row_values.proofs.numbered.count_distinct.Goals as goal

pub pieces-requires-clause-kind : goal.pieces-requires-clause-kind
pieces-requires-clause-kind g c κs within =
    subst (λ s. All (IsOfKind s.empty.kind) c.args.values.now) (sym c.new-folds.ensures.value) (all-of_kind c.args.values.now c.new-empty.result.kind c.args.kind c.new-empty.ensures.kind c.requires.kind)

pub returns : goal.returns
returns g c =
    let kind = c.in_ok-all.ensures.kind in
    IfOk-weaker c.distinct_outcomes.result _ _
    (λ vs told. told (placed 0 c.args.values.now) c.in_ok-all.ensures.stands
    ∙ aggregates-numbered by.CountDistinct by.CountDistinct c.args.numbers.now _ c.args.count _ c.args.values.now refl (ap (λ k. k.0) kind ∙ ap (λ s. s.numbers) c.new-folds.ensures.value) (ap (λ k. k.1.0) kind ∙ ap (λ s. s.count) c.new-folds.ensures.value) c.requires.size)
    c.distinct_outcomes.ensures
