use Rattle.std.proofs.Common.{◌∙◌, ap, subst, sym}
use Rattle.std.specs.List.{All}
use Rattle.std.proofs.lemmas.Result.{IfOk-weaker}
use Rattle.edm_values.specs.declared.Method.TheVariants as method
use Rattle.edm_values.specs.Lists.{at_places}
use Rattle.par_stages.specs.Placed.{placed}
use Rattle.apply_meaning.specs.Aggregates.{aggregate}
use Rattle.aggregate_ops.specs.Partials as partials
use Rattle.aggregate_ops.specs.Partials.{IsOfKind}
use Rattle.aggregate_ops.proofs.KindLemmas.{aggregate-placed, all-of_kind}
use Rattle.aggregate_ops.proofs.placed_folds.aggregate_places.Goals as goal

pub fold_at-requires-clause-kind : goal.fold_at-requires-clause-kind
fold_at-requires-clause-kind g c κs within = all-of_kind (at_places c.args.values.now c.args.places.now) c.new.result.kind c.kind_at-kind.result c.new.ensures.kind (c.kind_at-kind.ensures.typed c.args.method c.requires.kind)

pub fold_at-requires-in-Min-clause-kind : goal.fold_at-requires-in-Min-clause-kind
fold_at-requires-in-Min-clause-kind g c κs within = all-of_kind (at_places c.args.values.now c.args.places.now) c.new-in-Min.result.kind c.kind_at-kind.result c.new-in-Min.ensures.kind (c.kind_at-kind.ensures.typed c.args.method c.requires.kind)

pub fold_at-requires-in-Max-clause-kind : goal.fold_at-requires-in-Max-clause-kind
fold_at-requires-in-Max-clause-kind g c κs within = all-of_kind (at_places c.args.values.now c.args.places.now) c.new-in-Max.result.kind c.kind_at-kind.result c.new-in-Max.ensures.kind (c.kind_at-kind.ensures.typed c.args.method c.requires.kind)

pub pieces-requires-clause-kind : goal.pieces-requires-clause-kind
pieces-requires-clause-kind g c κs within =
    subst (All (IsOfKind c.new-empty.result.kind)) (sym (c.as_slice-values.ensures.value ∙ c.in_ok-values-in-CountDistinct.ensures))
    (all-of_kind (at_places c.args.values.now c.args.places.now) c.new-empty.result.kind c.kind_at-kind.result c.new-empty.ensures.kind (c.kind_at-kind.ensures.typed c.args.method c.requires.kind))

pub returns-in_ok-fold_at-in-Sum : goal.returns-in_ok-fold_at-in-Sum
returns-in_ok-fold_at-in-Sum g c =
    let ws = at_places c.args.values.now c.args.places.now in
    record { value = c.finish.ensures.value (placed 0 ws) c.in_ok-fold_at-in-Sum.ensures ∙ aggregate-placed method.Sum c.args.method ws c.in-Sum.is }

pub returns-in_ok-pieces-in-CountDistinct : goal.returns-in_ok-pieces-in-CountDistinct
returns-in_ok-pieces-in-CountDistinct g c = record { value = c.finish-in-CountDistinct-2.ensures.value (placed 0 c.as_slice-values.result.now) c.in_ok-pieces-in-CountDistinct.ensures.stands ∙ ap (λ vs. aggregate method.CountDistinct (partials.values (placed 0 vs))) (c.as_slice-values.ensures.value ∙ c.in_ok-values-in-CountDistinct.ensures) ∙ aggregate-placed method.CountDistinct c.args.method (at_places c.args.values.now c.args.places.now) c.in-CountDistinct.is }

pub returns-in_ok-fold_at-in-Min : goal.returns-in_ok-fold_at-in-Min
returns-in_ok-fold_at-in-Min g c =
    let ws = at_places c.args.values.now c.args.places.now in
    record {
      value = IfOk-weaker c.finish-in-Min-2.result _ _ (λ v e. e (placed 0 ws) c.in_ok-fold_at-in-Min.ensures ∙ aggregate-placed method.Min c.args.method ws c.in-Min.is) c.finish-in-Min-2.ensures.value;
    }

pub returns-in_ok-fold_at-in-Max : goal.returns-in_ok-fold_at-in-Max
returns-in_ok-fold_at-in-Max g c =
    let ws = at_places c.args.values.now c.args.places.now in
    record {
      value = IfOk-weaker c.finish-in-Max-2.result _ _ (λ v e. e (placed 0 ws) c.in_ok-fold_at-in-Max.ensures ∙ aggregate-placed method.Max c.args.method ws c.in-Max.is) c.finish-in-Max-2.ensures.value;
    }
