use Rattle.std.proofs.Common.{◌≡◌, ◌∙◌, ap, subst, sym}
use Rattle.std.proofs.lemmas.Result.{IfOk-weaker}
use Rattle.aggregate_ops.specs.Partials.{AreFoldable}
use Rattle.apply_meaning.specs.Aggregates as aggregates
use Rattle.edm_values.specs.Lists.{at_places}
use Rattle.step_run.proofs.contexts.Context.aggregate_at.Goals as goal

pub aggregate-requires-after_bounds : goal.aggregate-requires-after_bounds
aggregate-requires-after_bounds g c κs within = subst (AreFoldable c.args.method) (sym (c.as_slice.ensures.value ∙ c.in_ok-own.ensures)) c.requires.kind

pub returns : goal.returns
returns g c =
    IfOk-weaker c.aggregate.result _ (λ v. v ≡ aggregates.aggregate c.args.method (at_places c.args.values.now c.args.places.now)) (λ v e. e ∙ ap (aggregates.aggregate c.args.method) (c.as_slice.ensures.value ∙ c.in_ok-own.ensures)) c.aggregate.ensures.value
