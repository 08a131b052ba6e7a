use Rattle.std.proofs.Common.{◌∙◌, ap, map, subst, sym}
use Rattle.std.specs.List.{All}
use Rattle.edm_values.specs.declared.Method.TheVariants as method
use Rattle.edm_values.specs.Values.{seen_value}
use Rattle.par_stages.specs.Placed.{placed}
use Rattle.par_stages.proofs.Places.{items-placed}
use Rattle.apply_meaning.specs.Aggregates.{aggregate}
use Rattle.aggregate_ops.specs.Partials.{IsOfKind}
use Rattle.aggregate_ops.proofs.KindLemmas.{all-of_kind}
use Rattle.row_values.proofs.aggregates.distinct_read.Goals as goal

pub pieces-requires-clause-kind : goal.pieces-requires-clause-kind
pieces-requires-clause-kind g c κs within =
    subst (All (IsOfKind c.new-empty.result.kind)) (sym (c.as_slice-found.ensures.value ∙ c.in_ok-found.ensures ∙ ap (map (λ v. seen_value v)) c.as_slice.ensures.value ∙ c.in_ok-seen.ensures.value))
    (all-of_kind c.args.values.now c.new-empty.result.kind c.args.kind c.new-empty.ensures.kind c.requires.kind)

pub returns : goal.returns
returns g c =
    c.finish-2.ensures.value (placed 0 c.as_slice-found.result.now) c.in_ok-pieces.ensures.stands
    ∙ ap (aggregate method.CountDistinct) (items-placed 0 c.as_slice-found.result.now)
    ∙ ap (aggregate method.CountDistinct) (c.as_slice-found.ensures.value ∙ c.in_ok-found.ensures ∙ ap (map (λ v. seen_value v)) c.as_slice.ensures.value ∙ c.in_ok-seen.ensures.value)
