use Rattle.std.proofs.Common.{◌∙◌, ◌++◌, ◌∷◌, [], ◌<◌, arith, length, sym}
use Rattle.std.proofs.lemmas.List.{take_all, take_more}
use Rattle.edm_values.specs.declared.Value.TheVariants as value
use Rattle.edm_values.specs.Lists.{at_places}
use Rattle.aggregate_ops.proofs.PlacedLemmas.{length-placed_at, place-read}
use Rattle.aggregate_ops.proofs.placed_folds.hashed_at.Goals as goal

pub loop-at-preserved : goal.loop-at-preserved
loop-at-preserved c =
    let vs = c.args.values.now in
    let ks = c.args.places.now in
    let i = c.loop-at.at-index in
    let x = c.index-values-at.result in
    let there : i < length (at_places vs ks) = omega (arith, length-placed_at vs ks value.Null c.requires) in
    c.in_ok-push.ensures.items
    ∙ (λ j. c.loop-at.invariant j ++ (c.of.ensures.value ∙ place-read vs ks i x c.requires (omega arith) c.index-values-at.is) j ∷ [])
    ∙ sym (take_more (at_places vs ks) i x there)

pub returns : goal.returns
returns c =
    let vs = c.args.values.now in
    let ks = c.args.places.now in
    c.loop-at.invariant ∙ take_all c.loop-at.at-index (at_places vs ks) (omega (arith, length-placed_at vs ks value.Null c.requires, c.loop-at-test.false))
