use Rattle.std.proofs.Common.{◌∙◌, ◌<◌, arith, length, subst, sym, take}
use Rattle.std.proofs.lemmas.List.{length-take-le, take_all}
use Rattle.edm_values.specs.declared.Value.TheVariants as value
use Rattle.edm_values.specs.Lists.{at_places}
use Rattle.par_stages.specs.Placed.{placed}
use Rattle.par_stages.proofs.Places.{length-placed, placed-more}
use Rattle.aggregate_ops.proofs.PlacedLemmas.{length-placed_at, place-read}
use Rattle.aggregate_ops.proofs.placed_folds.fold_at.Goals as goal

pub add-requires-clause-room : goal.add-requires-clause-room
add-requires-clause-room g c =
    let counted = (g.met.P.Partial g.world.𝓛 g.world.𝓜 g.world.𝓡 ((λ s x. x), (λ x. x), (λ x. x), λ x. x)).counted c.loop-k.partial _ c.loop-k.invariant.stands in
    let ws = at_places c.args.values.now c.args.places.now in
    let long = length-placed_at c.args.values.now c.args.places.now value.Null c.requires.within in
    let taken = length-take-le c.loop-k.k ws (omega arith) in
    omega (arith, counted, length-placed 0 (take c.loop-k.k ws), taken)

pub add-requires-clause-kind : goal.add-requires-clause-kind
add-requires-clause-kind g c =
    let vs = c.args.values.now in
    let ks = c.args.places.now in
    let x = c.index-values-at.result in
    let there : c.loop-k.k < length (at_places vs ks) = omega (arith, length-placed_at vs ks value.Null c.requires.within) in
    subst (λ k. g.P.Partial.takes k x) (sym c.loop-k.invariant.kind)
    (subst (g.P.Partial.takes (g.P.Partial.kind c.args.empty.now)) (sym (place-read vs ks c.loop-k.k x c.requires.within (omega arith) c.index-values-at.is)) (c.requires.kind c.loop-k.k x there))

pub loop-k-preserved : goal.loop-k-preserved
loop-k-preserved g c =
    let vs = c.args.values.now in
    let ks = c.args.places.now in
    let x = c.index-values-at.result in
    let there : c.loop-k.k < length (at_places vs ks) = omega (arith, length-placed_at vs ks value.Null c.requires.within) in
    record {
      kind = c.in_ok-add.ensures.kind ∙ c.loop-k.invariant.kind;
      stands = subst (λ t. g.P.Partial.stands_for c.add.new.self t) (placed-more c.loop-k.k (at_places vs ks) x there (place-read vs ks c.loop-k.k x c.requires.within (omega arith) c.index-values-at.is)) (c.in_ok-add.ensures.added _ c.loop-k.invariant.stands);
    }

pub returns : goal.returns
returns g c =
    let vs = c.args.values.now in
    let ks = c.args.places.now in
    subst (λ ws. g.P.Partial.stands_for c.loop-k.partial (placed 0 ws)) (take_all c.loop-k.k (at_places vs ks) (omega (arith, length-placed_at vs ks value.Null c.requires.within, c.loop-k-test.false))) c.loop-k.invariant.stands
