use Rattle.std.proofs.Common.{◌≡◌, true, ◌∙◌, ◌<◌, IsTrue, ap, subst, sym, arith, length}
use Rattle.std.specs.List.{list_all}
use Rattle.std.proofs.lemmas.List.{take_all}
use Rattle.edm_values.specs.declared.Value.TheVariants as value
use Rattle.edm_values.specs.Lists.{at_places}
use Rattle.edm_values.specs.Literals.{is_of_kind}
use Rattle.aggregate_ops.specs.Partials.{is_of_every_kind}
use Rattle.aggregate_ops.proofs.KindLemmas.{every-more, none-taken, own-taken}
use Rattle.aggregate_ops.proofs.PlacedLemmas.{length-placed_at, place-read}
use Rattle.aggregate_ops.proofs.placed_folds.kind_at.Goals as goal

pub returns-in-Some : goal.returns-in-Some
returns-in-Some c =
    let vs = c.args.values.now in
    let ks = c.args.places.now in
    let i = c.loop-at.at-index in
    let x = c.index-values-at.result in
    let there : i < length (at_places vs ks) = omega (arith, length-placed_at vs ks value.Null c.requires) in
    let own = own-taken (at_places vs ks) c.in-Some.kind i x there (place-read vs ks i x c.requires (omega arith) c.index-values-at.is)
    (λ k h. c.in-Some.ensures.kind k (subst (λ v. IsTrue (is_of_kind k v)) (sym c.seen.ensures.value) h)) in
    record { taken = own.taken; typed = own.typed }

pub loop-at-preserved : goal.loop-at-preserved
loop-at-preserved c =
    let vs = c.args.values.now in
    let ks = c.args.places.now in
    let i = c.loop-at.at-index in
    let x = c.index-values-at.result in
    let there : i < length (at_places vs ks) = omega (arith, length-placed_at vs ks value.Null c.requires) in
    every-more (at_places vs ks) i x there (place-read vs ks i x c.requires (omega arith) c.index-values-at.is) (ap is_of_every_kind (sym c.seen.ensures.value) ∙ c.in_default.ensures.kind) c.loop-at.invariant

pub returns : goal.returns
returns c =
    let ws = at_places c.args.values.now c.args.places.now in
    let none : list_all is_of_every_kind ws ≡ true = ap (list_all is_of_every_kind) (sym (take_all c.loop-at.at-index ws (omega (arith, length-placed_at c.args.values.now c.args.places.now value.Null c.requires, c.loop-at-test.false)))) ∙ c.loop-at.invariant in
    let every = none-taken ws none in
    record { taken = every.taken; typed = every.typed }
