use Rattle.std.proofs.Common.{◌≡◌, ◌∙◌, ap, sym, subst, arith, None, take, ◌+ℤ◌, to_z, of_z}
use Rattle.std.specs.Prelude.{int_le}
use Rattle.std.specs.Int.{w128}
use Rattle.std.proofs.lemmas.Int.{ints, to_z-of_z}
use Rattle.edm_values.specs.Lists.{at_places}
use Rattle.edm_values.specs.Values.{number_part, seen_value}
use Rattle.top_family.proofs.Fronts.{first-front, found_below, none-more, place-more, whole-front}
use Rattle.top_family.specs.Selections.{seen_values}
use Rattle.top_family.specs.Thresholds.{is_reached, mantissas}
use Rattle.top_family.proofs.thresholds.front_reaching.Goals as goal

pub returns-then-sum-least-clause-front : goal.returns-then-sum-least-clause-front
returns-then-sum-least-clause-front c =
    let vs = seen_values c.args.values.now in
    let ks = c.args.ranking.now in
    let exact = to_z-of_z w128 c.args.least c.ranges.least in
    first-front (λ js. is_reached c.args.least (at_places vs js)) ks c.loop-k.k c.loop-k-test.true
    (subst (λ least. found_below (λ js. is_reached least (at_places vs js)) ks c.loop-k.k ≡ None) exact c.loop-k.invariant.3)
    ((λ i. int_le (sym exact i) (sym c.loop-k.invariant.0 i)) ∙ c.if-sum-least.true)

pub loop-k-preserved : goal.loop-k-preserved
loop-k-preserved c =
    let vs = seen_values c.args.values.now in
    let ks = c.args.ranking.now in
    let k = c.loop-k.k in
    let so_far = mantissas (at_places vs (take k ks)) in
    let amount = (number_part (seen_value c.value_at.result)).0 in
    let exact : to_z w128 (of_z w128 (to_z w128 c.loop-k.sum-bits +ℤ to_z w128 (of_z w128 c.from-sum.result))) ≡ to_z w128 c.loop-k.sum-bits +ℤ amount = omega (arith, ints) in (
      exact ∙ ap (λ s. s +ℤ amount) c.loop-k.invariant.0 ∙ ap (λ v. so_far +ℤ (number_part v).0) c.value_at.ensures ∙ sym (place-more vs ks k 0 c.loop-k-test.true),
      omega (arith, ints),
      omega (arith, ints),
      none-more (λ js. is_reached (to_z w128 (of_z w128 c.args.least)) (at_places vs js)) ks k c.loop-k.invariant.3 (ap (int_le (to_z w128 (of_z w128 c.args.least))) (sym c.loop-k.invariant.0) ∙ c.if-sum-least.false),
    )

pub returns-clause-front : goal.returns-clause-front
returns-clause-front c =
    let vs = seen_values c.args.values.now in
    let ks = c.args.ranking.now in
    let exact = to_z-of_z w128 c.args.least c.ranges.least in
    whole-front (λ js. is_reached c.args.least (at_places vs js)) ks c.loop-k.k (omega (arith, c.loop-k-test.false)) (omega (arith, c.loop-k.auto.k-end))
    (subst (λ least. found_below (λ js. is_reached least (at_places vs js)) ks c.loop-k.k ≡ None) exact c.loop-k.invariant.3)
