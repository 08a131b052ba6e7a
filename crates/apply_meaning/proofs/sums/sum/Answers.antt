-- Each mantissa is added exactly, and the whole is the aggregate.
use Rattle.std.proofs.Common.{◌≡◌, ◌+ℤ◌, ◌∙◌, map, ap, sym, arith, to_z, of_z, pos}
use Rattle.std.specs.Int.{w128}
use Rattle.std.proofs.lemmas.Int.{ints}
use Rattle.std.proofs.lemmas.List.{take_all}
use Rattle.edm_values.specs.Values.{seen_value}
use Rattle.apply_meaning.specs.Aggregates.{number_in}
use Rattle.apply_meaning.proofs.SumLaws.{amount, amounts, amounts-more, first-number, no-number, sum-none, sum-there}
use Rattle.apply_meaning.proofs.sums.sum.Goals as goal

pub loop-value-preserved : goal.loop-value-preserved
loop-value-preserved c =
    let value = seen_value c.value-item.result in
    let exact : to_z w128 (of_z w128 (to_z w128 c.loop-value.sum-bits +ℤ to_z w128 (of_z w128 c.from-sum.result))) ≡ to_z w128 c.loop-value.sum-bits +ℤ amount value = omega (arith, ints) in
    (exact ∙ ap (λ s. s +ℤ amount value) c.loop-value.invariant.0 ∙ sym (amounts-more c.args.values.now c.loop-value.value-index c.value-item.result c.loop-value-test.true c.value-item.is), omega (arith, ints), omega (arith, ints))

pub number_like-requires : goal.number_like-requires
number_like-requires c = let n = c.requires.numbers in (first-number n.0 c.args.values.now c.in-Some.first (sym c.in-Some.ensures) n.2).number

pub returns : goal.returns
returns c =
    let n = c.requires.numbers in
    let f = first-number n.0 c.args.values.now c.in-Some.first (sym c.in-Some.ensures) n.2 in
    c.number_like.ensures n.0 f.kind_is
    ∙ ap (number_in n.0) (c.loop-value.invariant.0 ∙ ap (λ vs. amounts (pos 0) (map seen_value vs)) (take_all c.loop-value.value-index c.args.values.now (omega (arith, c.loop-value-test.false))))
    ∙ sym (sum-there n.0 (map seen_value c.args.values.now) n.1 n.2 c.requires.within f.there)

pub returns-in_default : goal.returns-in_default
returns-in_default c =
    let n = c.requires.numbers in
    sym (sum-none n.0 (map seen_value c.args.values.now) n.1 n.2 c.requires.within (no-number c.args.values.now (sym c.in_default.ensures)))
