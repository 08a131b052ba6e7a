use Rattle.std.proofs.Common.{◌≡◌, true, ◌+◌, ◌+ℤ◌, ◌<◌, ◌^◌, ap, subst, sym, to_z, of_z, arith}
use Rattle.std.specs.Int.{w128}
use Rattle.std.proofs.lemmas.Int.{ints}
use Rattle.edm_values.specs.Literals.{is_of_kind}
use Rattle.edm_values.specs.Values.{seen_value}
use Rattle.apply_meaning.proofs.SumLaws.{amount}
use Rattle.aggregate_ops.specs.Partials.{IsSumOf}
use Rattle.aggregate_ops.proofs.PartialLemmas.{IsSumOf-next}
use Rattle.aggregate_ops.proofs.sums.SumOfSeenPartial.add_seen.Goals as goal

pub invariant_of-self : goal.invariant_of-self
invariant_of-self c =
    let room : c.self.inside.count + 1 < 2 ^ 63 = omega (arith, ap (λ s. s.count) c.self.view_is, c.requires.room) in
    (c.self.invariant.0, room, omega (arith, ints), omega (arith, ints))

pub returns-clause-added : goal.returns-clause-added
returns-clause-added c = λ xs h.
    let y = c.self.inside.mantissa in
    let z = c.from.result in
    let v = seen_value c.args.item in
    let exact : to_z w128 (of_z w128 (to_z w128 (of_z w128 y) +ℤ to_z w128 (of_z w128 z))) ≡ y +ℤ amount v = omega (arith, ints) in
    rw (c.is_number.ensures.value, c.is_beyond.ensures.value)
    (IsSumOf-next _ _ xs v _ (subst (λ s. is_of_kind s.kind v ≡ true) (sym c.self.view_is) c.requires.kind) exact (subst (λ s. IsSumOf s xs) (sym c.self.view_is) h))
