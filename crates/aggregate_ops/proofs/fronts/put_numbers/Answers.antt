use Rattle.std.proofs.Common.{◌≡◌, ◌∙◌, ◌<◌, length, subst, ap, arith, ℕ, List, []}
use Rattle.std.specs.Prelude.{◌⊎◌, slice_index}
use Rattle.std.proofs.lemmas.List.{get_or_read}
use Rattle.aggregate_ops.specs.Fronts.{AreNumberedTo, places_at}
use Rattle.aggregate_ops.proofs.FrontLemmas.{numbered-all, numbered-next}
use Rattle.aggregate_ops.proofs.fronts.put_numbers.Goals as goal

pub loop-i-init : goal.loop-i-init
loop-i-init c = λ n keys fronts are told j t less m. absurd (omega arith)

pub loop-i-preserved : goal.loop-i-preserved
loop-i-preserved c = λ n keys fronts are told.
    let groups = c.args.groups.now in
    let i = c.loop-i.i in
    let own : c.places.result.now ≡ places_at groups i = c.places.ensures ∙ ap (λ g. g.1) (get_or_read groups i c.index-groups-i.result c.loop-i-test.true c.index-groups-i.is ([], [])) in
    let new = c.put_number.new.numbers in
    let P : List ℕ → Type 0 = λ ps. (t : ℕ) → t < length ps → slice_index new (slice_index ps t) ≡ slice_index c.args.numbers.now i in
    let Q : List ℕ → Type 0 = λ ps. (r : ℕ) → (slice_index new r ≡ slice_index c.loop-i.found r) ⊎ ((t : ℕ) × (t < length ps) × (slice_index ps t ≡ r) × (slice_index new r ≡ slice_index c.args.numbers.now i)) in
    numbered-next (length c.args.found.now) n keys fronts groups c.args.numbers.now c.loop-i.found new i are told c.loop-i-test.true
    (subst P own c.put_number.ensures.put) (subst Q own c.put_number.ensures.others) (c.loop-i.invariant n keys fronts are told)

pub returns : goal.returns
returns c = λ n keys fronts are told.
    let all : c.loop-i.i ≡ length c.args.groups.now = omega arith in
    let P : ℕ → Type 0 = λ i. AreNumberedTo n keys fronts c.args.groups.now c.loop-i.found i in
    numbered-all (length c.args.found.now) n keys fronts c.args.groups.now c.loop-i.found are (omega arith) (subst P all (c.loop-i.invariant n keys fronts are told))
