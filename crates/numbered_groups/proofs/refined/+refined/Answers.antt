use Rattle.std.proofs.Common.{rules, ◌∙◌, ◌+◌, ◌/◌, ◌<◌, ℕ, List, arith, length, subst, sym}
use Rattle.std.proofs.lemmas.Result.{IfOk-weaker}
use Rattle.numbered_groups.specs.Found.{AreNumbersBy, same_pair}
use Rattle.numbered_groups.proofs.PairLemmas.{by_digits, high-below, low-below}
use Rattle.numbered_groups.proofs.refined.+refined.Goals as goal

pub paired-requires-2-clause-below : goal.paired-requires-2-clause-below
paired-requires-2-clause-below g t c κs within =
    let some : 0 < c.max-room.result = search rules in
    high-below c.args.codes.now c.as_slice.result.now c.args.bound c.max-room.result some (c.as_slice.ensures.value ∙ c.in_ok-high.ensures) c.requires.below

pub refined-requires-clause-below : goal.refined-requires-clause-below
refined-requires-clause-below g t c κs within =
    let some : 0 < c.args.bound / c.max-room.result + 1 = omega arith in
    low-below c.args.codes.now c.as_slice-3.result.now (c.args.bound / c.max-room.result + 1) some (c.as_slice-3.ensures.value ∙ c.in_ok-low.ensures)

pub returns : goal.returns
returns g t c =
    let before = c.args.before.now in
    let codes = c.args.codes.now in
    let high = c.as_slice.result.now in
    let low = c.as_slice-3.result.now in
    let P : List ℕ → Type 0 = λ numbers. AreNumbersBy (same_pair before high) (length high) numbers c.in_ok-next.next.count in
    let next : P c.as_slice-2.result.now = subst P (sym c.as_slice-2.ensures.value) c.in_ok-next.ensures in
    IfOk-weaker c.refined.result _ (λ n. AreNumbersBy (same_pair before codes) (length codes) n.numbers.items n.count)
    (λ n h. by_digits before codes high low c.as_slice-2.result.now n.numbers.items (c.args.bound / c.max-room.result + 1) c.in_ok-next.next.count n.count
    (c.as_slice.ensures.value ∙ c.in_ok-high.ensures) (c.as_slice-3.ensures.value ∙ c.in_ok-low.ensures) next h) c.refined.ensures
