use Rattle.std.proofs.Common.{ℕ, List, length, subst, sym}
use Rattle.std.proofs.lemmas.Result.{IfOk-weaker}
use Rattle.numbered_groups.specs.Found.{AreNumbersBy, ArePairs, same_pair}
use Rattle.numbered_groups.proofs.PairLemmas.{by_pairs}
use Rattle.numbered_groups.proofs.refined.paired.Goals as goal

pub returns : goal.returns
returns g c =
    let before = c.args.before.now in
    let codes = c.args.codes.now in
    let P : List ℕ → Type 0 = λ pairs. ArePairs before codes c.args.bound pairs in
    let pairs : P c.as_slice.result.now = subst P (sym c.as_slice.ensures.value) c.in_ok-pairs.ensures in
    IfOk-weaker c.number_codes-2.result _ (λ n. AreNumbersBy (same_pair before codes) (length codes) n.numbers.items n.count)
    (λ n h. by_pairs before codes c.as_slice.result.now n.numbers.items c.args.bound n.count c.requires.below pairs h) c.number_codes-2.ensures
