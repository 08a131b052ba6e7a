use Rattle.std.proofs.Common.{length, subst}
use Rattle.std.proofs.lemmas.Result.{IfOk-weaker}
use Rattle.numbered_groups.specs.Found.{AreNumbersBy, same_pair}
use Rattle.numbered_groups.proofs.distincts.number_pairs.Goals as goal

pub returns : goal.returns
returns g c =
    let numbers = c.args.numbers.now in
    let own = c.args.values.now.numbers in
    let found = c.in_ok-pairs.pairs in
    let told = subst (λ vs. AreNumbersBy (same_pair numbers vs) (length vs) found.numbers.items found.count) c.numbers-own.ensures.value c.in_ok-pairs.ensures in
    IfOk-weaker c.of.result _ _ (λ n h. h (same_pair numbers own) (length own) told) c.of.ensures
