use Rattle.std.proofs.Common.{length, subst}
use Rattle.std.proofs.lemmas.Result.{IfOk-weaker}
use Rattle.numbered_groups.specs.Distincts.{same_values}
use Rattle.numbered_groups.specs.Found.{AreNumbersBy, same_code}
use Rattle.numbered_groups.proofs.DistinctLaws.{numbered-values}
use Rattle.numbered_groups.proofs.distincts.number_values.Goals as goal

pub returns : goal.returns
returns g c =
    let found = c.in_ok-numbers.numbers in
    let told = subst (λ cs. AreNumbersBy (same_code cs) (length cs) found.numbers.items found.count) c.as_slice.ensures.value c.in_ok-numbers.ensures in
    record { value = IfOk-weaker c.of.result _ _ (λ n h vs codes. h (same_values vs) (length vs) (numbered-values vs c.args.codes.now found.numbers.items found.count codes told)) c.of.ensures }
