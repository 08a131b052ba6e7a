use Rattle.std.proofs.Common.{◌∙◌, ◌<◌, ◌++◌, ◌∷◌, [], arith, length, sym}
use Rattle.std.proofs.lemmas.Bool.Decides.{nat_tests}
use Rattle.aggregate_ops.proofs.PlacedLemmas.{one-group}
use Rattle.aggregate_ops.proofs.groups.Groups.whole.Goals as goal

pub returns : goal.returns
returns c =
    let some : 0 < length c.args.places.items = grind (arith, nat_tests, c.is_empty.ensures) in
    record { value = c.in_ok-push.ensures.items ∙ (λ i. c.new-groups.ensures.items i ++ c.in_ok-whole_group.ensures i ∷ []) ∙ sym (one-group c.args.places.items some) }
