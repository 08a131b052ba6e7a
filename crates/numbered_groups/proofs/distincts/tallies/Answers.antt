use Rattle.std.proofs.Common.{◌≡◌, ◌<◌, ◌∙◌, ℕ, length, ap, nat_eq, get_or}
use Rattle.std.specs.Prelude.{count_by}
use Rattle.std.proofs.lemmas.List.{get_or_default, take_all, length-set}
use Rattle.std.proofs.lemmas.List.Elements.{All-get_or}
use Rattle.numbered_groups.proofs.DistinctLaws.{counted-all, counted-more}
use Rattle.numbered_groups.proofs.distincts.tallies.Goals as goal

pub loop-number-preserved : goal.loop-number-preserved
loop-number-preserved c =
    let n = c.args.count in
    let xs = c.args.numbers.now in
    let k = c.loop-number.number-index in
    let at : ℕ = get_or xs k 0 in
    let within : k < length xs = c.loop-number-test.true in
    let here : at ≡ get_or xs k at = get_or_default xs k 0 at within in
    let small : at < n = All-get_or (λ a. a < n) xs k 0 within c.requires.there in
    record {
      size = length-set c.loop-number.found.items at c.in_ok-more.more ∙ c.loop-number.invariant.size;
      counted = counted-more xs k at c.index.result.now c.in_ok-more.more n c.loop-number.found.items within here small c.loop-number.invariant.size c.index.ensures c.in_ok-more.ensures c.loop-number.invariant.counted;
    }

pub returns : goal.returns
returns c =
    let xs = c.args.numbers.now in
    let k = c.loop-number.number-index in
    counted-all xs c.loop-number.found.items c.args.count c.loop-number.invariant.size (λ j h. c.loop-number.invariant.counted j h ∙ ap (count_by (λ y. nat_eq y j)) (take_all k xs c.loop-number-test.false))
