use Rattle.std.proofs.Common.{◌≡◌, ◌<◌, ◌∙◌, ℕ, length, ap, subst, arith, take, nat_eq, get_or}
use Rattle.std.specs.Prelude.{count_by}
use Rattle.std.proofs.lemmas.List.{get_or_default, take_all, length-set}
use Rattle.std.proofs.lemmas.List.Elements.{All-get_or}
use Rattle.step_run.proofs.ListedColumns.{counted-all, counted-more}
use Rattle.step_run.proofs.group_totals.counts.Goals as goal

pub loop-number-preserved : goal.loop-number-preserved
loop-number-preserved c =
    let n = length c.args.groups.now.firsts in
    let ns = c.args.groups.now.numbers in
    let xs = c.numbers-numbers.result.now in
    let k = c.loop-number.number-index in
    let at : ℕ = get_or xs k 0 in
    let is = c.numbers-numbers.ensures.value in
    let within : k < length ns = subst (λ xs. k < length xs) is c.loop-number-test.true in
    let here : at ≡ get_or ns k at = get_or_default xs k 0 at c.loop-number-test.true ∙ ap (λ xs. get_or xs k at) is in
    let small : at < n = All-get_or (λ a. a < n) xs k 0 c.loop-number-test.true c.numbers-numbers.ensures.there in
    record {
      size = length-set c.loop-number.counts.items at c.in_ok-more.more ∙ c.loop-number.invariant.size;
      counted = counted-more ns k at c.index.result.now c.in_ok-more.more n c.loop-number.counts.items within here small c.loop-number.invariant.size c.index.ensures c.in_ok-more.ensures c.loop-number.invariant.counted;
    }

pub returns : goal.returns
returns c =
    let ns = c.args.groups.now.numbers in
    let n = length c.args.groups.now.firsts in
    let k = c.loop-number.number-index in
    let is = ap length c.numbers-numbers.ensures.value in
    let test = c.loop-number-test.false in
    let all : take k ns ≡ ns = take_all k ns (omega (arith, is, test)) in
    counted-all ns c.loop-number.counts.items n c.loop-number.invariant.size (λ j h. c.loop-number.invariant.counted j h ∙ ap (count_by (λ y. nat_eq y j)) all)
