use Rattle.std.proofs.Common.{rules, ◌≡◌, true, min}
use Rattle.std.proofs.lemmas.Result.{IfOk-weaker}
use Rattle.numbered_groups.specs.Levels.{IsNumberingBy}
use Rattle.numbered_groups.proofs.FirstLemmas.{whole-numbers}
use Rattle.numbered_groups.proofs.groups.NumberedGroups.whole.Goals as goal

pub of-requires-clause-order : goal.of-requires-clause-order
of-requires-clause-order c =
    let count : c.min-count.result ≡ min c.args.rows 1 = search rules in
    (whole-numbers c.args.rows c.min-count.result c.in_ok-numbers.numbers.items (c.in_ok-numbers.ensures.items_if_clones_equal (λ y e. e)) count).order

pub of-requires-clause-there : goal.of-requires-clause-there
of-requires-clause-there c =
    let count : c.min-count.result ≡ min c.args.rows 1 = search rules in
    (whole-numbers c.args.rows c.min-count.result c.in_ok-numbers.numbers.items (c.in_ok-numbers.ensures.items_if_clones_equal (λ y e. e)) count).there

pub returns : goal.returns
returns c =
    let count : c.min-count.result ≡ min c.args.rows 1 = search rules in
    IfOk-weaker c.of.result _ (λ g. IsNumberingBy (λ i j. true) c.args.rows g)
    (λ g h. h (λ i j. true) c.args.rows (whole-numbers c.args.rows c.min-count.result c.in_ok-numbers.numbers.items (c.in_ok-numbers.ensures.items_if_clones_equal (λ y e. e)) count)) c.of.ensures
