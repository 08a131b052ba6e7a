use Rattle.std.proofs.Common.{◌≡◌, ◌∙◌, ap, arith, get_or, length}
use Rattle.std.proofs.lemmas.List.{get_or_read}
use Rattle.value_codes.specs.Codes.{CodeList}
use Rattle.numbered_groups.specs.Numbered.{no_codes}
use Rattle.numbered_groups.proofs.KeyLaws.{all-numbered}
use Rattle.numbered_groups.proofs.LevelLemmas.{column-more}
use Rattle.numbered_groups.proofs.levels.number_groups.Goals as goal

pub loop-at-preserved : goal.loop-at-preserved
loop-at-preserved g c =
    let columns = c.args.columns.now in
    let at = c.loop-at.at in
    let column = c.index-columns-at.result in
    let is : column ≡ get_or columns at no_codes = get_or_read columns at column c.loop-at-test.true c.index-columns-at.is no_codes in
    column-more columns c.args.rows at column c.loop-at.groups c.in_ok-next.next c.loop-at-test.true is (ap (λ (k : CodeList). length k.codes) is ∙ c.requires.long at no_codes c.loop-at-test.true) c.loop-at.invariant c.in_ok-next.ensures

pub returns : goal.returns
returns g c = record {
  value = λ keys size codes. all-numbered keys c.args.columns.now codes c.loop-at.at c.args.rows c.loop-at.groups (omega arith) size c.loop-at.invariant;
}
