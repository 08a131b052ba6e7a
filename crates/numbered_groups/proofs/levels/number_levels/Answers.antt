use Rattle.std.proofs.Common.{◌≡◌, ◌∙◌, ap, arith, get_or, length, reverse, subst, take}
use Rattle.std.proofs.lemmas.List.{get_or_read}
use Rattle.value_codes.specs.Codes.{CodeList}
use Rattle.numbered_groups.specs.Numbered.{no_codes}
use Rattle.numbered_groups.specs.Levels.{AreLevelsTo, IsNumberingBy, same_at}
use Rattle.numbered_groups.proofs.KeyLaws.{levels-numbered}
use Rattle.numbered_groups.proofs.LevelLemmas.{column-more, levels-down, levels-more}
use Rattle.numbered_groups.proofs.levels.number_levels.Goals as goal

pub loop-at-preserved : goal.loop-at-preserved
loop-at-preserved g c =
    let columns = c.args.columns.now in
    let at = c.loop-at.at in
    let column = c.index-columns-at.result in
    let is : column ≡ get_or columns at no_codes = get_or_read columns at column c.loop-at-test.true c.index-columns-at.is no_codes in
    record {
      levels = levels-more c.args.least at columns c.args.rows c.loop-at.found.items c.keep_level.new.found.items c.loop-at.groups c.in_ok-keep_level.ensures.asked c.in_ok-keep_level.ensures.other c.loop-at.invariant.groups c.loop-at.invariant.levels;
      groups = column-more columns c.args.rows at column c.loop-at.groups c.in_ok-next.next c.loop-at-test.true is (ap (λ (k : CodeList). length k.codes) is ∙ c.requires.long at no_codes c.loop-at-test.true) c.loop-at.invariant.groups c.in_ok-next.ensures;
    }

pub returns : goal.returns
returns g c =
    let columns = c.args.columns.now in
    let all : c.loop-at.at ≡ length columns = omega arith in
    let levels : AreLevelsTo c.args.least (length columns) columns c.args.rows c.loop-at.found.items = subst (λ n. AreLevelsTo c.args.least n columns c.args.rows c.loop-at.found.items) all c.loop-at.invariant.levels in
    let last : IsNumberingBy (same_at (take (length columns) columns)) c.args.rows c.loop-at.groups = subst (λ n. IsNumberingBy (same_at (take n columns)) c.args.rows c.loop-at.groups) all c.loop-at.invariant.groups in
    record {
      value = λ keys size codes.
          levels-numbered keys columns codes c.args.least c.args.rows c.reverse.new.self.items size
          (levels-down c.args.least (length columns) columns c.args.rows c.loop-at.found.items c.loop-at.groups c.reverse.new.self.items c.requires.least last levels (c.reverse.ensures.items ∙ ap reverse c.in_ok-push.ensures.items));
    }
