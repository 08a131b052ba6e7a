use Rattle.std.proofs.Common.{◌∙◌, ℕ, List, ap, length, subst}
use Rattle.std.proofs.lemmas.Result.{IfOk-weaker}
use Rattle.numbered_groups.specs.Found.{AreNumbersBy, same_pair}
use Rattle.numbered_groups.specs.Levels.{IsNumberingBy}
use Rattle.numbered_groups.specs.Numbered.{Numbering}
use Rattle.numbered_groups.proofs.groups.NumberedGroups.with_column.Goals as goal

pub returns : goal.returns
returns g c =
    let codes = c.args.column.now.codes in
    let found = c.in_ok-numbers.numbers in
    let P : List ℕ → List ℕ → Type 0 = λ before cs. AreNumbersBy (same_pair before cs) (length cs) found.numbers.items found.count in
    let first : P c.args.self.now.numbers c.as_slice-2.result.now = subst (λ before. P before c.as_slice-2.result.now) (c.as_slice.ensures.value ∙ ap (λ (s : Numbering). s.numbers) c.self.view_is) c.in_ok-numbers.ensures in
    let both : P c.args.self.now.numbers codes = subst (P c.args.self.now.numbers) c.as_slice-2.ensures.value first in
    IfOk-weaker c.of.result _ (λ n. IsNumberingBy (same_pair c.args.self.now.numbers codes) (length codes) n)
    (λ n h. h (same_pair c.args.self.now.numbers codes) (length codes) both) c.of.ensures
