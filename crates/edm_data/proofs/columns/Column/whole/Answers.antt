use Rattle.std.proofs.Common.{rules, ◌≡◌, length, ◌∙◌, sym}
use Rattle.edm_data.proofs.ColumnLemmas.{column-whole}
use Rattle.edm_data.proofs.columns.Column.whole.Goals as goal

pub returns-then-are : goal.returns-then-are
returns-then-are c =
    let at = c.self.inside.places in
    let vs = c.self.inside.values in
    let n = c.self.inside.count in
    let size : length at ≡ n = c.are.ensures.size c.if-are.true in
    let count : length vs ≡ n = search rules in
    sym c.self.view_is ∙ column-whole at vs n c.self.invariant.below c.are.ensures.rising size count
