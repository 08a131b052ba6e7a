use Rattle.std.proofs.Common.{◌∙◌, ap, subst, sym}
use Rattle.aggregate_ops.specs.ColumnNumbers.{AreNumbersAt}
use Rattle.aggregate_ops.proofs.ColumnNumberLaws.{numbers-behind}
use Rattle.aggregate_ops.proofs.column_numbers.ColumnNumbersPartial.merge.Goals as goal

pub returns-clause-merged : goal.returns-clause-merged
returns-clause-merged c = λ xs ys h k.
    numbers-behind _ _ _ xs ys (ap (λ s. s.columns) c.later.view_is ∙ c.requires.kind ∙ sym (ap (λ s. s.columns) c.self.view_is)) c.in_ok-append.ensures.items
    (subst (λ t. AreNumbersAt t xs) (sym c.self.view_is) h) (subst (λ t. AreNumbersAt t ys) (sym c.later.view_is) k)
