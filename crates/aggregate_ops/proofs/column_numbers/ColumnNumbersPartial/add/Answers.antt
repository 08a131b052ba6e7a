use Rattle.std.proofs.Common.{subst, sym}
use Rattle.aggregate_ops.specs.ColumnNumbers.{AreNumbersAt}
use Rattle.aggregate_ops.proofs.ColumnNumberLaws.{numbers-next}
use Rattle.aggregate_ops.proofs.column_numbers.ColumnNumbersPartial.add.Goals as goal

pub returns-clause-added : goal.returns-clause-added
returns-clause-added c = λ xs h. numbers-next _ _ _ c.args.item.now _ xs c.in_ok-push.ensures.items c.number_at.ensures (subst (λ t. AreNumbersAt t xs) (sym c.self.view_is) h)
