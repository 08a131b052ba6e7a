use Rattle.context_typing.proofs.PathOrders.{order-none}
use Rattle.context_typing.proofs.columns.ColumnList.empty.Goals as goal

pub invariant_of-result : goal.invariant_of-result
invariant_of-result c = rw (c.new.ensures.items, c.new-2.ensures.items) order-none
