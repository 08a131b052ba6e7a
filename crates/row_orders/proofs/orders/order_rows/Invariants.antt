use Rattle.row_orders.proofs.ItemSorts.{SortedBehind}
use Rattle.row_orders.proofs.orders.order_rows.Given as goal

-- the rows are in the order of the items so far, which are the last
abbrev pub invariant-loop-k : goal.invariant-loop-k
invariant-loop-k l = SortedBehind l.store l.all l.k l.fn.rows.items l.rows.items
