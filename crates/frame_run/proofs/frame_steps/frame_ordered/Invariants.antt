use Rattle.row_orders.proofs.ItemSorts.{SortedBehind}
use Rattle.frame_run.proofs.frame_steps.frame_ordered.Given as goal

-- the instances are in the order of the items so far, which are the last
abbrev pub invariant-loop-k : goal.invariant-loop-k
invariant-loop-k g l = SortedBehind l.store l.all l.k l.fn.frame l.frame
