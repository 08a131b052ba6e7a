use Rattle.std.proofs.Common.{◌≤◌, ◌-◌, length}
use Rattle.context_typing.specs.Orders.{column_paths, columns_at}
use Rattle.context_typing.proofs.PathOrders.{IsNarrowed}
use Rattle.context_typing.proofs.orders.places_before.Given as goal

abbrev pub invariant-loop-low : goal.invariant-loop-low
invariant-loop-low l = record {
  ordered : l.low ≤ l.high;
  within : l.high ≤ length l.places;
  narrowed : IsNarrowed (column_paths (columns_at l.columns l.places)) l.path l.low l.high;
}

abbrev pub decreases-loop-low : goal.decreases-loop-low
decreases-loop-low l = l.high - l.low
