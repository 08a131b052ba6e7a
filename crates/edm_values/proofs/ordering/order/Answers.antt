-- The order is the comparison, then the scales.
use Rattle.std.proofs.Common.{rules}
use Rattle.edm_values.proofs.ValueLaws.{order_by_comparison}
use Rattle.edm_values.proofs.ordering.order.Goals as goal

pub returns-in-Some : goal.returns-in-Some
returns-in-Some c = record { value = rw (order_by_comparison, ← c.in-Some.ensures.value) (search rules) }
