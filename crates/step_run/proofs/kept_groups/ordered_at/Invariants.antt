use Rattle.std.proofs.Common.{length, IsTrue}
use Rattle.std.specs.Prelude.{nat_lt}
use Rattle.std.specs.List.{list_all}
use Rattle.edm_values.specs.Lists.{at_places}
use Rattle.row_orders.proofs.ItemSorts.{SortedBehind}
use Rattle.step_run.proofs.kept_groups.ordered_at.Given as goal

-- the places are places of the list, and the instances there are in the order of the items so far, which are the last
abbrev pub invariant-loop-k : goal.invariant-loop-k
invariant-loop-k g l =
    IsTrue (list_all (λ k. nat_lt k (length l.rows)) l.places.items)
    × SortedBehind l.context.world l.all l.k (at_places l.rows l.fn.places.items) (at_places l.rows l.places.items)
