use Rattle.std.proofs.Common.{map}
use Rattle.apply_ast.specs.Views.{item_of}
use Rattle.row_orders.specs.Orders.{before}
use Rattle.row_orders.specs.Ranks.{HaveRanks, IsFormerRank}
use Rattle.row_orders.proofs.ranks.sorted_ranks.Given as goal

-- the places so far have their ranks, and the last of these is kept
abbrev pub invariant-loop-k : goal.invariant-loop-k
invariant-loop-k l = HaveRanks (before (map item_of l.items)) l.sorted l.ranks.items l.k × IsFormerRank (before (map item_of l.items)) l.sorted l.k l.rank
