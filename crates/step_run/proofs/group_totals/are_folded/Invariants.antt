use Rattle.std.proofs.Common.{◌≡◌, drop, map}
use Rattle.std.specs.List.{list_all}
use Rattle.apply_ast.specs.Views.{agg_of}
use Rattle.step_run.specs.GroupTotals.{is_folded}
use Rattle.step_run.proofs.group_totals.are_folded.Given as goal

-- what holds of all items is what holds of the rest
abbrev pub invariant-loop-item : goal.invariant-loop-item
invariant-loop-item l = list_all is_folded (map agg_of l.items) ≡ list_all is_folded (map agg_of (drop l.item-index l.items))
