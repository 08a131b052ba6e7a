use Rattle.std.proofs.Common.{◌≡◌, ◌+◌, ◌≤◌, ◌++◌, drop, length, map}
use Rattle.std.specs.Prelude.{flat_map}
use Rattle.edm_model.specs.LookUps.{HierarchyPlace}
use Rattle.apply_ast.specs.Views.{agg_of}
use Rattle.context_typing.specs.Readings.{readings}
use Rattle.context_typing.specs.Shapes.{Shape}
use Rattle.context_typing.specs.Typing.{root_type}
use Rattle.step_run.specs.Totals.{AreNodesOf, totals, totals_at}
use Rattle.step_run.proofs.totals.rows_of_nodes.Given as goal

-- the rows so far and those of the nodes that are left are the whole, and no more steps are made than rows
abbrev pub invariant-loop-node : goal.invariant-loop-node
invariant-loop-node g l =
    ((f : HierarchyPlace) (S : Shape) → AreNodesOf l.context.world f l.totals.path.now l.rows l.set l.order.parents l.order.nodes → root_type S ≡ l.root
    → (totals l.context.world (readings l.context.customs) S f (map agg_of l.totals.items.now) l.totals.path.now l.shown l.rows
    ≡ l.made.items ++ flat_map (totals_at l.context.world (readings l.context.customs) S f (map agg_of l.totals.items.now) l.totals.path.now l.rows) (drop l.node-index l.shown))
    × (l.steps ≤ l.fn.steps + length l.made.items))
    × (l.fn.steps ≤ l.steps)
