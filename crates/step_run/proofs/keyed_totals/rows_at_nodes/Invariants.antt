use Rattle.std.proofs.Common.{◌≡◌, ◌+◌, ◌≤◌, ◌++◌, length, map, drop}
use Rattle.std.specs.Prelude.{flat_map}
use Rattle.edm_model.specs.LookUps.{HierarchyPlace}
use Rattle.apply_ast.specs.Views.{agg_of}
use Rattle.context_typing.specs.Readings.{readings}
use Rattle.context_typing.specs.Shapes.{Shape}
use Rattle.context_typing.specs.Typing.{root_type}
use Rattle.step_run.specs.KeyedTotals.{AreNodesOfAll, rolled_rows}
use Rattle.step_run.proofs.keyed_totals.rows_at_nodes.Given as goal

-- the rows so far and those of the nodes that are left are the whole, and what is counted and left is the whole too
abbrev pub invariant-loop-entry : goal.invariant-loop-entry
invariant-loop-entry g l = record {
  rows : (f : HierarchyPlace) (S : Shape) → f.set ≡ l.set → AreNodesOfAll l.context.world f l.path l.rows l.set l.numbers l.all → root_type S ≡ l.root
      → flat_map (rolled_rows l.context.world (readings l.context.customs) S f (map agg_of l.items) l.plain l.path l.rows) l.rolled
      ≡ l.made.items ++ flat_map (rolled_rows l.context.world (readings l.context.customs) S f (map agg_of l.items) l.plain l.path l.rows) (drop l.entry-index l.rolled);
  spent : l.steps + length (flat_map (λ e. e.1) (drop l.entry-index l.rolled)) ≤ l.fn.steps + length (flat_map (λ e. e.1) l.rolled);
  grown : l.fn.steps ≤ l.steps;
}
