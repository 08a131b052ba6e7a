use Rattle.std.proofs.Common.{◌≡◌, ◌+◌, ◌≤◌, ◌++◌, map, take}
use Rattle.edm_model.specs.LookUps.{HierarchyPlace}
use Rattle.apply_ast.specs.Views.{agg_of}
use Rattle.context_typing.specs.Readings.{readings}
use Rattle.context_typing.specs.Shapes.{Shape}
use Rattle.context_typing.specs.Typing.{root_type}
use Rattle.step_run.specs.KeyedTotals.{AreNodesOfAll, key_row}
use Rattle.step_run.proofs.keyed_totals.rows_at_node.Given as goal

-- the rows of the groups so far, and no more steps than these
abbrev pub invariant-loop-k : goal.invariant-loop-k
invariant-loop-k g l = record {
  rows : (f : HierarchyPlace) (S : Shape) → f.set ≡ l.set → AreNodesOfAll l.context.world f l.path l.rows l.set l.numbers l.all → root_type S ≡ l.root
      → l.made.items ≡ l.fn.made.items ++ map (λ g. key_row l.context.world (readings l.context.customs) S f (map agg_of l.items) l.plain l.path l.rows l.node g.0) (take l.k l.groups);
  spent : l.steps ≤ l.fn.steps + l.k;
  grown : l.fn.steps ≤ l.steps;
}
