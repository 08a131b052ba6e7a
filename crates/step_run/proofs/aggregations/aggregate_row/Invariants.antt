use Rattle.std.proofs.Common.{◌≡◌, take, map}
use Rattle.apply_ast.specs.Views.{agg_of}
use Rattle.context_typing.specs.Readings.{readings}
use Rattle.context_typing.specs.Shapes.{Shape}
use Rattle.context_typing.specs.Typing.{root_type}
use Rattle.apply_meaning.specs.Meaning.{item_value}
use Rattle.step_run.proofs.aggregations.aggregate_row.Given as goal

-- the columns of the items so far, by any shape with this type at its empty prefix
abbrev pub invariant-loop-item : goal.invariant-loop-item
invariant-loop-item g l = (S : Shape) → root_type S ≡ l.root → l.columns.items ≡ map (item_value l.context.world (readings l.context.customs) S l.rows) (map agg_of (take l.item-index l.items))
