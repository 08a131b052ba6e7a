use Rattle.std.proofs.Common.{◌≡◌, take, map}
use Rattle.apply_ast.specs.Views.{agg_of}
use Rattle.context_typing.specs.Shapes.{Shape}
use Rattle.context_typing.specs.Typing.{Customs}
use Rattle.apply_meaning.specs.Meaning.{item_value}
use Rattle.apply_meaning.proofs.aggregations.aggregate_rows.Given as goal

-- the columns of the items so far, by any customs and any shape
abbrev pub invariant-loop-item : goal.invariant-loop-item
invariant-loop-item g l = (c : Customs) (S : Shape) → l.columns.items ≡ map (item_value l.store c S l.rows) (map agg_of (take l.item-index l.items))
