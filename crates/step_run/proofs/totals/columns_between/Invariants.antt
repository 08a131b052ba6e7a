use Rattle.std.proofs.Common.{◌≡◌, ◌-◌, drop, take, map}
use Rattle.edm_values.specs.Lists.{at_places}
use Rattle.apply_ast.specs.Views.{agg_of}
use Rattle.context_typing.specs.Readings.{readings}
use Rattle.context_typing.specs.Shapes.{Shape}
use Rattle.context_typing.specs.Typing.{root_type}
use Rattle.apply_meaning.specs.Meaning.{item_value}
use Rattle.step_run.proofs.totals.columns_between.Given as goal

-- the columns of the items so far, by any shape with this type at its empty prefix
abbrev pub invariant-loop-k : goal.invariant-loop-k
invariant-loop-k g l = (S : Shape) → root_type S ≡ l.root
    → l.columns.items ≡ map (item_value l.context.world (readings l.context.customs) S (at_places l.rows (take (l.end - l.first) (drop l.first l.places)))) (map agg_of (take l.k l.items))
