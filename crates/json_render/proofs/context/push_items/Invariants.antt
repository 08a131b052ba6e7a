use Rattle.std.proofs.Common.{◌≡◌, ◌++◌}
use Rattle.std.specs.Prelude.{string_bytes}
use Rattle.json_render.specs.Bodies.{parenthesised, shape_items}
use Rattle.json_render.specs.ItemTexts.{filled, left_steps}
use Rattle.json_render.proofs.context.push_items.Given as goal

abbrev pub invariant-loop-item : goal.invariant-loop-item
invariant-loop-item l = filled l.text l.left.items ≡ string_bytes l.fn.text.bytes ++ parenthesised (shape_items l.shape)

abbrev pub decreases-loop-item : goal.decreases-loop-item
decreases-loop-item l = left_steps l.text l.left.items
