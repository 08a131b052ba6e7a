use Rattle.std.proofs.Common.{◌≡◌, map, length}
use Rattle.apply_ast.specs.Views.{item_of}
use Rattle.apply_grammar.specs.Limits.{served}
use Rattle.apply_grammar.specs.Reading.{items_at, list_at, comma_at}
use Rattle.apply_grammar.specs.PipeReading.{item_at}
use Rattle.apply_grammar.proofs.Lists.{with_front}
use Rattle.apply_grammar.proofs.items.read_order.Given as goal

abbrev pub invariant-loop-behind : goal.invariant-loop-behind
invariant-loop-behind l = with_front (map item_of l.list.items) (items_at comma_at (item_at served l.depth) (length l.rest) l.rest) ≡ list_at comma_at (item_at served l.depth) l.text

abbrev pub decreases-loop-behind : goal.decreases-loop-behind
decreases-loop-behind l = length l.rest
