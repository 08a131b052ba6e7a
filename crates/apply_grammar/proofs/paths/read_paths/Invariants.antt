use Rattle.std.proofs.Common.{◌≡◌, length}
use Rattle.apply_grammar.specs.Reading.{items_at, list_at, comma_at, path_at}
use Rattle.apply_grammar.proofs.Lists.{with_front}
use Rattle.apply_grammar.proofs.paths.read_paths.Given as goal

abbrev pub invariant-loop-behind : goal.invariant-loop-behind
invariant-loop-behind l = with_front (l.list.items) (items_at comma_at path_at (length l.rest) l.rest) ≡ list_at comma_at path_at l.text

abbrev pub decreases-loop-behind : goal.decreases-loop-behind
decreases-loop-behind l = length l.rest
