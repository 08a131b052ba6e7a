use Rattle.std.proofs.Common.{◌≡◌, ◌<◌, length}
use Rattle.apply_grammar.specs.Reading.{items_at, after, name_at, path_at}
use Rattle.apply_grammar.proofs.Lists.{with_front}
use Rattle.apply_grammar.proofs.paths.path_at.Given as goal

abbrev pub invariant-loop-behind : goal.invariant-loop-behind
invariant-loop-behind l = (with_front l.names.items (items_at (after 47) name_at (length l.rest) l.rest) ≡ path_at l.text) × (0 < length l.names.items)

abbrev pub decreases-loop-behind : goal.decreases-loop-behind
decreases-loop-behind l = length l.rest
