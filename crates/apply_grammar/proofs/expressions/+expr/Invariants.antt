use Rattle.std.proofs.Common.{◌≡◌, ◌+◌, ◌*◌, ◌≤◌}
use Rattle.apply_ast.specs.Views.{expr_of}
use Rattle.apply_grammar.specs.Limits.{served}
use Rattle.apply_grammar.specs.Reading.{primary, parens, goes, climb}
use Rattle.apply_grammar.proofs.expressions.+expr.Given as goal

abbrev pub decreases-read_inner : goal.decreases-read_inner
decreases-read_inner l = 524288 * l.depth + 8 * l.ops

abbrev pub decreases-read_paren : goal.decreases-read_paren
decreases-read_paren l = 524288 * l.depth + 8 * l.ops + 1

abbrev pub decreases-read_call1 : goal.decreases-read_call1
decreases-read_call1 l = 524288 * l.depth + 8 * l.ops + 2

abbrev pub decreases-read_call2 : goal.decreases-read_call2
decreases-read_call2 l = 524288 * l.depth + 8 * l.ops + 2

abbrev pub decreases-read_call : goal.decreases-read_call
decreases-read_call l = 524288 * l.depth + 8 * l.ops + 3

abbrev pub decreases-read_primary : goal.decreases-read_primary
decreases-read_primary l = 524288 * l.depth + 8 * l.ops + 4

abbrev pub decreases-read_signed : goal.decreases-read_signed
decreases-read_signed l = 524288 * l.depth + 8 * l.ops + 5

abbrev pub decreases-read_level : goal.decreases-read_level
decreases-read_level l = 524288 * l.depth + 8 * l.ops + 6

abbrev pub invariant-read_level-loop-op : goal.invariant-read_level-loop-op
invariant-read_level-loop-op l =
    (goes (primary served (parens served l.depth)) l.level (expr_of l.left) l.ops l.rest ≡ climb (primary served (parens served l.depth)) l.level l.fn.ops l.fn.text) × (l.ops ≤ l.fn.ops)

abbrev pub decreases-read_level-loop-op : goal.decreases-read_level-loop-op
decreases-read_level-loop-op l = l.ops
