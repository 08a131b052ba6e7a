use Rattle.std.proofs.Common.{◌≡◌, ◌+◌, ◌*◌, ◌≤◌, ◌<◌, length, map}
use Rattle.apply_ast.specs.Views.{step_of, pipe_of, key_of}
use Rattle.apply_grammar.specs.Limits.{served}
use Rattle.apply_grammar.specs.PipeReading.{pipe_at, rest_at, more_at, some_at, key_at, below}
use Rattle.apply_grammar.proofs.PipeSteps.{step, with_steps, with_parts}
use Rattle.apply_grammar.proofs.pipelines.+pipe.Given as goal

abbrev pub decreases-read_call : goal.decreases-read_call
decreases-read_call l = 1048576 * l.depth + 16 * l.n + 15

abbrev pub decreases-read_groupby : goal.decreases-read_groupby
decreases-read_groupby l = 1048576 * l.depth + 16 * l.n + 9

abbrev pub decreases-read_keys : goal.decreases-read_keys
decreases-read_keys l = 1048576 * l.depth + 16 * l.n + 8

abbrev pub decreases-read_inner : goal.decreases-read_inner
decreases-read_inner l = 1048576 * l.depth + 16 * l.n + 8

abbrev pub decreases-read_concat : goal.decreases-read_concat
decreases-read_concat l = 1048576 * l.depth + 16 * l.n + 10

abbrev pub decreases-read_branches : goal.decreases-read_branches
decreases-read_branches l = 1048576 * l.depth + 16 * l.n + 9

abbrev pub decreases-read_pipe_list : goal.decreases-read_pipe_list
decreases-read_pipe_list l = 1048576 * l.depth + 16 * l.n + 8

abbrev pub decreases-read_join : goal.decreases-read_join
decreases-read_join l = 1048576 * l.depth + 16 * l.n + 9

abbrev pub decreases-read_climb : goal.decreases-read_climb
decreases-read_climb l = 1048576 * l.depth + 16 * l.n + 8

abbrev pub decreases-read_pipe : goal.decreases-read_pipe
decreases-read_pipe l = 1048576 * l.depth + 16 * l.n + 7

abbrev pub decreases-read_step : goal.decreases-read_step
decreases-read_step l = 1048576 * l.depth + 16 * l.n + 6

abbrev pub decreases-read_body : goal.decreases-read_body
decreases-read_body l = 1048576 * l.depth + 16 * l.n + 5

abbrev pub decreases-read_key_list : goal.decreases-read_key_list
decreases-read_key_list l = 1048576 * l.depth + 16 * l.n + 13

abbrev pub decreases-read_key : goal.decreases-read_key
decreases-read_key l = 1048576 * l.depth + 16 * l.n + 12

abbrev pub decreases-read_key_call : goal.decreases-read_key_call
decreases-read_key_call l = 1048576 * l.depth + 16 * l.n + 11

abbrev pub decreases-read_recursive : goal.decreases-read_recursive
decreases-read_recursive l = 1048576 * l.depth + 16 * l.n + 9

abbrev pub decreases-read_closed_recursive : goal.decreases-read_closed_recursive
decreases-read_closed_recursive l = 1048576 * l.depth + 16 * l.n + 10

abbrev pub decreases-read_closed_keys : goal.decreases-read_closed_keys
decreases-read_closed_keys l = 1048576 * l.depth + 16 * l.n + 14

abbrev pub invariant-read_pipe-loop-behind : goal.invariant-read_pipe-loop-behind
invariant-read_pipe-loop-behind l =
    (with_steps (map step_of l.steps.items) (rest_at (step served l.depth) l.n l.n l.rest) ≡ pipe_at served l.depth l.fn.n l.fn.text) × (0 < length l.steps.items) × (l.n < l.fn.n)

abbrev pub decreases-read_pipe-loop-behind : goal.decreases-read_pipe-loop-behind
decreases-read_pipe-loop-behind l = l.n

abbrev pub invariant-read_pipe_list-loop-behind : goal.invariant-read_pipe_list-loop-behind
invariant-read_pipe_list-loop-behind l =
    (with_parts (map pipe_of l.branches.items) (more_at (pipe_at served l.depth) (length l.rest) l.n l.rest) ≡ some_at (pipe_at served l.depth) l.fn.n l.fn.text) × (l.n ≤ l.fn.n)

abbrev pub decreases-read_pipe_list-loop-behind : goal.decreases-read_pipe_list-loop-behind
decreases-read_pipe_list-loop-behind l = length l.rest

abbrev pub invariant-read_key_list-loop-behind : goal.invariant-read_key_list-loop-behind
invariant-read_key_list-loop-behind l =
    (with_parts (map key_of l.keys.items) (more_at (key_at (below served l.depth 0) l.depth) (length l.rest) l.n l.rest) ≡ some_at (key_at (below served l.depth 0) l.depth) l.fn.n l.fn.text) × (l.n ≤ l.fn.n)

abbrev pub decreases-read_key_list-loop-behind : goal.decreases-read_key_list-loop-behind
decreases-read_key_list-loop-behind l = length l.rest
