use Rattle.std.proofs.Common.{◌≡◌, ◌+◌, ◌≤◌, drop, map, IsTrue}
use Rattle.apply_ast.specs.Trees.{pipe}
use Rattle.apply_ast.specs.Views.{pipe_of, step_of}
use Rattle.context_typing.specs.Readings.{readings}
use Rattle.context_typing.specs.Shapes.{Shape}
use Rattle.context_typing.specs.Typing.{shape_of_set}
use Rattle.apply_meaning.specs.Counts.{all_made, pipe_made}
use Rattle.apply_meaning.specs.Instances as instances
use Rattle.apply_meaning.specs.Meaning.{mean}
use Rattle.apply_meaning.specs.Running.{Runs, is_plain}
use Rattle.apply_meaning.proofs.plain.run_plain.Given as goal

-- the rest of the pipeline is typed on a shape that the rows fit, makes of them what the whole makes of the instances of the set, and makes the rows that are left to make
abbrev pub invariant-loop-i : goal.invariant-loop-i
invariant-loop-i g l =
    (T : Shape) × Runs l.store (readings l.c) T l.t.shape (pipe (map step_of (drop l.i l.all))) l.rows.items
    × (mean l.store (readings l.c) (shape_of_set l.store.model l.t.set) (pipe_of l.t.pipe) (instances.rows l.store l.t.set) ≡ mean l.store (readings l.c) T (pipe (map step_of (drop l.i l.all))) l.rows.items)
    × IsTrue (is_plain (pipe (map step_of (drop l.i l.all))))
    × (l.steps + pipe_made l.store (readings l.c) T (pipe (map step_of (drop l.i l.all))) l.rows.items ≡ l.fn.steps + all_made l.store (readings l.c) l.t.set (pipe_of l.t.pipe))
    × (l.fn.steps ≤ l.steps)
