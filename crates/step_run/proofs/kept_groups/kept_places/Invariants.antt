use Rattle.std.proofs.Common.{◌≡◌, length, map, drop, IsTrue}
use Rattle.std.specs.Prelude.{nat_lt}
use Rattle.std.specs.List.{list_all}
use Rattle.edm_values.specs.Lists.{at_places}
use Rattle.apply_ast.specs.Trees.{pipe}
use Rattle.apply_ast.specs.Views.{step_of}
use Rattle.context_typing.specs.Readings.{readings}
use Rattle.context_typing.specs.Shapes.{Shape}
use Rattle.apply_meaning.specs.Meaning.{mean}
use Rattle.step_run.specs.Conditions.{RunsFrom}
use Rattle.step_run.proofs.kept_groups.kept_places.Given as goal

-- the places are places of the list, and for each shape on which the pipeline is typed there is one on which the rest is, with the same meaning
abbrev pub invariant-loop-i : goal.invariant-loop-i
invariant-loop-i g l =
    IsTrue (list_all (λ k. nat_lt k (length l.rows)) l.places.items)
    × ((S S' : Shape) → RunsFrom l.context l.fn.root S S' (pipe (map step_of l.steps)) (at_places l.rows l.members)
    → (T : Shape) × RunsFrom l.context l.root T S' (pipe (map step_of (drop l.i l.steps))) (at_places l.rows l.places.items)
    × (mean l.context.world (readings l.context.customs) S (pipe (map step_of l.steps)) (at_places l.rows l.members) ≡ mean l.context.world (readings l.context.customs) T (pipe (map step_of (drop l.i l.steps))) (at_places l.rows l.places.items)))
