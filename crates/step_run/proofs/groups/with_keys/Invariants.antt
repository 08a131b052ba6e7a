use Rattle.std.proofs.Common.{◌≡◌, ◌++◌, ◌+◌, ◌≤◌, IsTrue, map, length}
use Rattle.std.specs.List.{list_all}
use Rattle.std.specs.Vec.Iter.{into_iter_items}
use Rattle.apply_meaning.specs.Instances.{extended}
use Rattle.apply_meaning.specs.Meaning.{keyed}
use Rattle.apply_meaning.specs.RowViews.{columns_differ}
use Rattle.step_run.proofs.groups.with_keys.Given as goal

abbrev pub invariant-loop-row : goal.invariant-loop-row
invariant-loop-row g l =
    (map (λ r. extended r (keyed l.paths l.key)) l.fn.results.items ≡ l.all.items ++ map (λ r. extended r (keyed l.paths l.key)) (into_iter_items l.row-iterator))
    × IsTrue (list_all (λ r. columns_differ (extended r (keyed l.paths l.key)).columns) (into_iter_items l.row-iterator))
    × (l.steps + length (into_iter_items l.row-iterator) ≤ l.fn.steps + length l.fn.results.items)
    × (l.fn.steps ≤ l.steps)
