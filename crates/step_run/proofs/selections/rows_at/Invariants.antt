use Rattle.std.specs.Iterator.Adapters.{enumerate_count, enumerate_source}
use Rattle.std.specs.Vec.Iter.{into_iter_items}
use Rattle.step_run.proofs.TakenRows.{PlacesLeft}
use Rattle.step_run.proofs.selections.rows_at.Given as goal

abbrev pub invariant-loop-k : goal.invariant-loop-k
invariant-loop-k l = PlacesLeft l.fn.rows.items l.places l.kept.items (enumerate_count l.k-iterator) (into_iter_items (enumerate_source l.k-iterator))
