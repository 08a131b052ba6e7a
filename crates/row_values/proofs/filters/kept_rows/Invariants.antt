use Rattle.std.proofs.Common.{◌≡◌, ◌+◌, ◌++◌, drop, length}
use Rattle.std.specs.Prelude.{option_map}
use Rattle.std.specs.Iterator.Adapters.{enumerate_count, enumerate_source}
use Rattle.std.specs.Vec.Iter.{into_iter_items}
use Rattle.row_values.specs.Answers.{kept_by}
use Rattle.row_values.proofs.filters.kept_rows.Given as goal

-- what is kept, and what the answers that are left keep of the rows that are left, is all that is kept
abbrev pub invariant-loop-k : goal.invariant-loop-k
invariant-loop-k l =
    (kept_by l.answers l.fn.rows.items ≡ option_map (λ later. l.kept.items ++ later) (kept_by (drop (enumerate_count l.k-iterator) l.answers) (into_iter_items (enumerate_source l.k-iterator))))
    × (enumerate_count l.k-iterator + length (into_iter_items (enumerate_source l.k-iterator)) ≡ length l.answers)
