-- Rows of the first table that stand one behind the other.
use Rattle.std.specs.Prelude.{ℕ, zero, suc, ◌-◌, List, [], ◌∷◌}
use Rattle.row_frames.specs.declared.tables.Pick.{Pick}
use Rattle.row_frames.specs.declared.picks.Run.{Run}
use Rattle.row_frames.specs.declared.picks.Kept.{Kept}
use Rattle.row_frames.specs.declared.picks.Kept.TheVariants as kept
use Rattle.row_frames.specs.declared.picks.Part.{Part}
use Rattle.row_frames.specs.declared.picks.Part.TheVariants as part
use Rattle.row_frames.specs.Frames.{first_pick}

-- so many rows, from one on
abbrev pub rows_from : ℕ → ℕ → List Pick
rows_from k zero = []
rows_from k (suc n) = first_pick k ∷ rows_from (suc k) n

-- the rows from one to before another
abbrev pub run_rows : Run → List Pick
run_rows r = rows_from r.from (r.to - r.from)

-- the rows that are kept
abbrev pub kept_rows : Kept → List Pick
kept_rows (kept.Run r) = run_rows r
kept_rows (kept.List xs) = xs.items

-- the rows of a part
abbrev pub part_rows : Part → List Pick
part_rows (part.Run r) = run_rows r
part_rows (part.List xs) = xs.now
