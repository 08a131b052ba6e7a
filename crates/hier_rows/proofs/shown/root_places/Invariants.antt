use Rattle.std.proofs.Common.{◌≡◌, ◌++◌, drop}
use Rattle.std.specs.Prelude.{filter_map}
use Rattle.hier_rows.proofs.ShownLaws.{place_of}
use Rattle.hier_rows.proofs.shown.root_places.Given as goal

-- the places so far and those of the rows that are left are all
abbrev pub invariant-loop-row : goal.invariant-loop-row
invariant-loop-row l = filter_map place_of l.rows ≡ l.places.items ++ filter_map place_of (drop l.row-index l.rows)
