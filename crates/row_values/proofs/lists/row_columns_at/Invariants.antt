use Rattle.std.proofs.Common.{◌≡◌, take}
use Rattle.edm_values.specs.Lists.{at_places}
use Rattle.row_frames.specs.Keys.{key_columns, seen_columns}
use Rattle.row_values.proofs.lists.row_columns_at.Given as goal

-- the columns so far
abbrev pub invariant-loop-path : goal.invariant-loop-path
invariant-loop-path l = seen_columns l.columns.items ≡ key_columns l.store (take l.path-index l.paths) (at_places l.rows l.places)
