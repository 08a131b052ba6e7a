use Rattle.std.proofs.Common.{◌≡◌, ◌++◌, drop, map}
use Rattle.edm_values.specs.Lists.{at_places}
use Rattle.edm_values.specs.Values.{seen_value}
use Rattle.row_frames.specs.Keys.{key_column}
use Rattle.row_values.proofs.lists.row_column_at.Given as goal

-- the values so far and those at the places that are left are all
abbrev pub invariant-loop-at : goal.invariant-loop-at
invariant-loop-at l = key_column l.store (at_places l.rows l.places) l.path ≡ map (λ v. seen_value v) l.seen.items ++ key_column l.store (at_places l.rows (drop l.at-index l.places)) l.path
