use Rattle.std.proofs.Common.{◌≡◌, map, take}
use Rattle.edm_values.specs.Values.{seen_value}
use Rattle.row_frames.specs.Keys.{key_column}
use Rattle.row_values.proofs.seen.column_in_turn.Given as goal

-- the values so far
abbrev pub invariant-loop-row : goal.invariant-loop-row
invariant-loop-row l = map (λ v. seen_value v) l.seen.items ≡ key_column l.store (take l.row-index l.rows) l.path
