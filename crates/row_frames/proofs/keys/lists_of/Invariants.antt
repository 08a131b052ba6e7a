use Rattle.std.proofs.Common.{◌≡◌, map}
use Rattle.row_frames.specs.Keys.{keys_of, seen_columns}
use Rattle.row_frames.proofs.keys.lists_of.Given as goal

-- the key lists so far
abbrev pub invariant-loop-at : goal.invariant-loop-at
invariant-loop-at l = map (λ k. k.items) l.lists.items ≡ keys_of (seen_columns l.columns) l.at
