use Rattle.std.proofs.Common.{◌≡◌, map, take}
use Rattle.row_values.specs.Columns as spec
use Rattle.row_values.proofs.computes.columns_at.Given as goal

-- the columns so far
abbrev pub invariant-loop-k : goal.invariant-loop-k
invariant-loop-k l = l.columns.items ≡ spec.columns_at (take l.k l.paths) (map (λ c. c.items) l.lists) l.at
