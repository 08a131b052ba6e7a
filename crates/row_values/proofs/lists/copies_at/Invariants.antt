use Rattle.std.proofs.Common.{◌≡◌, ◌++◌, ◌+◌, ◌≤◌, drop, length}
use Rattle.edm_values.specs.Lists.{at_places}
use Rattle.row_values.proofs.lists.copies_at.Given as goal

abbrev pub invariant-loop-at : goal.invariant-loop-at
invariant-loop-at g l =
    (at_places l.rows l.places ≡ l.copies.items ++ at_places l.rows (drop l.at-index l.places))
    × (l.steps + length (at_places l.rows (drop l.at-index l.places)) ≤ l.fn.steps + length (at_places l.rows l.places))
    × (l.fn.steps ≤ l.steps)
