use Rattle.std.proofs.Common.{◌≡◌, ◌++◌, map, Ok}
use Rattle.std.specs.Vec.Iter.{into_iter_items}
use Rattle.row_frames.proofs.parts.all_ok.Given as goal

-- the results so far, and those that are left
abbrev pub invariant-loop-result : goal.invariant-loop-result
invariant-loop-result g l = l.fn.results.items ≡ map Ok l.found.items ++ into_iter_items l.result-iterator
