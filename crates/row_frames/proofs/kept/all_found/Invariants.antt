use Rattle.std.proofs.Common.{◌≡◌, ◌++◌, map, Ok}
use Rattle.std.specs.Vec.Iter.{into_iter_items}
use Rattle.row_frames.proofs.kept.all_found.Given as goal

-- the picks so far, and the results that are left
abbrev pub invariant-loop-result : goal.invariant-loop-result
invariant-loop-result l = l.fn.results.items ≡ map Ok l.found.items ++ into_iter_items l.result-iterator
