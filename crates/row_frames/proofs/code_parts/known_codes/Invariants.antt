use Rattle.std.proofs.Common.{◌≡◌, ◌++◌, map, Ok, Some}
use Rattle.std.specs.Vec.Iter.{into_iter_items}
use Rattle.row_frames.proofs.code_parts.known_codes.Given as goal

-- the numbers so far, and the parts that are left
abbrev pub invariant-loop-part : goal.invariant-loop-part
invariant-loop-part l = l.fn.parts.items ≡ map (λ c. Ok (Some c)) l.found.items ++ into_iter_items l.part-iterator
