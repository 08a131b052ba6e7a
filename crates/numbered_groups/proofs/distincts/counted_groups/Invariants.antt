use Rattle.std.proofs.Common.{◌≡◌, false, filter, get_or, map, not, take}
use Rattle.numbered_groups.proofs.distincts.counted_groups.Given as goal

-- the numbers of the rows so far
abbrev pub invariant-loop-at : goal.invariant-loop-at
invariant-loop-at l = l.found.items ≡ map (λ f. get_or l.numbers f 0) (filter (λ f. not (get_or l.nulls (get_or l.values f 0) false)) (take l.at l.rows))
