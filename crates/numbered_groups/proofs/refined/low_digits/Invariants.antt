use Rattle.std.proofs.Common.{◌≡◌, ◌%◌, map, take}
use Rattle.numbered_groups.proofs.refined.low_digits.Given as goal

-- the digits so far
abbrev pub invariant-loop-code : goal.invariant-loop-code
invariant-loop-code l = l.found.items ≡ map (λ c. c % l.width) (take l.code-index l.codes)
