use Rattle.std.proofs.Common.{◌≡◌, ◌*◌, ◌^◌, pos, neg_ℤ, ◌≤ℤ◌, take}
use Rattle.top_family.specs.Selections.{seen_values}
use Rattle.top_family.specs.Thresholds.{mantissas}
use Rattle.top_family.proofs.thresholds.mantissa_sum.Given as goal

-- the sum so far, in which each mantissa has a size of at most 2 ^ 63
abbrev pub invariant-loop-value : goal.invariant-loop-value
invariant-loop-value l = (l.sum ≡ mantissas (seen_values (take l.value-index l.values))) × (neg_ℤ (pos (l.value-index * 2 ^ 63)) ≤ℤ l.sum) × (l.sum ≤ℤ pos (l.value-index * 2 ^ 63))
