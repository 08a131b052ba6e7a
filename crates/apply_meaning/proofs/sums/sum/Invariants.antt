-- The sum so far, in which each mantissa has a size of at most 2 ^ 63.
use Rattle.std.proofs.Common.{◌≡◌, ◌*◌, ◌^◌, pos, neg_ℤ, ◌≤ℤ◌, take, map}
use Rattle.edm_values.specs.Values.{seen_value}
use Rattle.apply_meaning.proofs.SumLaws.{amounts}
use Rattle.apply_meaning.proofs.sums.sum.Given as goal

abbrev pub invariant-loop-value : goal.invariant-loop-value
invariant-loop-value l =
    (l.sum ≡ amounts (pos 0) (map seen_value (take l.value-index l.values))) × (neg_ℤ (pos (l.value-index * 2 ^ 63)) ≤ℤ l.sum) × (l.sum ≤ℤ pos (l.value-index * 2 ^ 63))
