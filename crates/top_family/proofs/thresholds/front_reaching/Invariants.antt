use Rattle.std.proofs.Common.{◌≡◌, ◌*◌, ◌^◌, pos, neg_ℤ, ◌≤ℤ◌, take, None}
use Rattle.edm_values.specs.Lists.{at_places}
use Rattle.top_family.specs.Selections.{seen_values}
use Rattle.top_family.specs.Thresholds.{is_reached, mantissas}
use Rattle.top_family.proofs.Fronts.{found_below}
use Rattle.top_family.proofs.thresholds.front_reaching.Given as goal

-- the sum so far, and that no shorter front is enough
abbrev pub invariant-loop-k : goal.invariant-loop-k
invariant-loop-k l =
    (l.sum ≡ mantissas (at_places (seen_values l.values) (take l.k l.ranking))) × (neg_ℤ (pos (l.k * 2 ^ 63)) ≤ℤ l.sum) × (l.sum ≤ℤ pos (l.k * 2 ^ 63))
    × (found_below (λ ks. is_reached l.least (at_places (seen_values l.values) ks)) l.ranking l.k ≡ None)
