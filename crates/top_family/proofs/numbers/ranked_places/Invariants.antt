use Rattle.std.proofs.Common.{◌≡◌, false, map, take}
use Rattle.std.specs.List.{list_any}
use Rattle.edm_values.specs.Lists.{places}
use Rattle.edm_values.specs.Values.{is_beyond}
use Rattle.top_family.specs.Numbers.{ranked_at}
use Rattle.top_family.specs.Selections.{seen_values}
use Rattle.top_family.proofs.numbers.ranked_places.Given as goal

-- the places so far, each with what tells its rank, and no value so far is Beyond
abbrev pub invariant-loop-k : goal.invariant-loop-k
invariant-loop-k l = (l.ranked.items ≡ map (ranked_at (seen_values l.values)) (places l.k)) × (list_any is_beyond (seen_values (take l.k l.values)) ≡ false)
