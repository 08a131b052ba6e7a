use Rattle.std.proofs.Common.{◌≡◌, ◌++◌, map, drop}
use Rattle.edm_values.specs.Lists.{at_places}
use Rattle.edm_values.specs.Values.{seen_value}
use Rattle.step_run.proofs.kept_groups.own_values_at.Given as goal

-- the values so far and those at the places that are left are the whole
abbrev pub invariant-loop-at : goal.invariant-loop-at
invariant-loop-at l = at_places (map (λ v. seen_value v) l.values) l.places ≡ l.found.items ++ at_places (map (λ v. seen_value v) l.values) (drop l.at-index l.places)
