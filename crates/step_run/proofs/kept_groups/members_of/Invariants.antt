use Rattle.std.proofs.Common.{◌≡◌, length, map, take}
use Rattle.edm_values.specs.Lists.{places}
use Rattle.numbered_groups.specs.Numbered.{places_with}
use Rattle.step_run.proofs.kept_groups.members_of.Given as goal

-- the places so far stand in the lists of their numbers
abbrev pub invariant-loop-k : goal.invariant-loop-k
invariant-loop-k l = map (λ v. v.items) l.lists.items ≡ map (places_with (take l.k l.numbers)) (places (length l.groups.firsts))
