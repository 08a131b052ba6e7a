use Rattle.std.proofs.Common.{◌≡◌, ◌-◌, ◌<◌, List, map, take}
use Rattle.std.specs.List.{range_with_len}
use Rattle.edm_values.specs.declared.Value.{Value}
use Rattle.par_stages.specs.Placed.{placed}
use Rattle.aggregate_ops.specs.KeyTables.{groups_of}
use Rattle.aggregate_ops.specs.Fronts.{AreFronts, AreGroupsOf}
use Rattle.aggregate_ops.proofs.fronts.by_fronts.Given as goal

-- the levels so far, and the groups numbered for the next
abbrev pub invariant-loop-front : goal.invariant-loop-front
invariant-loop-front l = record {
  numbered : l.front < l.width → AreFronts l.front l.groups l.fronts.firsts.items l.fronts.numbers.items;
  are : (keys : List (List Value)) → AreGroupsOf l.rows keys l.groups → map (λ l. l.items) l.found.items ≡ map (λ j. groups_of (placed 0 (map (take j) keys))) (range_with_len l.least (l.front - l.least));
}
