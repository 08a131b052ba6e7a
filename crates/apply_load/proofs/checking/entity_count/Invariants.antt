use Rattle.std.proofs.Common.{◌≡◌, ◌*◌, ◌≤◌, ◌^◌, map, sum, take}
use Rattle.edm_data.specs.References.{count}
use Rattle.apply_load.proofs.checking.entity_count.Given as goal

abbrev pub invariant-loop-set : goal.invariant-loop-set
invariant-loop-set l = record {
  counted : l.total ≡ sum (map (count l.loaded) (take l.set-index l.set-items));
  few : l.total ≤ l.set-index * 2 ^ 32;
}
