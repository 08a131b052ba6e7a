use Rattle.std.proofs.Common.{◌≡◌, ◌++◌, codes, decimal, take}
use Rattle.std.specs.Prelude.{flat_map}
use Rattle.apply_load.specs.Checks.{entity_total, hierarchy_line}
use Rattle.apply_load.proofs.checking.check.Given as goal

abbrev pub invariant-loop-k : goal.invariant-loop-k
invariant-loop-k l = record {
  text : l.text.items ≡ (codes "entities " ++ decimal (entity_total l.store.world) ++ codes "\n") ++ flat_map (hierarchy_line l.store.world) (take l.k l.ids);
}
