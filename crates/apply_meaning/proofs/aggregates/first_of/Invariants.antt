use Rattle.std.proofs.Common.{◌≡◌, drop, map}
use Rattle.edm_values.specs.declared.Value.{Value}
use Rattle.edm_values.specs.Lists.{first_or, sorted}
use Rattle.edm_values.specs.Values.{seen_value}
use Rattle.apply_meaning.specs.Meaning.{item_before}
use Rattle.apply_meaning.proofs.SumLaws.{kept}
use Rattle.apply_meaning.proofs.aggregates.first_of.Given as goal

-- the first of the values from this place on
abbrev pub invariant-loop-k : goal.invariant-loop-k
invariant-loop-k l = seen_value l.first ≡ first_or Value.Null (sorted (item_before l.descends) (kept (map seen_value (drop l.k l.values))))
