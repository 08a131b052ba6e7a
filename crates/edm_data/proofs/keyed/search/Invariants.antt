use Rattle.std.proofs.Common.{◌≤◌, ◌-◌, length}
use Rattle.edm_values.specs.declared.Value.{Value}
use Rattle.edm_values.specs.Values.{seen_value, value_cmp}
use Rattle.edm_data.specs.References.{keys_of}
use Rattle.edm_data.proofs.SearchLemmas.{IsNarrowed}
use Rattle.edm_data.proofs.keyed.search.Given as goal

abbrev pub invariant-loop-low : goal.invariant-loop-low
invariant-loop-low l = record {
  ordered : l.low ≤ l.high;
  within : l.high ≤ length l.places;
  narrowed : IsNarrowed value_cmp Value.Null (keys_of l.tables l.s) l.places (seen_value l.key) l.low l.high;
}

abbrev pub decreases-loop-low : goal.decreases-loop-low
decreases-loop-low l = l.high - l.low
