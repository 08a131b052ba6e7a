use Rattle.std.proofs.Common.{◌≡◌, true, map, take}
use Rattle.std.specs.List.{list_all}
use Rattle.edm_values.specs.Values.{seen_value}
use Rattle.aggregate_ops.specs.Partials.{is_of_every_kind}
use Rattle.rollup_rec.proofs.node_aggregates.kind_among.Given as goal

-- no value so far has a type of its own
abbrev pub invariant-loop-value : goal.invariant-loop-value
invariant-loop-value l = list_all is_of_every_kind (take l.value-index (map (λ v. seen_value v) l.values)) ≡ true
