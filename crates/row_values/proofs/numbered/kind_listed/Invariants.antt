use Rattle.std.proofs.Common.{◌≡◌, true, take}
use Rattle.std.specs.List.{list_all}
use Rattle.aggregate_ops.specs.Partials.{is_of_every_kind}
use Rattle.row_values.proofs.numbered.kind_listed.Given as goal

-- no value so far has a type of its own
abbrev pub invariant-loop-value : goal.invariant-loop-value
invariant-loop-value l = list_all is_of_every_kind (take l.value-index l.values) ≡ true
