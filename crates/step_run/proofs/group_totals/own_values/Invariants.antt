use Rattle.std.proofs.Common.{◌≡◌, map, take}
use Rattle.edm_values.specs.Values.{seen_value}
use Rattle.step_run.proofs.group_totals.own_values.Given as goal

-- the values so far
abbrev pub invariant-loop-value : goal.invariant-loop-value
invariant-loop-value l = l.own.items ≡ map (λ v. seen_value v) (take l.value-index l.values)
