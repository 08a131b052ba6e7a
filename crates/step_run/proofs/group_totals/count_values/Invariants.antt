use Rattle.std.proofs.Common.{◌≡◌, map, take}
use Rattle.std.specs.Prelude.{pos}
use Rattle.edm_values.specs.declared.Value.{Value}
use Rattle.step_run.proofs.group_totals.count_values.Given as goal

-- the counts so far
abbrev pub invariant-loop-n : goal.invariant-loop-n
invariant-loop-n l = l.values.items ≡ map (λ n. Value.Int (pos n)) (take l.n-index l.counted)
