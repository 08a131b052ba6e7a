use Rattle.std.proofs.Common.{◌≡◌, false, take}
use Rattle.std.specs.List.{list_any}
use Rattle.edm_values.specs.Values.{is_beyond}
use Rattle.json_render.proofs.body.has_beyond.Given as goal

abbrev pub invariant-loop-k : goal.invariant-loop-k
invariant-loop-k l = list_any (λ c. is_beyond c.1) (take l.k l.row.columns) ≡ false
