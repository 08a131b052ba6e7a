use Rattle.std.proofs.Common.{◌≡◌, map, take}
use Rattle.edm_values.specs.declared.Value.{Value}
use Rattle.edm_values.specs.Values.{seen_value}
use Rattle.row_frames.proofs.told.own_texts.Given as goal

-- those so far
abbrev pub invariant-loop-number : goal.invariant-loop-number
invariant-loop-number l = map (λ v. seen_value v) l.values.items ≡ map Value.Text (take l.number l.texts.pool)
