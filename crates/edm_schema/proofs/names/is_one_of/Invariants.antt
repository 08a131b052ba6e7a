use Rattle.std.proofs.Common.{◌≡◌, false, take}
use Rattle.std.specs.List.{list_any}
use Rattle.edm_values.specs.Lists.{same_text}
use Rattle.edm_schema.proofs.names.is_one_of.Given as goal

abbrev pub invariant-loop-known : goal.invariant-loop-known
invariant-loop-known l = list_any (λ n. same_text l.name n.now) (take l.known-index l.names) ≡ false
