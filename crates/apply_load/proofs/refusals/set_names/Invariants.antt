use Rattle.std.proofs.Common.{◌≡◌, map, take, string_bytes}
use Rattle.edm_model.specs.Models.{EntitySet}
use Rattle.apply_load.proofs.refusals.set_names.Given as goal

abbrev pub invariant-loop-set : goal.invariant-loop-set
invariant-loop-set l = map string_bytes l.names.items ≡ map (λ (s : EntitySet). s.name) (take l.set-index l.model.sets)
