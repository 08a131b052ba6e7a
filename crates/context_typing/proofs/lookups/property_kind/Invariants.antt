use Rattle.std.proofs.Common.{◌≡◌, drop}
use Rattle.edm_model.specs.LookUps.{IsType, property_on}
use Rattle.context_typing.proofs.lookups.property_kind.Given as goal

abbrev pub invariant-loop-i : goal.invariant-loop-i
invariant-loop-i l = IsType l.m l.at × (property_on l.m l.fn.of l.path ≡ property_on l.m l.at (drop l.i l.path))
