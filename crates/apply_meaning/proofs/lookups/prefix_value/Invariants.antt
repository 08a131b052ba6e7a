use Rattle.std.proofs.Common.{◌≡◌}
use Rattle.apply_meaning.specs.Instances.{prefix_value}
use Rattle.apply_meaning.proofs.LookupForms.{front_value}
use Rattle.apply_meaning.proofs.lookups.prefix_value.Given as goal

abbrev pub invariant-loop-k : goal.invariant-loop-k
invariant-loop-k l = prefix_value l.store l.row l.names ≡ front_value l.store l.row l.names l.k
