use Rattle.std.proofs.Common.{◌≡◌, ℕ}
use Rattle.apply_meaning.specs.Instances.{prefix_value}
use Rattle.apply_meaning.proofs.LookupForms.{front_value}
use Rattle.row_frames.specs.Frames.{instance_at}
use Rattle.row_frames.proofs.readers.front_property.Given as goal

abbrev pub invariant-loop-n : goal.invariant-loop-n
invariant-loop-n l = (k : ℕ) → prefix_value l.store (instance_at l.table k) l.names ≡ front_value l.store (instance_at l.table k) l.names l.n
