use Rattle.std.proofs.Common.{◌≤◌, length}
use Rattle.edm_model.specs.Models.{Model}
use Rattle.optimiser.specs.HeldSegments.{Frame, IsPast, test_of}
use Rattle.optimiser.proofs.putting.unpassed.Given as goal

-- the filter passes the segments from here on
abbrev pub invariant-loop-k : goal.invariant-loop-k
invariant-loop-k l = record { within : l.k ≤ length l.segments; past : (m : Model) (w : Frame) → IsPast m w (test_of l.test) l.segments l.k }

abbrev pub decreases-loop-k : goal.decreases-loop-k
decreases-loop-k l = l.k
