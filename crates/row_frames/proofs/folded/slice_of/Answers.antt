use Rattle.std.proofs.Common.{arith, refl}
use Rattle.row_frames.proofs.folded.slice_of.Goals as goal

pub returns : goal.returns
returns g c = record { order = omega arith; within = omega arith; elements = refl }
