use Rattle.std.proofs.Common.{refl}
use Rattle.row_frames.proofs.gathered.widened.Goals as goal

pub returns : goal.returns
returns c = record {
  roots = λ k. refl;
  prefixes = λ k. refl;
  columns = λ k. c.in_ok-with_columns.ensures k;
}
