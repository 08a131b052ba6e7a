use Rattle.std.proofs.Common.{List, subst, sym}
use Rattle.std.specs.List.{All}
use Rattle.std.specs.Prelude.{IfOk}
use Rattle.row_frames.specs.Frames.{AreRead, IsReadable}
use Rattle.row_frames.specs.declared.tables.Pick.{Pick}
use Rattle.row_frames.proofs.seen.values_alone.Goals as goal

pub values_in_part-requires : goal.values_in_part-requires
values_in_part-requires c = subst (All (IsReadable c.args.readers.now)) (sym c.as_part-part.ensures) c.requires

pub returns : goal.returns
returns c = subst (λ (xs : List Pick). IfOk c.values_in_part.result (λ vs. AreRead c.args.readers.now xs vs.items)) c.as_part-part.ensures c.values_in_part.ensures
