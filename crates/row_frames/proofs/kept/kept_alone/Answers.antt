use Rattle.std.proofs.Common.{List, subst, sym}
use Rattle.std.specs.List.{All}
use Rattle.row_frames.specs.Frames.{IsReadable}
use Rattle.row_frames.specs.PartKeeps.{KeepsTrue}
use Rattle.row_frames.specs.declared.tables.Pick.{Pick}
use Rattle.row_frames.proofs.kept.kept_alone.Goals as goal

pub kept_in_part-requires : goal.kept_in_part-requires
kept_in_part-requires c = subst (All (IsReadable c.args.readers.now)) (sym c.as_part-part.ensures) c.requires

pub returns : goal.returns
returns c = subst (λ (xs : List Pick). KeepsTrue c.args.readers.now xs c.kept_in_part.result) c.as_part-part.ensures c.kept_in_part.ensures
