use Rattle.std.proofs.Common.{subst, sym}
use Rattle.std.specs.List.{All}
use Rattle.row_frames.specs.Frames.{IsReadable}
use Rattle.row_frames.specs.PartKeeps.{KeepsPart}
use Rattle.row_frames.specs.Runs.{part_rows}
use Rattle.row_frames.specs.declared.picks.Part.{Part}
use Rattle.row_frames.proofs.kept.kept_in_part.Goals as goal

pub kept_in_run-requires : goal.kept_in_run-requires
kept_in_run-requires c = subst (λ (p : Part). All (IsReadable c.args.readers.now) (part_rows p)) c.in-Run.is c.requires

pub returns-in-Run : goal.returns-in-Run
returns-in-Run c = subst (λ (p : Part). KeepsPart c.args.readers.now p c.kept_in_run.result) (sym c.in-Run.is) c.kept_in_run.ensures

pub kept_in_list-requires : goal.kept_in_list-requires
kept_in_list-requires c = subst (λ (p : Part). All (IsReadable c.args.readers.now) (part_rows p)) c.in-List.is c.requires

pub returns-in-List : goal.returns-in-List
returns-in-List c = subst (λ (p : Part). KeepsPart c.args.readers.now p c.kept_in_list.result) (sym c.in-List.is) c.kept_in_list.ensures
