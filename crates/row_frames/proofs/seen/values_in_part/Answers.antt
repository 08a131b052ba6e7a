use Rattle.std.proofs.Common.{IfOk, subst, sym}
use Rattle.std.specs.List.{All}
use Rattle.row_frames.specs.Frames.{AreRead, IsReadable}
use Rattle.row_frames.specs.Runs.{part_rows}
use Rattle.row_frames.specs.declared.picks.Part.{Part}
use Rattle.row_frames.proofs.seen.values_in_part.Goals as goal

pub values_in_run-requires : goal.values_in_run-requires
values_in_run-requires c = subst (λ (p : Part). All (IsReadable c.args.readers.now) (part_rows p)) c.in-Run.is c.requires

pub returns-in-Run : goal.returns-in-Run
returns-in-Run c = subst (λ (p : Part). IfOk c.values_in_run.result (λ vs. AreRead c.args.readers.now (part_rows p) (vs.items))) (sym c.in-Run.is) c.values_in_run.ensures

pub values_in_turn-requires : goal.values_in_turn-requires
values_in_turn-requires c = subst (λ (p : Part). All (IsReadable c.args.readers.now) (part_rows p)) c.in-List.is c.requires

pub returns-in-List : goal.returns-in-List
returns-in-List c = subst (λ (p : Part). IfOk c.values_in_turn.result (λ vs. AreRead c.args.readers.now (part_rows p) (vs.items))) (sym c.in-List.is) c.values_in_turn.ensures
