use Rattle.std.proofs.Common.{◌∙◌, ◌<◌, ap, get_or, length, subst, sym}
use Rattle.row_frames.specs.Runs.{part_rows}
use Rattle.row_frames.specs.declared.picks.Part.{Part}
use Rattle.row_frames.proofs.picks.Part.at.Goals as goal

pub at-requires : goal.at-requires
at-requires c = subst (λ (p : Part). c.args.k < length (part_rows p)) c.in-Run.is c.requires

pub returns-in-Run : goal.returns-in-Run
returns-in-Run c = λ d. c.at.ensures d ∙ ap (λ (p : Part). get_or (part_rows p) c.args.k d) (sym c.in-Run.is)

pub pick_at-requires : goal.pick_at-requires
pick_at-requires c = subst (λ (p : Part). c.args.k < length (part_rows p)) c.in-List.is c.requires

pub returns-in-List : goal.returns-in-List
returns-in-List c = λ d. c.pick_at.ensures d ∙ ap (λ (p : Part). get_or (part_rows p) c.args.k d) (sym c.in-List.is)
