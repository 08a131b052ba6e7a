use Rattle.std.proofs.Common.{◌∙◌, take, ap, sym}
use Rattle.row_frames.specs.Runs.{part_rows}
use Rattle.row_frames.specs.declared.picks.Part.{Part}
use Rattle.row_frames.proofs.picks.Part.first.Goals as goal

pub returns-in-Run : goal.returns-in-Run
returns-in-Run c = c.first.ensures ∙ ap (λ (p : Part). take c.args.n (part_rows p)) (sym c.in-Run.is)

pub returns-in-List : goal.returns-in-List
returns-in-List c = c.first_of.ensures ∙ ap (λ (p : Part). take c.args.n (part_rows p)) (sym c.in-List.is)
