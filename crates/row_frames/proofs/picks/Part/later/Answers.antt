use Rattle.std.proofs.Common.{◌∙◌, drop, ap, sym}
use Rattle.row_frames.specs.Runs.{part_rows}
use Rattle.row_frames.specs.declared.picks.Part.{Part}
use Rattle.row_frames.proofs.picks.Part.later.Goals as goal

pub returns-in-Run : goal.returns-in-Run
returns-in-Run c = c.later.ensures ∙ ap (λ (p : Part). drop c.args.n (part_rows p)) (sym c.in-Run.is)

pub returns-in-List : goal.returns-in-List
returns-in-List c = c.later_of.ensures ∙ ap (λ (p : Part). drop c.args.n (part_rows p)) (sym c.in-List.is)
