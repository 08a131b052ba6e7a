use Rattle.std.proofs.Common.{◌∙◌, ap, sym}
use Rattle.row_frames.specs.Runs.{kept_rows}
use Rattle.row_frames.proofs.picks.Picks.as_part.Goals as goal

pub returns-in-Run : goal.returns-in-Run
returns-in-Run c = ap kept_rows (sym c.in-Run.is) ∙ c.self.view_is

pub returns-in-List : goal.returns-in-List
returns-in-List c = c.as_slice.ensures.value ∙ ap kept_rows (sym c.in-List.is) ∙ c.self.view_is
