use Rattle.std.proofs.Common.{◌∙◌, ap, sym}
use Rattle.rayon.proofs.ListFacts.{IfOk-then}
use Rattle.row_frames.specs.Runs.{kept_rows}
use Rattle.row_frames.proofs.picks.Picks.into_list.Goals as goal

pub returns-in-Run : goal.returns-in-Run
returns-in-Run c = IfOk-then c.picks.result _ _ c.picks.ensures (λ xs h. h ∙ ap kept_rows (sym c.in-Run.is) ∙ c.self.view_is)

pub returns-in-List : goal.returns-in-List
returns-in-List c = ap kept_rows (sym c.in-List.is) ∙ c.self.view_is
