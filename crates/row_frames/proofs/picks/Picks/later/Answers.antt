use Rattle.std.proofs.Common.{◌∙◌, drop, ap, sym}
use Rattle.std.specs.Prelude.{min}
use Rattle.std.proofs.lemmas.List.{drop_min}
use Rattle.row_frames.specs.Runs.{kept_rows, run_rows}
use Rattle.row_frames.proofs.picks.Picks.later.Goals as goal

pub returns-in-Run : goal.returns-in-Run
returns-in-Run c =
    let xs = run_rows c.in-Run.run' in
    c.later.ensures ∙ ap (λ m. drop m xs) (c.at_most.ensures ∙ ap (min c.args.n) c.len.ensures) ∙ drop_min c.args.n xs ∙ ap (drop c.args.n) (ap kept_rows (sym c.in-Run.is) ∙ c.self.view_is)

pub returns-in-List : goal.returns-in-List
returns-in-List c = c.of_list.ensures ∙ c.later_picks.ensures ∙ ap (drop c.args.n) (ap kept_rows (sym c.in-List.is) ∙ c.self.view_is)
