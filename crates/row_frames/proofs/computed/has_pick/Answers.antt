use Rattle.std.proofs.Common.{◌∙◌, ◌==◌, ap}
use Rattle.std.specs.List.{list_any}
use Rattle.row_frames.specs.declared.tables.Pick.{Pick}
use Rattle.row_frames.proofs.computed.has_pick.Goals as goal

pub returns-in-Run : goal.returns-in-Run
returns-in-Run c = c.run_has_pick.ensures ∙ ap (list_any (λ (x : Pick). x.table == c.args.n)) c.in-Run.ensures

pub returns-in-List : goal.returns-in-List
returns-in-List c = c.list_has_pick.ensures ∙ ap (list_any (λ (x : Pick). x.table == c.args.n)) c.in-List.ensures
