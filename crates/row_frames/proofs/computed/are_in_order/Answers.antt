use Rattle.std.proofs.Common.{◌∙◌, ◌-◌, List, ap, nat_eq, subst, sym}
use Rattle.std.specs.Bool.{OnTrue}
use Rattle.std.proofs.lemmas.Bool.{OnTrue_from, eqb-true}
use Rattle.row_frames.specs.Gathered.{AreInOrder}
use Rattle.row_frames.specs.Runs.{rows_from}
use Rattle.row_frames.specs.declared.tables.Pick.{Pick}
use Rattle.row_frames.proofs.RunLemmas.{run-in_order}
use Rattle.row_frames.proofs.computed.are_in_order.Goals as goal

pub returns-in-Run : goal.returns-in-Run
returns-in-Run c =
    let from = c.in-Run.run'.from in
    let n = c.in-Run.run'.to - from in
    OnTrue_from (nat_eq from 0) (AreInOrder c.args.picks.now) (λ h. subst AreInOrder (ap (λ j. rows_from j n) (sym (eqb-true from 0 h)) ∙ c.in-Run.ensures) (run-in_order n))

pub returns-in-List : goal.returns-in-List
returns-in-List c = subst (λ (xs : List Pick). OnTrue c.are_listed_in_order.result (AreInOrder xs)) c.in-List.ensures c.are_listed_in_order.ensures
