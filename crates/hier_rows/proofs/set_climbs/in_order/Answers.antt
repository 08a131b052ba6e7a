use Rattle.std.proofs.Common.{◌∙◌, ap, false, get_or}
use Rattle.std.specs.Prelude.{filter}
use Rattle.edm_values.specs.Lists.{places}
use Rattle.std.proofs.lemmas.Result.{IfOk-weaker}
use Rattle.hier_rows.proofs.SetLaws.{marks-read}
use Rattle.hier_rows.proofs.set_climbs.in_order.Goals as goal

pub returns : goal.returns
returns c = IfOk-weaker c.marked_places.result _ _
    (λ v e. e ∙ ap (λ l. filter (λ k. get_or l k false) (places c.args.count)) c.as_slice.ensures.value
    ∙ marks-read c.args.count c.args.found.now c.in_ok-marks.marks.items c.in_ok-marks.ensures.marks)
    c.marked_places.ensures
