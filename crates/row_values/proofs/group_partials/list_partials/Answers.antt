use Rattle.std.proofs.Common.{◌∙◌, subst}
use Rattle.std.specs.Prelude.{IfOk}
use Rattle.row_values.specs.GroupFolds.{ArePartialsBy}
use Rattle.row_values.proofs.group_partials.list_partials.Goals as goal

pub returns : goal.returns
returns g c =
    subst (λ vs. IfOk c.partials_listed.result (λ ps. ArePartialsBy g.P.Partial.kind g.P.Partial.stands_for vs c.args.numbers.now c.args.count ps.items))
    (c.as_slice-all.ensures.value ∙ c.in_ok-all.ensures.value) c.partials_listed.ensures
