use Rattle.std.proofs.Common.{◌∙◌, ap}
use Rattle.std.specs.Prelude.{pos}
use Rattle.std.proofs.lemmas.Result.{IfOk-weaker}
use Rattle.edm_values.specs.declared.Value.{Value}
use Rattle.numbered_groups.proofs.DistinctLaws.{distinct-all}
use Rattle.numbered_groups.proofs.distincts.distinct_count.Goals as goal

pub returns : goal.returns
returns c = record { value = IfOk-weaker c.count.result _ _ (λ v made vs is told quiet. made ∙ ap (λ n. Value.Int (pos n)) c.others.ensures ∙ distinct-all vs c.args.values.now c.args.nulls.now is told quiet) c.count.ensures.value }
