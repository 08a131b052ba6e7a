use Rattle.std.proofs.Common.{◌∙◌}
use Rattle.std.proofs.lemmas.Result.{IfOk-weaker}
use Rattle.edm_values.specs.declared.Method.TheVariants as method
use Rattle.par_stages.specs.Placed.{placed}
use Rattle.aggregate_ops.proofs.KindLemmas.{aggregate-placed, all-of_kind}
use Rattle.row_values.proofs.aggregates.aggregate_read.Goals as goal

pub fold-requires-clause-kind : goal.fold-requires-clause-kind
fold-requires-clause-kind g c κs within = all-of_kind c.args.values.now c.new.result.kind c.kind_read-kind.result c.new.ensures.kind (c.kind_read-kind.ensures.typed c.args.method c.requires.kind)

pub fold-requires-in-Min-clause-kind : goal.fold-requires-in-Min-clause-kind
fold-requires-in-Min-clause-kind g c κs within = all-of_kind c.args.values.now c.new-in-Min.result.kind c.kind_read-kind.result c.new-in-Min.ensures.kind (c.kind_read-kind.ensures.typed c.args.method c.requires.kind)

pub fold-requires-in-Max-clause-kind : goal.fold-requires-in-Max-clause-kind
fold-requires-in-Max-clause-kind g c κs within = all-of_kind c.args.values.now c.new-in-Max.result.kind c.kind_read-kind.result c.new-in-Max.ensures.kind (c.kind_read-kind.ensures.typed c.args.method c.requires.kind)

pub distinct_read-requires-clause-kind : goal.distinct_read-requires-clause-kind
distinct_read-requires-clause-kind g c κs within = c.kind_read-kind.ensures.typed c.args.method c.requires.kind

pub returns-in_ok-fold-in-Sum : goal.returns-in_ok-fold-in-Sum
returns-in_ok-fold-in-Sum g c = c.finish.ensures.value (placed 0 c.args.values.now) c.in_ok-fold-in-Sum.ensures.stands ∙ aggregate-placed method.Sum c.args.method c.args.values.now c.in-Sum.is

pub returns-in_ok-fold-in-Min : goal.returns-in_ok-fold-in-Min
returns-in_ok-fold-in-Min g c =
    IfOk-weaker c.finish-in-Min-2.result _ _
    (λ v e. e (placed 0 c.args.values.now) c.in_ok-fold-in-Min.ensures.stands ∙ aggregate-placed method.Min c.args.method c.args.values.now c.in-Min.is)
    c.finish-in-Min-2.ensures.value

pub returns-in_ok-fold-in-Max : goal.returns-in_ok-fold-in-Max
returns-in_ok-fold-in-Max g c =
    IfOk-weaker c.finish-in-Max-2.result _ _
    (λ v e. e (placed 0 c.args.values.now) c.in_ok-fold-in-Max.ensures.stands ∙ aggregate-placed method.Max c.args.method c.args.values.now c.in-Max.is)
    c.finish-in-Max-2.ensures.value
