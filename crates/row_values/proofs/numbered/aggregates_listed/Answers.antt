use Rattle.aggregate_ops.proofs.KindLemmas.{all-of_kind}
use Rattle.row_values.proofs.numbered.aggregates_listed.Goals as goal

pub fold_listed-requires-clause-kind : goal.fold_listed-requires-clause-kind
fold_listed-requires-clause-kind g c κs within = all-of_kind c.args.values.now c.new-empty.result.kind c.kind_listed-kind.result c.new-empty.ensures.kind (c.kind_listed-kind.ensures.typed c.args.method c.requires.kind)

pub fold_listed-requires-in-Min-clause-kind : goal.fold_listed-requires-in-Min-clause-kind
fold_listed-requires-in-Min-clause-kind g c κs within = all-of_kind c.args.values.now c.new-empty-in-Min.result.kind c.kind_listed-kind.result c.new-empty-in-Min.ensures.kind (c.kind_listed-kind.ensures.typed c.args.method c.requires.kind)

pub fold_listed-requires-in-Max-clause-kind : goal.fold_listed-requires-in-Max-clause-kind
fold_listed-requires-in-Max-clause-kind g c κs within = all-of_kind c.args.values.now c.new-empty-in-Max.result.kind c.kind_listed-kind.result c.new-empty-in-Max.ensures.kind (c.kind_listed-kind.ensures.typed c.args.method c.requires.kind)

pub count_distinct-requires-clause-kind : goal.count_distinct-requires-clause-kind
count_distinct-requires-clause-kind g c κs within = c.kind_listed-kind.ensures.typed c.args.method c.requires.kind
