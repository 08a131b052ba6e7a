use Rattle.aggregate_ops.proofs.KindLemmas.{all-of_kind}
use Rattle.row_values.proofs.frame_folds.aggregates_read.Goals as goal

pub fold_read-requires-clause-kind : goal.fold_read-requires-clause-kind
fold_read-requires-clause-kind g c κs within = all-of_kind c.args.values.now c.new-empty.result.kind c.kind_read-kind.result c.new-empty.ensures.kind (c.kind_read-kind.ensures.typed c.args.method c.requires.kind)

pub fold_read-requires-in-Min-clause-kind : goal.fold_read-requires-in-Min-clause-kind
fold_read-requires-in-Min-clause-kind g c κs within = all-of_kind c.args.values.now c.new-empty-in-Min.result.kind c.kind_read-kind.result c.new-empty-in-Min.ensures.kind (c.kind_read-kind.ensures.typed c.args.method c.requires.kind)

pub fold_read-requires-in-Max-clause-kind : goal.fold_read-requires-in-Max-clause-kind
fold_read-requires-in-Max-clause-kind g c κs within = all-of_kind c.args.values.now c.new-empty-in-Max.result.kind c.kind_read-kind.result c.new-empty-in-Max.ensures.kind (c.kind_read-kind.ensures.typed c.args.method c.requires.kind)
