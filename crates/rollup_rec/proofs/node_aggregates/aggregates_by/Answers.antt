use Rattle.std.proofs.Common.{map}
use Rattle.edm_values.specs.Values.{seen_value}
use Rattle.aggregate_ops.proofs.KindLemmas.{all-of_kind}
use Rattle.rollup_rec.proofs.node_aggregates.aggregates_by.Goals as goal

pub aggregates_by_number-requires-clause-kind : goal.aggregates_by_number-requires-clause-kind
aggregates_by_number-requires-clause-kind g c κs = all-of_kind (map (λ v. seen_value v) c.args.rows.now.values.now) c.new-empty.result.kind c.kind_among-kind.result c.new-empty.ensures.kind (c.kind_among-kind.ensures.typed c.args.method c.requires.kind)

pub aggregates_by_number-requires-in-Min-clause-kind : goal.aggregates_by_number-requires-in-Min-clause-kind
aggregates_by_number-requires-in-Min-clause-kind g c κs = all-of_kind (map (λ v. seen_value v) c.args.rows.now.values.now) c.new-empty-in-Min.result.kind c.kind_among-kind.result c.new-empty-in-Min.ensures.kind (c.kind_among-kind.ensures.typed c.args.method c.requires.kind)

pub aggregates_by_number-requires-in-Max-clause-kind : goal.aggregates_by_number-requires-in-Max-clause-kind
aggregates_by_number-requires-in-Max-clause-kind g c κs = all-of_kind (map (λ v. seen_value v) c.args.rows.now.values.now) c.new-empty-in-Max.result.kind c.kind_among-kind.result c.new-empty-in-Max.ensures.kind (c.kind_among-kind.ensures.typed c.args.method c.requires.kind)
