use Rattle.apply_ast.specs.Views.{expr_of}
use Rattle.apply_meaning.specs.Meaning.{values}
use Rattle.aggregate_ops.proofs.KindLemmas.{all-of_kind}
use Rattle.rollup_rec.proofs.node_numbers.aggregates_on.Goals as goal

pub aggregates_by-requires-clause-kind : goal.aggregates_by-requires-clause-kind
aggregates_by-requires-clause-kind g c κs within = all-of_kind (values c.args.store.now (expr_of c.args.e.now) c.args.list.now) c.new-empty.result.kind c.in_ok-kind.kind c.new-empty.ensures.kind (c.in_ok-kind.ensures.typed c.args.method c.requires.kind)

pub aggregates_by-requires-in-Min-clause-kind : goal.aggregates_by-requires-in-Min-clause-kind
aggregates_by-requires-in-Min-clause-kind g c κs within = all-of_kind (values c.args.store.now (expr_of c.args.e.now) c.args.list.now) c.new-empty-in-Min.result.kind c.in_ok-kind.kind c.new-empty-in-Min.ensures.kind (c.in_ok-kind.ensures.typed c.args.method c.requires.kind)

pub aggregates_by-requires-in-Max-clause-kind : goal.aggregates_by-requires-in-Max-clause-kind
aggregates_by-requires-in-Max-clause-kind g c κs within = all-of_kind (values c.args.store.now (expr_of c.args.e.now) c.args.list.now) c.new-empty-in-Max.result.kind c.in_ok-kind.kind c.new-empty-in-Max.ensures.kind (c.in_ok-kind.ensures.typed c.args.method c.requires.kind)
