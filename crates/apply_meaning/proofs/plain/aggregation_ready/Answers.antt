use Rattle.std.proofs.Common.{map}
use Rattle.apply_ast.specs.Views.{agg_of}
use Rattle.apply_meaning.proofs.AggregationLemmas.{aggregation-differs, aggregation-summable}
use Rattle.apply_meaning.proofs.plain.aggregation_ready.Goals as goal

pub returns-clause-summable : goal.returns-clause-summable
returns-clause-summable c = let r = c.requires.ready in aggregation-summable c.args.store.now r.0 r.1 r.2 (map agg_of c.args.items.now) c.args.rows.now c.data_is_loaded.ensures.value r.3

pub returns-clause-differ : goal.returns-clause-differ
returns-clause-differ c = let r = c.requires.ready in aggregation-differs c.args.store.now r.0 r.1 r.2 (map agg_of c.args.items.now) c.args.rows.now c.data_is_loaded.ensures.value r.3
