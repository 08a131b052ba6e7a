use Rattle.std.proofs.Common.{◌∙◌, ◌∷◌, [], ap, arith, length, length-append, map}
use Rattle.std.specs.Prelude.{is_some, slice_get}
use Rattle.edm_values.specs.Lists.{at_places}
use Rattle.apply_ast.specs.Views.{agg_of}
use Rattle.context_typing.specs.Readings.{readings}
use Rattle.context_typing.specs.Typing.{item_column}
use Rattle.step_run.specs.Totals.{AreAtNodes}
use Rattle.step_run.proofs.CustomLemmas.{typed-at}
use Rattle.step_run.proofs.ItemLists.{read-list}
use Rattle.step_run.proofs.KeyedParts.{seen-at}
use Rattle.step_run.proofs.NodeLists.{known-next, known-none}
use Rattle.step_run.proofs.keyed_totals.key_lists.Goals as goal

pub loop-k-init : goal.loop-k-init
loop-k-init g c = record {
  size = ap length c.in_ok-lists.ensures.items;
  known = known-none (AreAtNodes c.args.context.now.world (at_places c.args.rows.now c.args.places.now) c.args.index.now c.args.nodes.now) (map agg_of c.args.items.now) c.in_ok-lists.lists.items c.in_ok-lists.ensures.items;
}

pub key_list-requires-clause-seen : goal.key_list-requires-clause-seen
key_list-requires-clause-seen g c κs within = λ v e.
    c.requires.seen c.loop-k.k (agg_of c.index-items-k.result) v (read-list agg_of c.args.items.now c.loop-k.k c.index-items-k.result c.loop-k-test.true c.index-items-k.is)
    (seen-at c.args.seen.now c.loop-k.k c.index-seen-k.result v (omega (arith, c.loop-k-test.true, c.requires.size)) c.index-seen-k.is e)

pub key_list-requires-clause-ready : goal.key_list-requires-clause-ready
key_list-requires-clause-ready g c κs within =
    let x = c.args.context.now in
    let r = c.requires.ready in (
      r.0,
      record {
        root_is = (r.1).root_is;
        typed = ap (λ i. is_some (item_column x.world.model (readings x.customs) r.0 (agg_of i))) c.index-items-k.is
            ∙ typed-at (λ i. is_some (item_column x.world.model (readings x.customs) r.0 i)) c.args.items.now c.loop-k.k c.index-items-k.result (r.1).typed c.loop-k-test.true;
        fit = (r.1).fit;
      },
    )

pub loop-k-preserved : goal.loop-k-preserved
loop-k-preserved g c =
    let size = c.loop-k.invariant.size in
    let read = read-list agg_of c.args.items.now c.loop-k.k c.index-items-k.result c.loop-k-test.true c.index-items-k.is in
    record {
      size = omega (arith, size, ap length c.in_ok-push.ensures.items ∙ length-append c.loop-k.lists.items (c.in_ok-list.list ∷ []));
      known = known-next (AreAtNodes c.args.context.now.world (at_places c.args.rows.now c.args.places.now) c.args.index.now c.args.nodes.now) (map agg_of c.args.items.now) c.loop-k.lists.items c.push.new.self.items c.in_ok-list.list (agg_of c.index-items-k.result) c.in_ok-push.ensures.items
          (ap (slice_get (map agg_of c.args.items.now)) size ∙ read) c.in_ok-list.ensures c.loop-k.invariant.known;
    }
