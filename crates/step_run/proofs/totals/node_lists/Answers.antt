use Rattle.std.proofs.Common.{◌∙◌, ◌∷◌, [], ap, arith, length, length-append, map, subst, sym}
use Rattle.std.specs.Prelude.{is_some, slice_get}
use Rattle.apply_ast.specs.Views.{agg_of}
use Rattle.context_typing.specs.Readings.{readings}
use Rattle.context_typing.specs.Typing.{item_column}
use Rattle.step_run.specs.Totals.{AreAtNodes}
use Rattle.step_run.proofs.CustomLemmas.{typed-at}
use Rattle.step_run.proofs.ItemLists.{read-list}
use Rattle.step_run.proofs.NodeLists.{known-next, known-none}
use Rattle.step_run.proofs.totals.node_lists.Goals as goal

pub loop-item-init : goal.loop-item-init
loop-item-init g c = record {
  size = ap length c.in_ok-lists.ensures.items;
  known = known-none (AreAtNodes c.args.context.now.world c.args.rows.now c.args.index.now c.args.nodes.now) (map agg_of c.args.items.now) c.in_ok-lists.lists.items c.in_ok-lists.ensures.items;
}

pub node_list-requires-clause-rows : goal.node_list-requires-clause-rows
node_list-requires-clause-rows g c κs within = sym (ap length c.in_ok-told.ensures.nodes ∙ c.requires.rows)

pub node_list-requires-clause-ready : goal.node_list-requires-clause-ready
node_list-requires-clause-ready g c κs within =
    let x = c.args.context.now in
    let r = c.requires.ready in (
      r.0,
      record {
        root_is = (r.1).root_is;
        typed = ap (λ i. is_some (item_column x.world.model (readings x.customs) r.0 (agg_of i))) c.item-item.is
            ∙ typed-at (λ i. is_some (item_column x.world.model (readings x.customs) r.0 i)) c.args.items.now c.loop-item.item-index c.item-item.result (r.1).typed c.loop-item-test.true;
        fit = (r.1).fit;
      },
    )

pub loop-item-preserved : goal.loop-item-preserved
loop-item-preserved g c =
    let size = c.loop-item.invariant.size in
    let read = read-list agg_of c.args.items.now c.loop-item.item-index c.item-item.result c.loop-item-test.true c.item-item.is in
    record {
      size = omega (arith, size, ap length c.in_ok-push.ensures.items ∙ length-append c.loop-item.lists.items (c.in_ok-node_list.field-0 ∷ []));
      known = known-next (AreAtNodes c.args.context.now.world c.args.rows.now c.args.index.now c.args.nodes.now) (map agg_of c.args.items.now) c.loop-item.lists.items c.push.new.self.items c.in_ok-node_list.field-0 (agg_of c.item-item.result) c.in_ok-push.ensures.items
          (ap (slice_get (map agg_of c.args.items.now)) size ∙ read)
          (λ v e. subst (λ ps. AreAtNodes c.args.context.now.world c.args.rows.now ps c.args.nodes.now (agg_of c.item-item.result) v) c.in_ok-told.ensures.parents
          (subst (λ ns. AreAtNodes c.args.context.now.world c.args.rows.now c.in_ok-told.told.parents ns (agg_of c.item-item.result) v) c.in_ok-told.ensures.nodes (c.in_ok-node_list.ensures v e)))
          c.loop-item.invariant.known;
    }
