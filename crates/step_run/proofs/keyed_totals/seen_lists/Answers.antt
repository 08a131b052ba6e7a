use Rattle.std.proofs.Common.{◌∙◌, ◌∷◌, [], ap, arith, length, length-append, map}
use Rattle.std.specs.Prelude.{slice_get}
use Rattle.apply_ast.specs.Views.{agg_of}
use Rattle.step_run.proofs.ItemLists.{read-list}
use Rattle.step_run.proofs.KeyedParts.{seen-next, seen-none}
use Rattle.step_run.proofs.keyed_totals.seen_lists.Goals as goal

pub loop-item-init : goal.loop-item-init
loop-item-init g c = record {
  size = ap length c.in_ok-lists.ensures.items;
  known = seen-none c.args.context.now.world c.args.rows.now (map agg_of c.args.items.now) c.in_ok-lists.lists.items c.in_ok-lists.ensures.items;
}

pub loop-item-preserved : goal.loop-item-preserved
loop-item-preserved g c =
    let size = c.loop-item.invariant.size in
    let read = read-list agg_of c.args.items.now c.loop-item.item-index c.item-item.result c.loop-item-test.true c.item-item.is in
    record {
      size = omega (arith, size, ap length c.in_ok-push.ensures.items ∙ length-append c.loop-item.lists.items (c.in_ok-seen_list.field-0 ∷ []));
      known = seen-next c.args.context.now.world c.args.rows.now (map agg_of c.args.items.now) c.loop-item.lists.items c.push.new.self.items c.in_ok-seen_list.field-0 (agg_of c.item-item.result) c.in_ok-push.ensures.items
          (ap (slice_get (map agg_of c.args.items.now)) size ∙ read) c.in_ok-seen_list.ensures c.loop-item.invariant.known;
    }
