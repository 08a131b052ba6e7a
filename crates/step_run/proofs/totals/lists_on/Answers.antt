use Rattle.std.proofs.Common.{◌≡◌, ◌∙◌, ◌∷◌, [], ap, arith, length, length-append, map, Some}
use Rattle.std.specs.Prelude.{slice_get}
use Rattle.std.specs.Global.{Vec}
use Rattle.edm_values.specs.declared.Value.{Value}
use Rattle.apply_ast.specs.Trees.{AggItem}
use Rattle.apply_ast.specs.Views.{agg_of}
use Rattle.step_run.specs.ItemLists.{item_list}
use Rattle.step_run.proofs.ItemLists.{read-list}
use Rattle.step_run.proofs.NodeLists.{known-next, known-none}
use Rattle.step_run.proofs.totals.lists_on.Goals as goal

pub loop-k-init : goal.loop-k-init
loop-k-init g c = record {
  size = ap length c.in_ok-lists.ensures.items;
  known = known-none (λ (i : AggItem) (v : Vec Value). item_list c.args.context.now.world c.args.rows.now i ≡ Some v.items) (map agg_of c.args.items.now) c.in_ok-lists.lists.items c.in_ok-lists.ensures.items;
}

pub loop-k-preserved : goal.loop-k-preserved
loop-k-preserved g c =
    let size = c.loop-k.invariant.size in
    let read = read-list agg_of c.args.items.now c.loop-k.k c.index-items-k.result c.loop-k-test.true c.index-items-k.is in
    record {
      size = omega (arith, size, ap length c.in_ok-push.ensures.items ∙ length-append c.loop-k.lists.items (c.in_ok-list_on.field-0 ∷ []));
      known = known-next (λ (i : AggItem) (v : Vec Value). item_list c.args.context.now.world c.args.rows.now i ≡ Some v.items) (map agg_of c.args.items.now) c.loop-k.lists.items c.push.new.self.items c.in_ok-list_on.field-0 (agg_of c.index-items-k.result) c.in_ok-push.ensures.items
          (ap (slice_get (map agg_of c.args.items.now)) size ∙ read) c.in_ok-list_on.ensures c.loop-k.invariant.known;
    }
