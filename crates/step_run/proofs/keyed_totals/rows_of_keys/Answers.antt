use Rattle.std.proofs.Common.{◌≡◌, ◌∙◌, ◌∷◌, ◌<◌, [], ℕ, ap, arith, get_or, length, length-append, map, sym, subst, IsTrue}
use Rattle.std.specs.Prelude.{All, IfSome, nat_lt}
use Rattle.std.specs.List.{list_all}
use Rattle.std.proofs.lemmas.List.{get_or-map}
use Rattle.apply_ast.specs.Views.{agg_of}
use Rattle.step_run.specs.KeyedTotals.{AreKeyRows, KeyRowsState}
use Rattle.step_run.proofs.KeyedParts.{each-next, each-none, read-long}
use Rattle.step_run.proofs.keyed_totals.rows_of_keys.Goals as goal

pub loop-k-init : goal.loop-k-init
loop-k-init g c = record {
  size = ap length c.in_ok-all.ensures.items;
  each = each-none (λ j r. AreKeyRows c.args.context.now.world (map agg_of c.args.items.now) c.args.rows.now (get_or (map (λ v. v.items) c.args.members.now) j []) r × (r.order.parents ≡ c.args.index.now) × (r.order.nodes ≡ get_or (map (λ v. v.items) c.args.nodes.now) j [])) c.in_ok-all.all.items c.in_ok-all.ensures.items;
}

pub rows_of_key-requires-clause-within : goal.rows_of_key-requires-clause-within
rows_of_key-requires-clause-within g c κs within =
    subst (λ ks. IsTrue (list_all (λ k. nat_lt k (length c.args.rows.now)) ks)) (sym c.as_slice-places.ensures.value)
    (subst (λ v. IsTrue (list_all (λ k. nat_lt k (length c.args.rows.now)) v.items)) (sym c.index-members-k.is) (c.requires.within c.loop-k.k c.index-members-k.result c.loop-k-test.true))

pub rows_of_key-requires-clause-there : goal.rows_of_key-requires-clause-there
rows_of_key-requires-clause-there g c κs within =
    subst (λ ns. All (λ n. IfSome n (λ y. y < length c.args.index.now)) ns) (sym c.as_slice-own.ensures.value)
    (subst (λ v. All (λ n. IfSome n (λ y. y < length c.args.index.now)) v.items) (sym c.index-nodes-k.is) (c.requires.there c.loop-k.k c.index-nodes-k.result (omega (arith, c.loop-k-test.true, c.requires.count))))

pub rows_of_key-requires-clause-long : goal.rows_of_key-requires-clause-long
rows_of_key-requires-clause-long g c κs within =
    ap length c.as_slice-own.ensures.value
    ∙ read-long c.args.nodes.now c.args.members.now c.loop-k.k c.index-nodes-k.result c.index-members-k.result c.loop-k-test.true c.requires.count c.index-nodes-k.is c.index-members-k.is c.requires.long
    ∙ sym (ap length c.as_slice-places.ensures.value)

pub rows_of_key-requires-clause-ready : goal.rows_of_key-requires-clause-ready
rows_of_key-requires-clause-ready g c κs within = c.requires.ready c.as_slice-places.result.now

pub loop-k-preserved : goal.loop-k-preserved
loop-k-preserved g c =
    let w = c.args.context.now.world in
    let items = map agg_of c.args.items.now in
    let size = c.loop-k.invariant.size in
    let k = c.loop-k.k in
    let P : ℕ → KeyRowsState → Type 0 = λ j r. AreKeyRows w items c.args.rows.now (get_or (map (λ v. v.items) c.args.members.now) j []) r × (r.order.parents ≡ c.args.index.now) × (r.order.nodes ≡ get_or (map (λ v. v.items) c.args.nodes.now) j []) in
    let own = c.as_slice-places.ensures.value ∙ ap (λ v. v.items) c.index-members-k.is ∙ sym (get_or-map (λ v. v.items) c.args.members.now k c.index-members-k.result [] c.loop-k-test.true) in
    let nodes = c.as_slice-own.ensures.value ∙ ap (λ v. v.items) c.index-nodes-k.is ∙ sym (get_or-map (λ v. v.items) c.args.nodes.now k c.index-nodes-k.result [] (omega (arith, c.loop-k-test.true, c.requires.count))) in
    record {
      size = omega (arith, size, ap length c.in_ok-push.ensures.items ∙ length-append c.loop-k.all.items (c.in_ok-made.made ∷ []));
      each = each-next P c.loop-k.all.items c.push.new.self.items c.in_ok-made.made c.in_ok-push.ensures.items
          (subst (λ j. P j c.in_ok-made.made) (sym size)
          (subst (λ ks. AreKeyRows w items c.args.rows.now ks c.in_ok-made.made) own c.in_ok-made.ensures.own, c.in_ok-made.ensures.parents, c.in_ok-made.ensures.nodes ∙ nodes)) c.loop-k.invariant.each;
    }
