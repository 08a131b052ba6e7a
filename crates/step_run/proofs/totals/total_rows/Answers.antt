use Rattle.std.proofs.Common.{◌≡◌, ◌∙◌, [], ℕ, Option, Err, ap, sym, subst, arith, length, map, IsTrue}
use Rattle.std.specs.List.{list_any}
use Rattle.std.specs.Global.{Vec}
use Rattle.std.proofs.lemmas.Result.{err_from_is_err_and}
use Rattle.std.proofs.lemmas.List.{length-map}
use Rattle.edm_values.specs.declared.Value.TheVariants.{Null}
use Rattle.edm_values.specs.Lists.{at_places, places}
use Rattle.edm_values.specs.Values.{is_beyond}
use Rattle.edm_data.specs.References.{count}
use Rattle.edm_data.specs.Worlds.{World}
use Rattle.apply_ast.specs.Views.{agg_of, hier_of}
use Rattle.context_typing.specs.Readings.{readings}
use Rattle.context_typing.specs.Typing.{hierarchy_at}
use Rattle.apply_meaning.specs.Running.{all_of}
use Rattle.hier_rows.proofs.NodeLaws.{nodes-are, nodes-count}
use Rattle.hier_rows.specs.HierRows as rows
use Rattle.hier_rows.specs.HierRows.{AreNodesBelow, AreOptionsBelow, node_in, path_values}
use Rattle.step_run.specs.Contexts.{Context}
use Rattle.step_run.specs.Conditions.{ItemsRun}
use Rattle.step_run.specs.ItemLists.{AreItemLists}
use Rattle.step_run.specs.Totals.{AreNodeLists, AreNodesOf, TotalsReady, totals}
use Rattle.step_run.proofs.NodeLists.{placed-all}
use Rattle.step_run.proofs.ClimbOutcomes.{found}
use Rattle.step_run.proofs.NodeKeys.{none-beyond, path-err}
use Rattle.step_run.proofs.PlacedRuns.{levels-totals, none-keyed, placed-of}
use Rattle.step_run.proofs.totals.total_rows.Goals as goal

pub returns-in_err-nodes-clause-rows : goal.returns-in_err-nodes-clause-rows
returns-in_err-nodes-clause-rows g c = λ f S at h.
    let x = c.args.context.now in
    let p = c.args.totals.now.path.now in
    let l = c.args.rows.now in
    let e = c.in_err-nodes.field-0.0 in
    let s = c.nodes-found.result.set in
    let given = subst (λ (w : World). rows.GivesFor (λ (v : Vec (Option ℕ)). v.items ≡ map (node_in w s p) l) (path_values w p l) (Err e)) c.store.ensures.value c.in_err-nodes.ensures.nodes in
    let q = err_from_is_err_and c.from_residual.result c.from_residual.ensures.1 in
    rw (q.1, q.2) (levels-totals x S f (map agg_of c.args.totals.now.items.now) p c.args.shown.now l e (path-err (λ (v : Vec (Option ℕ)). v.items ≡ map (node_in x.world s p) l) x.world f [] p c.args.shown.now l e given))

pub new-requires : goal.new-requires
new-requires g c =
    let w = c.args.context.now.world in
    let f = found (hierarchy_at w.model (hier_of c.args.totals.now.hier.now)) c.requires.there in
    let long = nodes-count w f.0 c.nodes-found.result.set c.nodes-found.result.index.now (c.nodes-found.ensures.set f.0 f.1, c.nodes-found.ensures.index f.0 f.1) in
    record {
      there = subst (AreOptionsBelow (length c.nodes-found.result.index.now)) (sym c.as_slice.ensures.value)
          (subst (λ n. AreOptionsBelow n c.in_ok-nodes.nodes.items) (ap (λ (w : World). count w c.nodes-found.result.set) c.store.ensures.value ∙ sym long) c.in_ok-nodes.ensures.within);
    }

pub lists_on-requires-after_bounds : goal.lists_on-requires-after_bounds
lists_on-requires-after_bounds g c κs within =
    let w = c.args.context.now.world in
    subst (λ l. IsTrue (all_of w l)) (sym c.at-placed.ensures.value) (placed-of w c.args.rows.now c.places.result.now c.requires.of)

pub node_lists-requires-clause-there : goal.node_lists-requires-clause-there
node_lists-requires-clause-there g c κs within =
    let w = c.args.context.now.world in
    let f = found (hierarchy_at w.model (hier_of c.args.totals.now.hier.now)) c.requires.there in
    let long = nodes-count w f.0 c.nodes-found.result.set c.nodes-found.result.index.now (c.nodes-found.ensures.set f.0 f.1, c.nodes-found.ensures.index f.0 f.1) in
    subst (AreOptionsBelow (length c.nodes-found.result.index.now)) (sym c.as_slice-2.ensures.value)
    (subst (λ n. AreOptionsBelow n c.in_ok-nodes.nodes.items) (ap (λ (w : World). count w c.nodes-found.result.set) c.store.ensures.value ∙ sym long) c.in_ok-nodes.ensures.within)

pub node_lists-requires-clause-rows : goal.node_lists-requires-clause-rows
node_lists-requires-clause-rows g c κs within = ap length c.as_slice-2.ensures.value ∙ ap length c.in_ok-nodes.ensures.nodes.0 ∙ length-map c.args.rows.now (node_in c.store.result.now c.nodes-found.result.set c.args.totals.now.path.now)

pub node_lists-requires-clause-ready : goal.node_lists-requires-clause-ready
node_lists-requires-clause-ready g c κs within =
    let x = c.args.context.now in
    let l = c.args.rows.now in
    let r = c.requires.ready in
    (r.0, subst (λ is. ItemsRun x c.args.root.now r.0 (map agg_of is) l) (sym c.as_slice-items.ensures.value) (subst (λ ls. ItemsRun x c.args.root.now r.0 (map agg_of c.args.totals.now.items.now) ls) (placed-all l) (r.1 (places (length l)) Null).0))

pub rows_of_nodes-requires-clause-lists : goal.rows_of_nodes-requires-clause-lists
rows_of_nodes-requires-clause-lists g c κs within =
    let l = c.args.rows.now in
    let items = map agg_of c.args.totals.now.items.now in
    subst (λ (x : Context). AreItemLists x.world (at_places l c.in_ok-order.order.rows) items c.as_slice-lists.result.now) (sym c.alone-inner.ensures.value)
    (subst (λ vs. AreItemLists c.args.context.now.world (at_places l c.in_ok-order.order.rows) items vs) (sym c.as_slice-lists.ensures.value)
    (subst (λ ps. AreItemLists c.args.context.now.world (at_places l ps) items c.in_ok-lists.lists.items) c.places.ensures.value
    (subst (λ r. AreItemLists c.args.context.now.world r items c.in_ok-lists.lists.items) c.at-placed.ensures.value
    (subst (λ is. AreItemLists c.args.context.now.world c.at-placed.result (map agg_of is) c.in_ok-lists.lists.items) c.as_slice-items.ensures.value c.in_ok-lists.ensures))))

pub rows_of_nodes-requires-clause-known : goal.rows_of_nodes-requires-clause-known
rows_of_nodes-requires-clause-known g c κs within =
    let l = c.args.rows.now in
    let items = map agg_of c.args.totals.now.items.now in
    subst (λ (x : Context). AreNodeLists x.world l c.in_ok-order.order.parents c.in_ok-order.order.nodes items c.as_slice-known.result.now) (sym c.alone-inner.ensures.value)
    (subst (λ ps. AreNodeLists c.args.context.now.world l ps c.in_ok-order.order.nodes items c.as_slice-known.result.now) (sym c.in_ok-order.ensures.parents)
    (subst (λ ns. AreNodeLists c.args.context.now.world l c.nodes-found.result.index.now ns items c.as_slice-known.result.now) (sym (c.in_ok-order.ensures.nodes ∙ c.as_slice.ensures.value))
    (subst (λ vs. AreNodeLists c.args.context.now.world l c.nodes-found.result.index.now c.in_ok-nodes.nodes.items items vs) (sym c.as_slice-known.ensures.value)
    (subst (λ is. AreNodeLists c.args.context.now.world l c.nodes-found.result.index.now c.in_ok-nodes.nodes.items (map agg_of is) c.in_ok-known.known.items) c.as_slice-items.ensures.value
    (subst (λ ns. AreNodeLists c.args.context.now.world l c.nodes-found.result.index.now ns (map agg_of c.as_slice-items.result.now) c.in_ok-known.known.items) c.as_slice-2.ensures.value c.in_ok-known.ensures)))))

pub rows_of_nodes-requires-clause-shown : goal.rows_of_nodes-requires-clause-shown
rows_of_nodes-requires-clause-shown g c κs within =
    let w = c.args.context.now.world in
    let f = found (hierarchy_at w.model (hier_of c.args.totals.now.hier.now)) c.requires.there in
    let long = nodes-count w f.0 c.nodes-found.result.set c.nodes-found.result.index.now (c.nodes-found.ensures.set f.0 f.1, c.nodes-found.ensures.index f.0 f.1) in
    subst (λ n. AreNodesBelow n c.args.shown.now) (ap (count w) (sym (c.nodes-found.ensures.set f.0 f.1)) ∙ sym long ∙ ap length (sym c.in_ok-order.ensures.parents)) (c.requires.shown f.0 f.1)

pub rows_of_nodes-requires-clause-ready : goal.rows_of_nodes-requires-clause-ready
rows_of_nodes-requires-clause-ready g c κs within = subst (λ (x : Context). TotalsReady x c.args.root.now (map agg_of c.args.totals.now.items.now) c.args.totals.now.path.now c.args.rows.now) (sym c.alone-inner.ensures.value) c.requires.ready

pub returns-in_err-rows_of_nodes-clause-steps : goal.returns-in_err-rows_of_nodes-clause-steps
returns-in_err-rows_of_nodes-clause-steps g c = λ f S at h.
    let w = c.args.context.now.world in
    let p = c.args.totals.now.path.now in
    let l = c.args.rows.now in
    let items = map agg_of c.args.totals.now.items.now in
    let s = c.nodes-found.result.set in
    let set = c.nodes-found.ensures.set f at in
    let are : AreNodesOf w f p l s c.in_ok-order.order.parents c.in_ok-order.order.nodes = record {
      set_is = sym set;
      parents_are = c.in_ok-order.ensures.parents ∙ c.nodes-found.ensures.index f at;
      nodes_are = c.in_ok-order.ensures.nodes ∙ c.as_slice.ensures.value ∙ c.in_ok-nodes.ensures.nodes.0 ∙ ap (λ (w : World). map (node_in w s p) l) c.store.ensures.value ∙ nodes-are w f s p l set;
    } in
    let spent = c.rows_of_nodes.ensures.steps f S (subst (λ (x : Context). AreNodesOf x.world f p l s c.in_ok-order.order.parents c.in_ok-order.order.nodes) (sym c.alone-inner.ensures.value) are) h in
    let same = ap (λ (x : Context). length (totals x.world (readings x.customs) S f items p c.args.shown.now l)) c.alone-inner.ensures.value in
    omega (arith, spent, same)

pub returns-clause-rows : goal.returns-clause-rows
returns-clause-rows g c = λ f S at h.
    let w = c.args.context.now.world in
    let p = c.args.totals.now.path.now in
    let l = c.args.rows.now in
    let items = map agg_of c.args.totals.now.items.now in
    let s = c.nodes-found.result.set in
    let set = c.nodes-found.ensures.set f at in
    let are : AreNodesOf w f p l s c.in_ok-order.order.parents c.in_ok-order.order.nodes = record {
      set_is = sym set;
      parents_are = c.in_ok-order.ensures.parents ∙ c.nodes-found.ensures.index f at;
      nodes_are = c.in_ok-order.ensures.nodes ∙ c.as_slice.ensures.value ∙ c.in_ok-nodes.ensures.nodes.0 ∙ ap (λ (w : World). map (node_in w s p) l) c.store.ensures.value ∙ nodes-are w f s p l set;
    } in
    let quiet = ap (λ (w : World). path_values w p l) (sym c.store.ensures.value) in (
      c.in_ok-rows_of_nodes.ensures.rows f S (subst (λ (x : Context). AreNodesOf x.world f p l s c.in_ok-order.order.parents c.in_ok-order.order.nodes) (sym c.alone-inner.ensures.value) are) h
          ∙ ap (λ (x : Context). totals x.world (readings x.customs) S f items p c.args.shown.now l) c.alone-inner.ensures.value,
      none-beyond w [] p l (none-keyed w l) (ap (list_any is_beyond) quiet ∙ c.in_ok-nodes.ensures.nodes.1),
    )

pub returns-clause-steps : goal.returns-clause-steps
returns-clause-steps g c = λ f S at h.
    let w = c.args.context.now.world in
    let p = c.args.totals.now.path.now in
    let l = c.args.rows.now in
    let items = map agg_of c.args.totals.now.items.now in
    let s = c.nodes-found.result.set in
    let set = c.nodes-found.ensures.set f at in
    let are : AreNodesOf w f p l s c.in_ok-order.order.parents c.in_ok-order.order.nodes = record {
      set_is = sym set;
      parents_are = c.in_ok-order.ensures.parents ∙ c.nodes-found.ensures.index f at;
      nodes_are = c.in_ok-order.ensures.nodes ∙ c.as_slice.ensures.value ∙ c.in_ok-nodes.ensures.nodes.0 ∙ ap (λ (w : World). map (node_in w s p) l) c.store.ensures.value ∙ nodes-are w f s p l set;
    } in
    let spent = c.rows_of_nodes.ensures.steps f S (subst (λ (x : Context). AreNodesOf x.world f p l s c.in_ok-order.order.parents c.in_ok-order.order.nodes) (sym c.alone-inner.ensures.value) are) h in
    let same = ap (λ (x : Context). length (totals x.world (readings x.customs) S f items p c.args.shown.now l)) c.alone-inner.ensures.value in
    omega (arith, spent, same)
