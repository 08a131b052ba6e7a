use Rattle.std.proofs.Common.{◌≡◌, ◌+◌, ◌++◌, ◌∷◌, ◌<◌, [], ℕ, Option, sym, subst, ◌∙◌, ap, arith, Err, List, length, map, IsTrue, get_or}
use Rattle.std.specs.Prelude.{All, IfSome, flat_map, nat_lt}
use Rattle.std.specs.List.{list_all}
use Rattle.std.specs.Global.{Vec}
use Rattle.std.proofs.lemmas.List.{length-map}
use Rattle.std.proofs.lemmas.Result.{err_from_is_err_and}
use Rattle.edm_values.specs.declared.Value.{Value}
use Rattle.edm_values.specs.Lists.{at_places}
use Rattle.edm_data.specs.Nodes.{parents_of}
use Rattle.edm_data.specs.References.{count}
use Rattle.edm_data.specs.Worlds.{World}
use Rattle.apply_ast.proofs.ViewEquations.{keys_of-is}
use Rattle.apply_ast.specs.Views.{agg_of, hier_of, key_of, keys_from, keys_of}
use Rattle.context_typing.specs.Readings.{readings}
use Rattle.context_typing.specs.Typing.{hierarchy_at, plain_paths}
use Rattle.apply_meaning.specs.Instances.{lookup}
use Rattle.apply_meaning.specs.Meaning.{key_list, node}
use Rattle.apply_meaning.specs.Running.{all_of}
use Rattle.aggregate_ops.proofs.KeyGroups.{wide-images}
use Rattle.group_rollup.specs.Groupings.{has_beyond_key, GivesFor}
use Rattle.group_rollup.specs.NumberedBy.{AreNumberedBy}
use Rattle.hier_rows.proofs.NodeLaws.{nodes-are, nodes-count}
use Rattle.hier_rows.specs.HierRows as rows
use Rattle.hier_rows.specs.HierRows.{AreNodesBelow, AreOptionsBelow, node_in, path_values}
use Rattle.rollup_rec.specs.Rollups.{rolled}
use Rattle.step_run.specs.KeyedTotals.{HaveFirsts, KeyedReady, rolled_rows}
use Rattle.step_run.specs.Totals.{AreNodesOf}
use Rattle.step_run.proofs.ClimbOutcomes.{found}
use Rattle.step_run.proofs.GroupTotalLaws.{firsts-within, first-of, length-placed}
use Rattle.step_run.proofs.ItemLists.{map-at_places}
use Rattle.step_run.proofs.KeyedParts.{all-placed, finer-err, levels-keyed}
use Rattle.step_run.proofs.KeyedRows.{rolled-firsts, rolled-long, rolled-made}
use Rattle.step_run.proofs.NodeKeys.{path-err, wide-first}
use Rattle.step_run.proofs.keyed_totals.keyed_rows.Goals as goal

pub returns-in_err-nodes-clause-rows : goal.returns-in_err-nodes-clause-rows
returns-in_err-nodes-clause-rows g c =
    λ f S at root.
    let x = c.args.context.now in
    let w = x.world in
    let l = c.args.rows.now in
    let p = c.args.path.now in
    let items = map agg_of c.args.keyed.now.items.now in
    let ks = plain_paths (keys_of c.args.keyed.now.keys.now) in
    let s = c.nodes-found.result.set in
    let e = c.in_err-nodes.field-0.0 in
    let given = subst (λ (w : World). rows.GivesFor (λ (v : Vec (Option ℕ)). v.items ≡ map (node_in w s p) l) (path_values w p l) (Err e)) c.store-store.ensures.value c.in_err-nodes.ensures.nodes in
    let q = err_from_is_err_and c.from_residual-in_err-nodes.result c.from_residual-in_err-nodes.ensures.1 in
    rw (q.1, q.2) (levels-keyed x S f items ks p c.args.shown.now l e (path-err (λ (v : Vec (Option ℕ)). v.items ≡ map (node_in w s p) l) w f ks p c.args.shown.now l e given))

pub returns-in_err-finer-clause-rows : goal.returns-in_err-finer-clause-rows
returns-in_err-finer-clause-rows g c =
    λ f S at root.
    let x = c.args.context.now in
    let w = x.world in
    let l = c.args.rows.now in
    let p = c.args.path.now in
    let items = map agg_of c.args.keyed.now.items.now in
    let ks = plain_paths (keys_of c.args.keyed.now.keys.now) in
    let s = c.nodes-found.result.set in
    let paths = c.as_slice-2.ensures.value ∙ c.in_ok-paths.ensures.value ∙ c.requires.paths in
    let e = c.in_err-finer.field-0.0 in
    let q = err_from_is_err_and c.from_residual-in_err-finer.result c.from_residual-in_err-finer.ensures.1 in
    rw (q.1, q.2) (finer-err (AreNumberedBy w c.as_slice-2.result.now l) x S f items ks c.as_slice-2.result.now p c.args.shown.now l e paths c.in_err-finer.ensures)

pub nodes_at-requires : goal.nodes_at-requires
nodes_at-requires g c =
    let x = c.args.context.now in
    let w = x.world in
    let l = c.args.rows.now in
    let p = c.args.path.now in
    let items = map agg_of c.args.keyed.now.items.now in
    let ks = plain_paths (keys_of c.args.keyed.now.keys.now) in
    let s = c.nodes-found.result.set in
    let plain = c.as_slice-plain.ensures.value ∙ c.in_ok-plain.ensures ∙ ap (λ ks. plain_paths (keys_from (map key_of ks))) c.as_slice.ensures.value ∙ ap plain_paths (sym (keys_of-is c.args.keyed.now.keys.now)) in
    let paths = c.as_slice-2.ensures.value ∙ c.in_ok-paths.ensures.value ∙ c.requires.paths in
    let n = c.in_ok-finer.finer in
    let N = subst (λ ps. AreNumberedBy w ps l n) paths c.in_ok-finer.ensures.0 in
    let there = subst (λ fs. All (λ r. r < length n.numbers) fs) c.firsts-firsts.ensures.value c.firsts-firsts.ensures.there in
    let far = firsts-within w (ks ++ p ∷ []) l n N there in
    let same : length c.as_slice-nodes.result.now ≡ length l = ap length c.as_slice-nodes.ensures.value ∙ ap length c.in_ok-nodes.ensures.nodes.0 ∙ length-map l (node_in c.store-store.result.now s p) in
    subst (λ m. IsTrue (list_all (λ k. nat_lt k m) c.firsts-firsts.result.now)) (sym same) (subst (λ fs. IsTrue (list_all (λ k. nat_lt k (length l)) fs)) (sym c.firsts-firsts.ensures.value) far)

pub key_lists_at-requires-clause-of : goal.key_lists_at-requires-clause-of
key_lists_at-requires-clause-of g c =
    let x = c.args.context.now in
    let w = x.world in
    let l = c.args.rows.now in
    let p = c.args.path.now in
    let items = map agg_of c.args.keyed.now.items.now in
    let ks = plain_paths (keys_of c.args.keyed.now.keys.now) in
    let s = c.nodes-found.result.set in
    first-of c.store-store.result.now l c.firsts-firsts.result.now (subst (λ (w : World). IsTrue (all_of w l)) (sym c.store-store.ensures.value) c.requires.of)

pub key_lists_at-requires-clause-within : goal.key_lists_at-requires-clause-within
key_lists_at-requires-clause-within g c =
    let x = c.args.context.now in
    let w = x.world in
    let l = c.args.rows.now in
    let p = c.args.path.now in
    let items = map agg_of c.args.keyed.now.items.now in
    let ks = plain_paths (keys_of c.args.keyed.now.keys.now) in
    let s = c.nodes-found.result.set in
    let plain = c.as_slice-plain.ensures.value ∙ c.in_ok-plain.ensures ∙ ap (λ ks. plain_paths (keys_from (map key_of ks))) c.as_slice.ensures.value ∙ ap plain_paths (sym (keys_of-is c.args.keyed.now.keys.now)) in
    let paths = c.as_slice-2.ensures.value ∙ c.in_ok-paths.ensures.value ∙ c.requires.paths in
    let n = c.in_ok-finer.finer in
    let N = subst (λ ps. AreNumberedBy w ps l n) paths c.in_ok-finer.ensures.0 in
    let there = subst (λ fs. All (λ r. r < length n.numbers) fs) c.firsts-firsts.ensures.value c.firsts-firsts.ensures.there in
    let far = firsts-within w (ks ++ p ∷ []) l n N there in
    subst (λ fs. IsTrue (list_all (λ k. nat_lt k (length l)) fs)) (sym c.firsts-firsts.ensures.value) far

pub roll-requires-clause-rows : goal.roll-requires-clause-rows
roll-requires-clause-rows g c κs within =
    let x = c.args.context.now in
    let w = x.world in
    let l = c.args.rows.now in
    let p = c.args.path.now in
    let items = map agg_of c.args.keyed.now.items.now in
    let ks = plain_paths (keys_of c.args.keyed.now.keys.now) in
    let s = c.nodes-found.result.set in
    let plain = c.as_slice-plain.ensures.value ∙ c.in_ok-plain.ensures ∙ ap (λ ks. plain_paths (keys_from (map key_of ks))) c.as_slice.ensures.value ∙ ap plain_paths (sym (keys_of-is c.args.keyed.now.keys.now)) in
    let paths = c.as_slice-2.ensures.value ∙ c.in_ok-paths.ensures.value ∙ c.requires.paths in
    let n = c.in_ok-finer.finer in
    let N = subst (λ ps. AreNumberedBy w ps l n) paths c.in_ok-finer.ensures.0 in
    let there = subst (λ fs. All (λ r. r < length n.numbers) fs) c.firsts-firsts.ensures.value c.firsts-firsts.ensures.there in
    let far = firsts-within w (ks ++ p ∷ []) l n N there in
    sym (length-map c.as_slice-lists.result.now (λ k. k.items)) ∙ ap (λ ls. length (map (λ k. k.items) ls)) c.as_slice-lists.ensures.value ∙ ap length c.in_ok-lists.ensures.value ∙ length-map (at_places l c.firsts-firsts.result.now) (key_list c.store-store.result.now c.as_slice-plain.result.now)
    ∙ length-placed l c.firsts-firsts.result.now (subst (λ fs. IsTrue (list_all (λ k. nat_lt k (length l)) fs)) (sym c.firsts-firsts.ensures.value) far) ∙ sym (ap length c.as_slice-own.ensures.value ∙ c.in_ok-own.ensures.long)

pub roll-requires-clause-nodes : goal.roll-requires-clause-nodes
roll-requires-clause-nodes g c κs within =
    let x = c.args.context.now in
    let w = x.world in
    let l = c.args.rows.now in
    let p = c.args.path.now in
    let items = map agg_of c.args.keyed.now.items.now in
    let ks = plain_paths (keys_of c.args.keyed.now.keys.now) in
    let s = c.nodes-found.result.set in
    let f = found (hierarchy_at w.model (hier_of c.args.hier.now)) c.requires.there in
    let long = nodes-count w f.0 s c.nodes-found.result.index.now (c.nodes-found.ensures.set f.0 f.1, c.nodes-found.ensures.index f.0 f.1) in
    let P : Option ℕ → Type 0 = λ n. IfSome n (λ y. y < length c.nodes-found.result.index.now) in
    subst (All P) (sym (c.as_slice-own.ensures.value ∙ c.in_ok-own.ensures.value)) (all-placed P c.as_slice-nodes.result.now c.firsts-firsts.result.now (subst (All P) (sym c.as_slice-nodes.ensures.value)
    (subst (λ n. AreOptionsBelow n c.in_ok-nodes.nodes.items) (ap (λ (w : World). count w s) c.store-store.ensures.value ∙ sym long) c.in_ok-nodes.ensures.within)))

pub roll-requires-clause-shown : goal.roll-requires-clause-shown
roll-requires-clause-shown g c κs within =
    let x = c.args.context.now in
    let w = x.world in
    let l = c.args.rows.now in
    let p = c.args.path.now in
    let items = map agg_of c.args.keyed.now.items.now in
    let ks = plain_paths (keys_of c.args.keyed.now.keys.now) in
    let s = c.nodes-found.result.set in
    let f = found (hierarchy_at w.model (hier_of c.args.hier.now)) c.requires.there in
    let long = nodes-count w f.0 s c.nodes-found.result.index.now (c.nodes-found.ensures.set f.0 f.1, c.nodes-found.ensures.index f.0 f.1) in
    subst (λ n. AreNodesBelow n c.args.shown.now) (ap (count w) (sym (c.nodes-found.ensures.set f.0 f.1)) ∙ sym long) (c.requires.shown f.0 f.1)

pub roll-requires-clause-width : goal.roll-requires-clause-width
roll-requires-clause-width g c κs within =
    let x = c.args.context.now in
    let w = x.world in
    let l = c.args.rows.now in
    let p = c.args.path.now in
    let items = map agg_of c.args.keyed.now.items.now in
    let ks = plain_paths (keys_of c.args.keyed.now.keys.now) in
    let s = c.nodes-found.result.set in
    let qs = c.as_slice-plain.result.now in
    wide-first (length qs) c.as_slice-lists.result.now
    (wide-images (key_list c.store-store.result.now qs) (length qs) (λ i. length-map qs (lookup c.store-store.result.now i)) c.as_slice-lists.result.now (at_places l c.firsts-firsts.result.now) (ap (map (λ k. k.items)) c.as_slice-lists.ensures.value ∙ c.in_ok-lists.ensures.value))

pub rows_of_rolled-requires-clause-there : goal.rows_of_rolled-requires-clause-there
rows_of_rolled-requires-clause-there g c κs within =
    let x = c.args.context.now in
    let w = x.world in
    let l = c.args.rows.now in
    let p = c.args.path.now in
    let items = map agg_of c.args.keyed.now.items.now in
    let ks = plain_paths (keys_of c.args.keyed.now.keys.now) in
    let s = c.nodes-found.result.set in
    let f = found (hierarchy_at w.model (hier_of c.args.hier.now)) c.requires.there in
    let long = nodes-count w f.0 s c.nodes-found.result.index.now (c.nodes-found.ensures.set f.0 f.1, c.nodes-found.ensures.index f.0 f.1) in
    subst (AreOptionsBelow (length c.nodes-found.result.index.now)) (sym c.as_slice-nodes.ensures.value)
    (subst (λ n. AreOptionsBelow n c.in_ok-nodes.nodes.items) (ap (λ (w : World). count w s) c.store-store.ensures.value ∙ sym long) c.in_ok-nodes.ensures.within)

pub rows_of_rolled-requires-clause-long : goal.rows_of_rolled-requires-clause-long
rows_of_rolled-requires-clause-long g c κs within =
    let x = c.args.context.now in
    let w = x.world in
    let l = c.args.rows.now in
    let p = c.args.path.now in
    let items = map agg_of c.args.keyed.now.items.now in
    let ks = plain_paths (keys_of c.args.keyed.now.keys.now) in
    let s = c.nodes-found.result.set in
    ap length c.as_slice-nodes.ensures.value ∙ ap length c.in_ok-nodes.ensures.nodes.0 ∙ length-map l (node_in c.store-store.result.now s p)

pub rows_of_rolled-requires-clause-numbered : goal.rows_of_rolled-requires-clause-numbered
rows_of_rolled-requires-clause-numbered g c κs within =
    let x = c.args.context.now in
    let w = x.world in
    let l = c.args.rows.now in
    let p = c.args.path.now in
    let items = map agg_of c.args.keyed.now.items.now in
    let ks = plain_paths (keys_of c.args.keyed.now.keys.now) in
    let s = c.nodes-found.result.set in
    let plain = c.as_slice-plain.ensures.value ∙ c.in_ok-plain.ensures ∙ ap (λ ks. plain_paths (keys_from (map key_of ks))) c.as_slice.ensures.value ∙ ap plain_paths (sym (keys_of-is c.args.keyed.now.keys.now)) in
    subst (λ ps. AreNumberedBy w ps l c.args.keyed.now.groups) (sym plain) c.requires.numbered

pub rows_of_rolled-requires-clause-nodes : goal.rows_of_rolled-requires-clause-nodes
rows_of_rolled-requires-clause-nodes g c κs within =
    let x = c.args.context.now in
    let w = x.world in
    let l = c.args.rows.now in
    let p = c.args.path.now in
    let items = map agg_of c.args.keyed.now.items.now in
    let ks = plain_paths (keys_of c.args.keyed.now.keys.now) in
    let s = c.nodes-found.result.set in
    let h = found (hierarchy_at w.model (hier_of c.args.hier.now)) c.requires.there in
    let long = nodes-count w h.0 s c.nodes-found.result.index.now (c.nodes-found.ensures.set h.0 h.1, c.nodes-found.ensures.index h.0 h.1) in
    let plain = c.as_slice-plain.ensures.value ∙ c.in_ok-plain.ensures ∙ ap (λ ks. plain_paths (keys_from (map key_of ks))) c.as_slice.ensures.value ∙ ap plain_paths (sym (keys_of-is c.args.keyed.now.keys.now)) in
    let paths = c.as_slice-2.ensures.value ∙ c.in_ok-paths.ensures.value ∙ c.requires.paths in
    let n = c.in_ok-finer.finer in
    let N = subst (λ ps. AreNumberedBy w ps l n) paths c.in_ok-finer.ensures.0 in
    let there = subst (λ fs. All (λ r. r < length n.numbers) fs) c.firsts-firsts.ensures.value c.firsts-firsts.ensures.there in
    let far = firsts-within w (ks ++ p ∷ []) l n N there in
    let f = h.0 in
    let at = h.1 in
    let set = c.nodes-found.ensures.set f at in
    let nodes = c.as_slice-nodes.ensures.value ∙ c.in_ok-nodes.ensures.nodes.0 ∙ ap (λ (w : World). map (node_in w s p) l) c.store-store.ensures.value ∙ nodes-are w f s p l set in
    let first = at_places l n.firsts in
    let own : c.as_slice-own.result.now ≡ map (node w f p) first = c.as_slice-own.ensures.value ∙ c.in_ok-own.ensures.value ∙ (λ i. at_places (nodes i) (c.firsts-firsts.ensures.value i)) ∙ sym (map-at_places (node w f p) l n.firsts) in
    let keys : map (λ k. k.items) c.as_slice-lists.result.now ≡ map (key_list w ks) first = ap (map (λ k. k.items)) c.as_slice-lists.ensures.value ∙ c.in_ok-lists.ensures.value ∙ (λ i. map (key_list (c.store-store.ensures.value i) (plain i)) (at_places l (c.firsts-firsts.ensures.value i))) in
    let all : c.as_slice-rolled.result.now ≡ rolled (parents_of w f) (map (node w f p) first) (map (key_list w ks) first) c.args.shown.now = c.as_slice-rolled.ensures.value ∙ c.in_ok-rolled.ensures ∙ (λ i. rolled (c.nodes-found.ensures.index f at i) (own i) (keys i) c.args.shown.now) in
    let each = rolled-firsts w f ks p l n N there (length c.nodes-found.result.index.now) c.args.shown.now (subst (λ n. AreNodesBelow n c.args.shown.now) (ap (count w) (sym set) ∙ sym long) (c.requires.shown f at)) in
    λ i e b. (subst (λ es. All (λ (e : ℕ × List (List Value × List ℕ)). (e.0 < length c.nodes-found.result.index.now) × HaveFirsts w ks l n.firsts e.1) es) (sym all) each i e b).0

pub rows_of_rolled-requires-clause-firsts : goal.rows_of_rolled-requires-clause-firsts
rows_of_rolled-requires-clause-firsts g c κs within =
    let x = c.args.context.now in
    let w = x.world in
    let l = c.args.rows.now in
    let p = c.args.path.now in
    let items = map agg_of c.args.keyed.now.items.now in
    let ks = plain_paths (keys_of c.args.keyed.now.keys.now) in
    let s = c.nodes-found.result.set in
    let h = found (hierarchy_at w.model (hier_of c.args.hier.now)) c.requires.there in
    let long = nodes-count w h.0 s c.nodes-found.result.index.now (c.nodes-found.ensures.set h.0 h.1, c.nodes-found.ensures.index h.0 h.1) in
    let plain = c.as_slice-plain.ensures.value ∙ c.in_ok-plain.ensures ∙ ap (λ ks. plain_paths (keys_from (map key_of ks))) c.as_slice.ensures.value ∙ ap plain_paths (sym (keys_of-is c.args.keyed.now.keys.now)) in
    let paths = c.as_slice-2.ensures.value ∙ c.in_ok-paths.ensures.value ∙ c.requires.paths in
    let n = c.in_ok-finer.finer in
    let N = subst (λ ps. AreNumberedBy w ps l n) paths c.in_ok-finer.ensures.0 in
    let there = subst (λ fs. All (λ r. r < length n.numbers) fs) c.firsts-firsts.ensures.value c.firsts-firsts.ensures.there in
    let far = firsts-within w (ks ++ p ∷ []) l n N there in
    let f = h.0 in
    let at = h.1 in
    let set = c.nodes-found.ensures.set f at in
    let nodes = c.as_slice-nodes.ensures.value ∙ c.in_ok-nodes.ensures.nodes.0 ∙ ap (λ (w : World). map (node_in w s p) l) c.store-store.ensures.value ∙ nodes-are w f s p l set in
    let first = at_places l n.firsts in
    let own : c.as_slice-own.result.now ≡ map (node w f p) first = c.as_slice-own.ensures.value ∙ c.in_ok-own.ensures.value ∙ (λ i. at_places (nodes i) (c.firsts-firsts.ensures.value i)) ∙ sym (map-at_places (node w f p) l n.firsts) in
    let keys : map (λ k. k.items) c.as_slice-lists.result.now ≡ map (key_list w ks) first = ap (map (λ k. k.items)) c.as_slice-lists.ensures.value ∙ c.in_ok-lists.ensures.value ∙ (λ i. map (key_list (c.store-store.ensures.value i) (plain i)) (at_places l (c.firsts-firsts.ensures.value i))) in
    let all : c.as_slice-rolled.result.now ≡ rolled (parents_of w f) (map (node w f p) first) (map (key_list w ks) first) c.args.shown.now = c.as_slice-rolled.ensures.value ∙ c.in_ok-rolled.ensures ∙ (λ i. rolled (c.nodes-found.ensures.index f at i) (own i) (keys i) c.args.shown.now) in
    let each = rolled-firsts w f ks p l n N there (length c.nodes-found.result.index.now) c.args.shown.now (subst (λ n. AreNodesBelow n c.args.shown.now) (ap (count w) (sym set) ∙ sym long) (c.requires.shown f at)) in
    λ i e b.
    subst (λ fs. HaveFirsts w c.as_slice-plain.result.now l fs (get_or c.as_slice-rolled.result.now i e).1) (sym c.firsts-firsts.ensures.value)
    (subst (λ qs. HaveFirsts w qs l n.firsts (get_or c.as_slice-rolled.result.now i e).1) (sym plain) (subst (λ es. All (λ (e : ℕ × List (List Value × List ℕ)). (e.0 < length c.nodes-found.result.index.now) × HaveFirsts w ks l n.firsts e.1) es) (sym all) each i e b).1)

pub rows_of_rolled-requires-clause-ready : goal.rows_of_rolled-requires-clause-ready
rows_of_rolled-requires-clause-ready g c κs within =
    let x = c.args.context.now in
    let w = x.world in
    let l = c.args.rows.now in
    let p = c.args.path.now in
    let items = map agg_of c.args.keyed.now.items.now in
    let ks = plain_paths (keys_of c.args.keyed.now.keys.now) in
    let s = c.nodes-found.result.set in
    let plain = c.as_slice-plain.ensures.value ∙ c.in_ok-plain.ensures ∙ ap (λ ks. plain_paths (keys_from (map key_of ks))) c.as_slice.ensures.value ∙ ap plain_paths (sym (keys_of-is c.args.keyed.now.keys.now)) in
    subst (λ qs. KeyedReady x c.args.root.now items qs p l) (sym plain) c.requires.ready

pub returns-clause-rows : goal.returns-clause-rows
returns-clause-rows g c =
    λ f S at root.
    let x = c.args.context.now in
    let w = x.world in
    let l = c.args.rows.now in
    let p = c.args.path.now in
    let items = map agg_of c.args.keyed.now.items.now in
    let ks = plain_paths (keys_of c.args.keyed.now.keys.now) in
    let s = c.nodes-found.result.set in
    let plain = c.as_slice-plain.ensures.value ∙ c.in_ok-plain.ensures ∙ ap (λ ks. plain_paths (keys_from (map key_of ks))) c.as_slice.ensures.value ∙ ap plain_paths (sym (keys_of-is c.args.keyed.now.keys.now)) in
    let paths = c.as_slice-2.ensures.value ∙ c.in_ok-paths.ensures.value ∙ c.requires.paths in
    let n = c.in_ok-finer.finer in
    let N = subst (λ ps. AreNumberedBy w ps l n) paths c.in_ok-finer.ensures.0 in
    let there = subst (λ fs. All (λ r. r < length n.numbers) fs) c.firsts-firsts.ensures.value c.firsts-firsts.ensures.there in
    let far = firsts-within w (ks ++ p ∷ []) l n N there in
    let set = c.nodes-found.ensures.set f at in
    let nodes = c.as_slice-nodes.ensures.value ∙ c.in_ok-nodes.ensures.nodes.0 ∙ ap (λ (w : World). map (node_in w s p) l) c.store-store.ensures.value ∙ nodes-are w f s p l set in
    let first = at_places l n.firsts in
    let own : c.as_slice-own.result.now ≡ map (node w f p) first = c.as_slice-own.ensures.value ∙ c.in_ok-own.ensures.value ∙ (λ i. at_places (nodes i) (c.firsts-firsts.ensures.value i)) ∙ sym (map-at_places (node w f p) l n.firsts) in
    let keys : map (λ k. k.items) c.as_slice-lists.result.now ≡ map (key_list w ks) first = ap (map (λ k. k.items)) c.as_slice-lists.ensures.value ∙ c.in_ok-lists.ensures.value ∙ (λ i. map (key_list (c.store-store.ensures.value i) (plain i)) (at_places l (c.firsts-firsts.ensures.value i))) in
    let all : c.as_slice-rolled.result.now ≡ rolled (parents_of w f) (map (node w f p) first) (map (key_list w ks) first) c.args.shown.now = c.as_slice-rolled.ensures.value ∙ c.in_ok-rolled.ensures ∙ (λ i. rolled (c.nodes-found.ensures.index f at i) (own i) (keys i) c.args.shown.now) in
    let are : AreNodesOf w f p l s c.nodes-found.result.index.now c.as_slice-nodes.result.now = record { set_is = sym set; parents_are = c.nodes-found.ensures.index f at; nodes_are = nodes } in (
      c.in_ok-rows_of_rolled.ensures.rows f S are root
          ∙ (λ i. flat_map (rolled_rows w (readings x.customs) S f items (plain i) p l) (all i))
          ∙ rolled-made w f ks p l n N there (readings x.customs) S items c.args.shown.now,
      ap (λ ps. has_beyond_key w ps l) (sym paths) ∙ c.in_ok-finer.ensures.1,
    )

pub returns-clause-steps : goal.returns-clause-steps
returns-clause-steps g c =
    λ f S at root.
    let x = c.args.context.now in
    let w = x.world in
    let l = c.args.rows.now in
    let p = c.args.path.now in
    let items = map agg_of c.args.keyed.now.items.now in
    let ks = plain_paths (keys_of c.args.keyed.now.keys.now) in
    let s = c.nodes-found.result.set in
    let plain = c.as_slice-plain.ensures.value ∙ c.in_ok-plain.ensures ∙ ap (λ ks. plain_paths (keys_from (map key_of ks))) c.as_slice.ensures.value ∙ ap plain_paths (sym (keys_of-is c.args.keyed.now.keys.now)) in
    let paths = c.as_slice-2.ensures.value ∙ c.in_ok-paths.ensures.value ∙ c.requires.paths in
    let n = c.in_ok-finer.finer in
    let N = subst (λ ps. AreNumberedBy w ps l n) paths c.in_ok-finer.ensures.0 in
    let there = subst (λ fs. All (λ r. r < length n.numbers) fs) c.firsts-firsts.ensures.value c.firsts-firsts.ensures.there in
    let far = firsts-within w (ks ++ p ∷ []) l n N there in
    let set = c.nodes-found.ensures.set f at in
    let nodes = c.as_slice-nodes.ensures.value ∙ c.in_ok-nodes.ensures.nodes.0 ∙ ap (λ (w : World). map (node_in w s p) l) c.store-store.ensures.value ∙ nodes-are w f s p l set in
    let first = at_places l n.firsts in
    let own : c.as_slice-own.result.now ≡ map (node w f p) first = c.as_slice-own.ensures.value ∙ c.in_ok-own.ensures.value ∙ (λ i. at_places (nodes i) (c.firsts-firsts.ensures.value i)) ∙ sym (map-at_places (node w f p) l n.firsts) in
    let keys : map (λ k. k.items) c.as_slice-lists.result.now ≡ map (key_list w ks) first = ap (map (λ k. k.items)) c.as_slice-lists.ensures.value ∙ c.in_ok-lists.ensures.value ∙ (λ i. map (key_list (c.store-store.ensures.value i) (plain i)) (at_places l (c.firsts-firsts.ensures.value i))) in
    let all : c.as_slice-rolled.result.now ≡ rolled (parents_of w f) (map (node w f p) first) (map (key_list w ks) first) c.args.shown.now = c.as_slice-rolled.ensures.value ∙ c.in_ok-rolled.ensures ∙ (λ i. rolled (c.nodes-found.ensures.index f at i) (own i) (keys i) c.args.shown.now) in
    let are : AreNodesOf w f p l s c.nodes-found.result.index.now c.as_slice-nodes.result.now = record { set_is = sym set; parents_are = c.nodes-found.ensures.index f at; nodes_are = nodes } in
    let long = sym (rolled-long w (readings x.customs) S f items ks p l c.as_slice-rolled.result.now) ∙ ap length (ap (flat_map (rolled_rows w (readings x.customs) S f items ks p l)) all ∙ rolled-made w f ks p l n N there (readings x.customs) S items c.args.shown.now) in
    let spent = c.rows_of_rolled.ensures.steps in
    omega (arith, long, spent)

pub returns-in_err-rows_of_rolled-clause-steps : goal.returns-in_err-rows_of_rolled-clause-steps
returns-in_err-rows_of_rolled-clause-steps g c =
    λ f S at root.
    let x = c.args.context.now in
    let w = x.world in
    let l = c.args.rows.now in
    let p = c.args.path.now in
    let items = map agg_of c.args.keyed.now.items.now in
    let ks = plain_paths (keys_of c.args.keyed.now.keys.now) in
    let s = c.nodes-found.result.set in
    let plain = c.as_slice-plain.ensures.value ∙ c.in_ok-plain.ensures ∙ ap (λ ks. plain_paths (keys_from (map key_of ks))) c.as_slice.ensures.value ∙ ap plain_paths (sym (keys_of-is c.args.keyed.now.keys.now)) in
    let paths = c.as_slice-2.ensures.value ∙ c.in_ok-paths.ensures.value ∙ c.requires.paths in
    let n = c.in_ok-finer.finer in
    let N = subst (λ ps. AreNumberedBy w ps l n) paths c.in_ok-finer.ensures.0 in
    let there = subst (λ fs. All (λ r. r < length n.numbers) fs) c.firsts-firsts.ensures.value c.firsts-firsts.ensures.there in
    let far = firsts-within w (ks ++ p ∷ []) l n N there in
    let set = c.nodes-found.ensures.set f at in
    let nodes = c.as_slice-nodes.ensures.value ∙ c.in_ok-nodes.ensures.nodes.0 ∙ ap (λ (w : World). map (node_in w s p) l) c.store-store.ensures.value ∙ nodes-are w f s p l set in
    let first = at_places l n.firsts in
    let own : c.as_slice-own.result.now ≡ map (node w f p) first = c.as_slice-own.ensures.value ∙ c.in_ok-own.ensures.value ∙ (λ i. at_places (nodes i) (c.firsts-firsts.ensures.value i)) ∙ sym (map-at_places (node w f p) l n.firsts) in
    let keys : map (λ k. k.items) c.as_slice-lists.result.now ≡ map (key_list w ks) first = ap (map (λ k. k.items)) c.as_slice-lists.ensures.value ∙ c.in_ok-lists.ensures.value ∙ (λ i. map (key_list (c.store-store.ensures.value i) (plain i)) (at_places l (c.firsts-firsts.ensures.value i))) in
    let all : c.as_slice-rolled.result.now ≡ rolled (parents_of w f) (map (node w f p) first) (map (key_list w ks) first) c.args.shown.now = c.as_slice-rolled.ensures.value ∙ c.in_ok-rolled.ensures ∙ (λ i. rolled (c.nodes-found.ensures.index f at i) (own i) (keys i) c.args.shown.now) in
    let are : AreNodesOf w f p l s c.nodes-found.result.index.now c.as_slice-nodes.result.now = record { set_is = sym set; parents_are = c.nodes-found.ensures.index f at; nodes_are = nodes } in
    let long = sym (rolled-long w (readings x.customs) S f items ks p l c.as_slice-rolled.result.now) ∙ ap length (ap (flat_map (rolled_rows w (readings x.customs) S f items ks p l)) all ∙ rolled-made w f ks p l n N there (readings x.customs) S items c.args.shown.now) in
    let spent = c.rows_of_rolled.ensures.steps in
    omega (arith, long, spent)
