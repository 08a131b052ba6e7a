use Rattle.std.proofs.Common.{◌≡◌, ◌++◌, ◌∷◌, [], ℕ, Option, sym, subst, ◌∙◌, ap, Err, length, map}
use Rattle.std.specs.List.{list_any}
use Rattle.std.specs.Global.{Vec}
use Rattle.std.proofs.lemmas.List.{length-map}
use Rattle.std.proofs.lemmas.Result.{err_from_is_err_and}
use Rattle.edm_values.specs.declared.Value.{Value}
use Rattle.edm_values.specs.Values.{is_beyond}
use Rattle.edm_data.specs.References.{count}
use Rattle.edm_data.specs.Worlds.{World}
use Rattle.apply_ast.proofs.ViewEquations.{keys_of-is}
use Rattle.apply_ast.specs.Views.{hier_of, key_of, keys_from, keys_of}
use Rattle.context_typing.specs.Typing.{hierarchy_at, plain_paths}
use Rattle.apply_meaning.specs.Instances.{lookup}
use Rattle.apply_meaning.specs.Meaning.{key_list}
use Rattle.aggregate_ops.proofs.KeyGroups.{wide-images}
use Rattle.group_rollup.specs.Groupings.{has_beyond_key, GivesFor}
use Rattle.hier_rows.proofs.NodeLaws.{nodes-are, nodes-count}
use Rattle.hier_rows.specs.HierRows as rows
use Rattle.hier_rows.specs.HierRows.{AreNodesBelow, AreOptionsBelow, node_in, path_values}
use Rattle.rollup_rec.specs.Rollups.{rolled}
use Rattle.step_run.specs.Levels.{node_level}
use Rattle.step_run.proofs.ClimbOutcomes.{found}
use Rattle.step_run.proofs.NodeKeys.{keys-err, none-beyond, path-err, wide-first}
use Rattle.step_run.proofs.recursive.node_levels.Goals as goal

pub returns-in_err-nodes : goal.returns-in_err-nodes
returns-in_err-nodes g c = record {
  levels = λ f at.
      let w = c.args.context.now.world in
      let p = c.args.path.now in
      let l = c.args.rows.now in
      let e = c.in_err-nodes.field-0.0 in
      let s = c.nodes-found.result.set in
      let given = subst (λ (w : World). rows.GivesFor (λ (v : Vec (Option ℕ)). v.items ≡ map (node_in w s p) l) (path_values w p l) (Err e)) c.store-store.ensures.value c.in_err-nodes.ensures.nodes in
      let q = err_from_is_err_and c.from_residual-in_err-nodes.result c.from_residual-in_err-nodes.ensures.1 in
      rw (q.1, q.2) (path-err (λ (v : Vec (Option ℕ)). v.items ≡ map (node_in w s p) l) w f (plain_paths (keys_of c.args.keys.now)) p c.args.shown.now l e given);
}

pub returns-in_err-lists : goal.returns-in_err-lists
returns-in_err-lists g c = record {
  levels = λ f at.
      let w = c.args.context.now.world in
      let l = c.args.rows.now in
      let e = c.in_err-lists.field-0.0 in
      let plain = c.as_slice-plain.ensures.value ∙ c.in_ok-plain.ensures ∙ ap (λ ks. plain_paths (keys_from (map key_of ks))) c.as_slice.ensures.value ∙ ap plain_paths (sym (keys_of-is c.args.keys.now)) in
      let given = subst (λ ks. GivesFor (λ (lists : Vec (Vec Value)). map (λ k. k.items) lists.items ≡ map (key_list w ks) l) w ks l (Err e)) plain c.in_err-lists.ensures in
      let q = err_from_is_err_and c.from_residual-in_err-lists.result c.from_residual-in_err-lists.ensures.1 in
      rw (q.1, q.2) (keys-err (λ (lists : Vec (Vec Value)). map (λ k. k.items) lists.items ≡ map (key_list w (plain_paths (keys_of c.args.keys.now))) l) w f (plain_paths (keys_of c.args.keys.now)) c.args.path.now c.args.shown.now l e given);
}

pub roll-requires-clause-nodes : goal.roll-requires-clause-nodes
roll-requires-clause-nodes g c κs within =
    let w = c.args.context.now.world in
    let f = found (hierarchy_at w.model (hier_of c.args.hier.now)) c.requires.there in
    let long = nodes-count w f.0 c.nodes-found.result.set c.nodes-found.result.index.now (c.nodes-found.ensures.set f.0 f.1, c.nodes-found.ensures.index f.0 f.1) in
    subst (AreOptionsBelow (length c.nodes-found.result.index.now)) (sym c.as_slice-2.ensures.value)
    (subst (λ n. AreOptionsBelow n c.in_ok-nodes.nodes.items) (ap (λ (w : World). count w c.nodes-found.result.set) c.store-store.ensures.value ∙ sym long) c.in_ok-nodes.ensures.within)

pub roll-requires-clause-shown : goal.roll-requires-clause-shown
roll-requires-clause-shown g c κs within =
    let w = c.args.context.now.world in
    let f = found (hierarchy_at w.model (hier_of c.args.hier.now)) c.requires.there in
    let long = nodes-count w f.0 c.nodes-found.result.set c.nodes-found.result.index.now (c.nodes-found.ensures.set f.0 f.1, c.nodes-found.ensures.index f.0 f.1) in
    subst (λ n. AreNodesBelow n c.args.shown.now) (ap (count w) (sym (c.nodes-found.ensures.set f.0 f.1)) ∙ sym long) (c.requires.shown f.0 f.1)

pub roll-requires-clause-width : goal.roll-requires-clause-width
roll-requires-clause-width g c κs within =
    let w = c.args.context.now.world in
    let ks = c.as_slice-plain.result.now in
    wide-first (length ks) c.as_slice-3.result.now
    (wide-images (key_list w ks) (length ks) (λ i. length-map ks (lookup w i)) c.as_slice-3.result.now c.args.rows.now (ap (map (λ k. k.items)) c.as_slice-3.ensures.value ∙ c.in_ok-lists.ensures.0))

pub returns : goal.returns
returns g c = record {
  levels = λ f at.
      let w = c.args.context.now.world in
      let p = c.args.path.now in
      let l = c.args.rows.now in
      let s = c.nodes-found.result.set in
      let set = c.nodes-found.ensures.set f at in
      let plain = c.as_slice-plain.ensures.value ∙ c.in_ok-plain.ensures ∙ ap (λ ks. plain_paths (keys_from (map key_of ks))) c.as_slice.ensures.value ∙ ap plain_paths (sym (keys_of-is c.args.keys.now)) in
      let nodes = c.as_slice-2.ensures.value ∙ c.in_ok-nodes.ensures.nodes.0 ∙ ap (λ (w : World). map (node_in w s p) l) c.store-store.ensures.value ∙ nodes-are w f s p l set in
      let lists = ap (map (λ k. k.items)) c.as_slice-3.ensures.value ∙ c.in_ok-lists.ensures.0 ∙ ap (λ ks. map (key_list w ks) l) plain in
      let quiet = ap (λ (w : World). path_values w p l) (sym c.store-store.ensures.value) in (
        c.in_ok-levels_by_node.ensures f (sym set)
            ∙ (λ i. map (node_level (c.store-store.ensures.value i) f (c.requires.all i)) c.in_ok-rolled.rolled.items)
            ∙ ap (map (node_level w f (plain_paths (keys_of c.args.keys.now) ++ p ∷ []))) (c.in_ok-rolled.ensures ∙ (λ i. rolled (c.nodes-found.ensures.index f at i) (nodes i) (lists i) c.args.shown.now)),
        none-beyond w (plain_paths (keys_of c.args.keys.now)) p l
            (ap (λ ks. has_beyond_key w ks l) (sym plain) ∙ c.in_ok-lists.ensures.1)
            (ap (list_any is_beyond) quiet ∙ c.in_ok-nodes.ensures.nodes.1),
      );
}
