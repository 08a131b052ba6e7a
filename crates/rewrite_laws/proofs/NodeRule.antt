-- A filter on the node alone goes to the end of the pipeline that chooses the nodes.
use Rattle.std.proofs.Common.{◌≡◌, sym, ◌∙◌, ap, subst, ◌==◌, Bool, true, ◌&&◌, ◌||◌, List, ◌∷◌, ◌++◌, Option, Some, None, IsTrue, Contains, if◌then◌else◌}
use Rattle.std.specs.Prelude.{option_and_then, option_map, unwrap_or, find}
use Rattle.std.proofs.lemmas.Bool.{and_parts, eqb-true}
use Rattle.edm_values.specs.Lists.{is_nonempty, is_some_and}
use Rattle.edm_values.specs.Literals.{is_boolean_kind}
use Rattle.edm_values.specs.Names.{Name}
use Rattle.edm_values.proofs.OptionFacts.{and_5, none_or, some_value, chained, mapped, some_and, if_else-parts}
use Rattle.edm_model.specs.Models.{Model}
use Rattle.edm_model.specs.LookUps.{HierarchyPlace}
use Rattle.edm_data.specs.Worlds.{World}
use Rattle.apply_ast.specs.Trees.{Expr, Keys, OptPipe, Step, pipe, is_long}
use Rattle.context_typing.specs.Shapes.{Shape, set_shape}
use Rattle.context_typing.specs.Typing.{Customs, hierarchy_at, group_keys, rollup_part, rollup_paths, has_kind, is_sure, is_nodes, is_node_path, root_type, steps_shape, step_shape, inner_shape, keys_typed, grouped_shape, no_shape, after}
use Rattle.apply_ast.specs.NamedHierarchies.{inner_hierarchies}
use Rattle.rewrite_laws.specs.Rewrites.{paths, over, on_node, ended_inner, ended_keys, node_shape, grouping_quiet, filter_nodes, movable, behind}
use Rattle.rewrite_laws.specs.RewriteLaws.{KeepsMeaningInPlace, SameMeaning}
use Rattle.rewrite_laws.proofs.RuleLemmas.{Laws, taking-keeps_meaning}
use Rattle.rewrite_laws.proofs.EndedPipes.{ended_inner-shape}
use Rattle.rewrite_laws.proofs.GroupingRules.{IsGrouping, grouping-parts}
use Rattle.rewrite_laws.proofs.NodeKeys.{NodeKey, node-key, ended_keys-hierarchies}
use Rattle.rewrite_laws.proofs.NodeGroups.{nodes-mean}

-- ---- typing

module _ (w : World) (c : Customs) (S S1 : Shape) (ks : Keys) (T : OptPipe) (g : IsGrouping w.model c S ks T S1) (K : NodeKey w c ks) (f : HierarchyPlace) (at : hierarchy_at w.model K.hierarchy ≡ Some f)
    (N : Shape) (chosen_is : inner_shape w.model c (set_shape f.type) (set_shape f.type) K.chooses ≡ Some N) where
  -- the typing of the key for the nodes, but for its path
  rooted : OptPipe → Option HierarchyPlace → Bool
  rooted U o = is_some_and (λ f. is_some_and (λ N. is_some_and (λ t. t == f.type) (root_type N)) (inner_shape w.model c (set_shape f.type) (set_shape f.type) U)) o

  -- the chosen instances have entities of the nodes' type
  root-typed : root_type N ≡ Some f.type
  unfolding steps_shape
  root-typed =
      let key = sym (K.typed S) ∙ g.keys_ok in
      let there = some_and (λ f. is_some_and (λ N. is_some_and (λ t. t == f.type) (root_type N)) (inner_shape w.model c (set_shape f.type) (set_shape f.type) K.chooses)) (hierarchy_at w.model K.hierarchy) (and_parts (is_node_path w.model S K.hierarchy K.path) _ key).1 in
      let same = some_value (sym there.1 ∙ at) in
      let shape = ap (λ f. is_some_and (λ N. is_some_and (λ t. t == f.type) (root_type N)) (inner_shape w.model c (set_shape f.type) (set_shape f.type) K.chooses)) (sym same) ∙ there.2 in
      let root = some_and (λ t. t == f.type) (root_type N) (ap (is_some_and (λ N. is_some_and (λ t. t == f.type) (root_type N))) (sym chosen_is) ∙ shape) in
      root.1 ∙ ap (λ t. Some t) (eqb-true root.0 f.type root.2)

  module _ (b : Expr) (kindN : has_kind is_boolean_kind w.model N (on_node (f.key).name b) ≡ true) where
    -- the grouping with the filter among the nodes is typed as the grouping is
    nodes-typed : keys_typed w.model c S (ended_keys (Step.Filter (on_node (f.key).name b)) ks) ≡ true
    unfolding steps_shape rooted
    nodes-typed =
        K.typed_ended S (Step.Filter (on_node (f.key).name b))
        ∙ ap (λ z. is_node_path w.model S K.hierarchy K.path && z) (
        ap (rooted (ended_inner K.chooses (Step.Filter (on_node (f.key).name b)))) at
        ∙ ap (is_some_and (λ N. is_some_and (λ t. t == f.type) (root_type N))) (ended_inner-shape w.model c (set_shape f.type) N K.chooses (on_node (f.key).name b) chosen_is kindN ∙ sym chosen_is)
        ∙ sym (ap (rooted K.chooses) at))
        ∙ sym (K.typed S) ∙ g.keys_ok

    pub nodes-shape : step_shape w.model c S (Step.GroupBy (ended_keys (Step.Filter (on_node (f.key).name b)) ks) T) ≡ Some S1
    unfolding steps_shape
    nodes-shape =
        ap (λ z. if z then option_and_then (grouped_shape w.model S (group_keys (ended_keys (Step.Filter (on_node (f.key).name b)) ks))) (inner_shape w.model c S no_shape T) else None) nodes-typed
        ∙ (λ i. option_and_then (grouped_shape w.model S (K.keys_ended (Step.Filter (on_node (f.key).name b)) i)) (g.inner_is i)) ∙ g.grouped_is

-- ---- the rule

-- what is asked of the filter, for the shape of the nodes and the name of their key
abbrev pub node_test : Model → Customs → Shape → Keys → OptPipe → Shape × Name → Expr → Bool
node_test m c S ks T N b =
    is_nonempty (paths b) && over (rollup_paths (rollup_part (group_keys ks))) b && is_sure m (after m c S (Step.GroupBy ks T)) b && has_kind is_boolean_kind m N.0 (on_node N.1 b) && is_sure m N.0 (on_node N.1 b)

-- what the rule makes of it
abbrev pub node_taken : Model → Customs → Shape → Keys → OptPipe → List Step → Shape × Name → Option (List Step)
node_taken m c S ks T ss N =
    option_map (λ r. behind (Step.GroupBy (ended_keys (Step.Filter (on_node N.1 r.last)) ks) T) r) (find (λ r. node_test m c S ks T N r.last) (movable m (after m c S (Step.GroupBy ks T)) ss))

-- what the rule finds: the key for the nodes, the shape of those that are chosen, and what the filter becomes among them
pub record IntoNodes (w : World) (c : Customs) (S S1 : Shape) (ks : Keys) (T : OptPipe) (ss ss' : List Step) : Type 0 where
  pub grouping : IsGrouping w.model c S ks T S1
  pub one_nodes : is_nodes (rollup_part (group_keys ks)) ≡ true
  pub quiet : grouping_quiet w.model c S ks T ≡ true
  pub key : NodeKey w c ks
  pub place : HierarchyPlace
  pub place_is : hierarchy_at w.model key.hierarchy ≡ Some place
  pub chosen : Shape
  pub chosen_is : inner_shape w.model c (set_shape place.type) (set_shape place.type) key.chooses ≡ Some chosen
  pub shape_is : node_shape w.model c ks ≡ Some (chosen, (place.key).name)
  pub taken : node_taken w.model c S ks T ss (chosen, (place.key).name) ≡ Some ss'

pub into-nodes : (w : World) (c : Customs) (S S1 : Shape) (before : Bool) (ks : Keys) (T : OptPipe) (ss ss' : List Step) → step_shape w.model c S (Step.GroupBy ks T) ≡ Some S1 → filter_nodes w.model c S before (Step.GroupBy ks T) ss ≡ Some ss'
    → IntoNodes w c S S1 ks T ss ss'
into-nodes w c S S1 before ks T ss ss' e got =
    let g = grouping-parts w.model c S S1 ks T e in
    let N0 = chained (λ N. if is_nodes (rollup_part (group_keys ks)) && grouping_quiet w.model c S ks T then node_taken w.model c S ks T ss N else None) (node_shape w.model c ks) ss' got in
    let q = if_else-parts (is_nodes (rollup_part (group_keys ks)) && grouping_quiet w.model c S ks T) (node_taken w.model c S ks T ss N0.0) ss' N0.2 in
    let q' = and_parts (is_nodes (rollup_part (group_keys ks))) _ q.0 in
    let K = node-key w c ks q'.0 g.one_part in
    let f = chained (λ f. option_map (λ N. (N, (f.key).name)) (inner_shape w.model c (set_shape f.type) (set_shape f.type) K.chooses)) (hierarchy_at w.model K.hierarchy) N0.0 (sym K.shape ∙ N0.1) in
    let N = mapped (λ N. (N, ((f.0).key).name)) (inner_shape w.model c (set_shape (f.0).type) (set_shape (f.0).type) K.chooses) N0.0 f.2 in
    record {
      grouping = g;
      one_nodes = q'.0;
      quiet = q'.1;
      key = K;
      place = f.0;
      place_is = f.1;
      chosen = N.0;
      chosen_is = N.1;
      shape_is = N0.1 ∙ ap (λ z. Some z) (sym N.2);
      taken = subst (λ z. node_taken w.model c S ks T ss z ≡ Some ss') (sym N.2) q.1;
    }

-- what the filter passes: it is over the node's path and sure, and typed and sure among the nodes
pub node_test-parts : (m : Model) (c : Customs) (S : Shape) (ks : Keys) (T : OptPipe) (N : Shape × Name) (b : Expr) → node_test m c S ks T N b ≡ true
    → (over (rollup_paths (rollup_part (group_keys ks))) b ≡ true) × (is_sure m (after m c S (Step.GroupBy ks T)) b ≡ true) × (has_kind is_boolean_kind m N.0 (on_node N.1 b) ≡ true) × (is_sure m N.0 (on_node N.1 b) ≡ true)
node_test-parts m c S ks T N b t = let p = and_5 (is_nonempty (paths b)) _ _ _ _ t in (p.1, p.2, p.3, p.4)

pub filter_nodes-keeps_meaning : (A : World → Type 0) → Laws A → KeepsMeaningInPlace A filter_nodes
unfolding steps_shape
filter_nodes-keeps_meaning A L w c S S' before (Step.GroupBy ks T) ss ss' k law e got =
    let S1 = chained (λ Z. steps_shape w.model c Z (pipe ss)) (step_shape w.model c S (Step.GroupBy ks T)) S' e in
    whole S1.0 S1.1 (into-nodes w c S S1.0 before ks T ss ss' S1.1 got)
  where
    whole : (S1 : Shape) → step_shape w.model c S (Step.GroupBy ks T) ≡ Some S1 → IntoNodes w c S S1 ks T ss ss' → IsTrue (before || is_long (pipe ss')) × SameMeaning A w c S (pipe (Step.GroupBy ks T ∷ ss)) (pipe ss')
    whole S1 e1 D =
        let g = D.grouping in
        let K = D.key in
        let f = D.place in
        let N = D.chosen in
        taking-keeps_meaning A L w c k S S1 S' law (Step.GroupBy ks T) e1 (after w.model c S (Step.GroupBy ks T)) before ss ss' (node_test w.model c S ks T (N, (f.key).name))
        (λ b. Step.GroupBy (ended_keys (Step.Filter (on_node (f.key).name b)) ks) T) (ap (λ o. unwrap_or o S) e1) e D.taken
        (λ b h z. subst (λ hs. Contains (hs ++ inner_hierarchies T) h) (ended_keys-hierarchies ks (on_node (f.key).name b)) z)
        (λ b t h.
        let p = node_test-parts w.model c S ks T (N, (f.key).name) b t in
        let all = subst (λ part. over (rollup_paths part) b ≡ true) K.part p.0 in (
          nodes-shape w c S S1 ks T g K f D.place_is N D.chosen_is b p.2,
          λ u l fit. nodes-mean A L w c u k S S1 law ks T g D.quiet K f D.place_is N D.chosen_is (root-typed w c S S1 ks T g K f D.place_is N D.chosen_is) b all p.2 p.3 l fit,
        ))
filter_nodes-keeps_meaning A L w c S S' before s ss ss' k law e got = none_or ss' got
