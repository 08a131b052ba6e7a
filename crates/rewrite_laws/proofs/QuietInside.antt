-- What the rules by which a join, or a grouping over nodes, takes a filter in make of typed steps is quiet where these are.
use Rattle.std.proofs.Common.{◌≡◌, refl, sym, ◌∙◌, ap, Bool, true, false, ◌&&◌, not, Some, drop, length}
use Rattle.std.proofs.Math.Bool.{and-true}
use Rattle.std.proofs.lemmas.Bool.{and_parts, true≢false}
use Rattle.std.specs.Prelude.{option_map, nat_le, unwrap_or}
use Rattle.std.specs.List.{list_all}
use Rattle.edm_data.specs.Worlds.{World}
use Rattle.edm_model.specs.LookUps.{HierarchyPlace}
use Rattle.edm_model.specs.Models.{Model, Navigation}
use Rattle.edm_values.specs.Lists.{is_nonempty, is_some_and}
use Rattle.edm_values.specs.Names.{Name}
use Rattle.edm_values.proofs.OptionFacts.{none_or, chained, mapped}
use Rattle.apply_ast.specs.Trees.{Expr, Key, Keys, OptPipe, Step, pipe}
use Rattle.context_typing.specs.Paths.{begins}
use Rattle.context_typing.specs.Shapes.{Shape, set_shape}
use Rattle.context_typing.specs.Typing.{Customs, after, group_keys, hierarchy_at, inner_quiet, inner_shape, is_nodes, is_quiet, is_risky, is_sure, keys_quiet, rollup_part, rollup_parts, step_quiet, steps_shape, step_shape}
use Rattle.context_typing.proofs.ShapeLemmas.{law-from}
use Rattle.rewrite_laws.specs.Rewrites.{paths, with_paths, ended_inner, ended_keys, filter_nodes, filter_related, node_shape, on_node}
use Rattle.rewrite_laws.proofs.NodeKeys.{no-more, plain-ended}
use Rattle.rewrite_laws.proofs.NodeRule.{into-nodes, node_test, node_test-parts, nodes-shape}
use Rattle.rewrite_laws.proofs.QuietLemmas.{KeepsQuietInPlace, bare, quiet-ended_inner, taking-keeps_quiet}
use Rattle.rewrite_laws.proofs.RelatedRule.{IsJoin, inside-shape, inside-sure, join-parts}

-- ---- into a join

-- a join that takes a filter in is quiet where it is, and the filter is sure behind it
pub related-quiet : (w : World) (c : Customs) (S S1 : Shape) (n a : Name) (T : OptPipe) (J : IsJoin w.model c S false n a T S1) (b : Expr) → is_sure w.model J.inner (with_paths (drop 1) b) ≡ is_sure w.model S1 b
    → step_quiet w.model c S (Step.Join false n a (ended_inner T (Step.Filter (with_paths (drop 1) b)))) ≡ (step_quiet w.model c S (Step.Join false n a T) && is_sure w.model S1 b)
unfolding is_quiet
related-quiet w c S S1 n a T J b same =
    ap (is_some_and (calm (ended_inner T (Step.Filter (with_paths (drop 1) b))))) J.via_is
    ∙ quiet-ended_inner w.model c (set_shape (J.via).target) J.inner T (with_paths (drop 1) b) J.inner_is
    ∙ (λ i. is_some_and (calm T) (sym J.via_is i) && same i)
  where
    calm : OptPipe → Navigation → Bool
    calm U v = inner_quiet w.model c (set_shape v.target) U

pub filter_related-keeps_quiet : KeepsQuietInPlace filter_related
unfolding steps_shape
filter_related-keeps_quiet m c S S' before (Step.Join false n a T) ss ss' k law e got =
    let S1 = chained (λ Z. steps_shape m c Z (pipe ss)) (step_shape m c S (Step.Join false n a T)) S' e in
    let J = join-parts m c S S1.0 false n a T S1.1 in
    let L = law-from m S law in
    taking-keeps_quiet m c S S1.0 S' (after m c S (Step.Join false n a T)) (Step.Join false n a T) ss ss' (λ b. is_nonempty (paths b) && list_all (begins a) (paths b))
    (λ b. Step.Join false n a (ended_inner T (Step.Filter (with_paths (drop 1) b)))) S1.1 e got (λ b t h.
    let under = (and_parts (is_nonempty (paths b)) _ t).1 in
    (inside-shape (bare m) c S S1.0 n a T L J b under h, related-quiet (bare m) c S S1.0 n a T J b (inside-sure (bare m) c S S1.0 n a T L J b under)))
filter_related-keeps_quiet m c S S' before s ss ss' k law e got = none_or ss' got

-- ---- among nodes

-- keys that take a sure filter in are quiet where they are
nodes-quiet : (m : Model) (c : Customs) (S : Shape) (b : Expr) (N : Shape × Name) (ks : Keys) → is_nodes (rollup_part (group_keys ks)) ≡ true → nat_le (length (rollup_parts ks)) 1 ≡ true → node_shape m c ks ≡ Some N → is_sure m N.0 b ≡ true
    → keys_quiet m c S (ended_keys (Step.Filter b) ks) ≡ keys_quiet m c S ks
unfolding is_quiet
nodes-quiet m c S b N Keys.NoKeys n h e s = refl
nodes-quiet m c S b N (Keys.MoreKeys (Key.Plain q) ks) n h e s = ap (λ z. not (is_risky S q) && z) (nodes-quiet m c S b N ks n h e s)
nodes-quiet m c S b N (Keys.MoreKeys (Key.Rollup all ps) ks) n h e s = absurd (true≢false (sym n))
nodes-quiet m c S b N (Keys.MoreKeys (Key.Recursive g p U) ks) n h e s =
    let f = chained (λ f. option_map (λ N. (N, f.key.name)) (inner_shape m c (set_shape f.type) (set_shape f.type) U)) (hierarchy_at m g) N e in
    let x = mapped (λ N. (N, ((f.0).key).name)) (inner_shape m c (set_shape (f.0).type) (set_shape (f.0).type) U) N f.2 in
    let sure : is_sure m x.0 b ≡ true = ap (λ z. is_sure m z.0 b) x.2 ∙ s in
    let same : is_some_and (calm (ended_inner U (Step.Filter b))) (hierarchy_at m g) ≡ is_some_and (calm U) (hierarchy_at m g) =
    ap (is_some_and (calm (ended_inner U (Step.Filter b)))) f.1
    ∙ quiet-ended_inner m c (set_shape (f.0).type) x.0 U b x.1 ∙ ap (λ z. inner_quiet m c (set_shape (f.0).type) U && z) sure ∙ and-true (inner_quiet m c (set_shape (f.0).type) U)
    ∙ sym (ap (is_some_and (calm U)) f.1) in
    λ i. (not (is_risky S p) && same i) && keys_quiet m c S (plain-ended (Step.Filter b) ks (no-more (rollup_parts ks) h) i)
  where
    calm : OptPipe → HierarchyPlace → Bool
    calm V f = inner_quiet m c (set_shape f.type) V

pub filter_nodes-keeps_quiet : KeepsQuietInPlace filter_nodes
unfolding steps_shape is_quiet
filter_nodes-keeps_quiet m c S S' before (Step.GroupBy ks T) ss ss' k law e got =
    let x = Step.GroupBy ks T in
    let S1 = chained (λ Z. steps_shape m c Z (pipe ss)) (step_shape m c S x) S' e in
    let D = into-nodes (bare m) c S S1.0 before ks T ss ss' S1.1 got in
    let name = ((D.place).key).name in
    taking-keeps_quiet m c S S1.0 S' (after m c S x) x ss ss' (node_test m c S ks T (D.chosen, name)) (λ b. Step.GroupBy (ended_keys (Step.Filter (on_node name b)) ks) T) S1.1 e D.taken (λ b t h.
    let p = node_test-parts m c S ks T (D.chosen, name) b t in
    let sure : is_sure m S1.0 b ≡ true = ap (λ o. is_sure m (unwrap_or o S) b) (sym S1.1) ∙ p.1 in (
      nodes-shape (bare m) c S S1.0 ks T D.grouping D.key D.place D.place_is D.chosen D.chosen_is b p.2,
      ap (λ z. z && inner_quiet m c S T) (nodes-quiet m c S (on_node name b) (D.chosen, name) ks D.one_nodes (D.grouping).one_part D.shape_is p.3)
          ∙ sym (and-true (step_quiet m c S x)) ∙ ap (λ z. step_quiet m c S x && z) (sym sure),
    ))
filter_nodes-keeps_quiet m c S S' before s ss ss' k law e got = none_or ss' got
