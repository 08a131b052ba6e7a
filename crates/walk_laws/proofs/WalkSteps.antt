-- What the rules by which a filter passes a grouping, a join or a walk over nodes make at their place is put as what was there.
use Rattle.std.proofs.Common.{◌≡◌, refl, sym, ◌∙◌, ap, subst, Bool, true, false, not, ◌&&◌, ◌||◌, List}
use Rattle.std.specs.Prelude.{unwrap_or}
use Rattle.std.specs.List.{list_any}
use Rattle.std.proofs.Math.Bool.{and-true}
use Rattle.std.proofs.lemmas.Bool.{and_parts, not-true}
use Rattle.edm_values.specs.Names.{Name}
use Rattle.edm_values.proofs.OptionFacts.{chained, if_else-parts, if_some, none_or}
use Rattle.edm_values.proofs.SearchFacts.{none-all}
use Rattle.edm_model.specs.Models.{Model}
use Rattle.apply_ast.specs.Trees.{Expr, OptPipe, Step, pipe}
use Rattle.context_typing.specs.Paths.{begins}
use Rattle.context_typing.specs.Shapes.{Shape}
use Rattle.context_typing.specs.Typing.{Customs, RollupPart, after, group_keys, is_nodes, is_risky, is_sure, rollup_part, step_shape, steps_shape}
use Rattle.context_typing.proofs.ShapeLemmas.{law-from}
use Rattle.rewrite_laws.specs.Rewrites.{grouping_quiet, is_among, is_levels, is_no_rollup, join_quiet, over, pass_grouping, pass_groups, pass_join, pass_nodes, pass_outer_join, pass_rollup, pass_traverse, passing, paths}
use Rattle.rewrite_laws.proofs.GroupingRules.{grouping-parts, key-kind, key-risk, row_keys}
use Rattle.rewrite_laws.proofs.JoinRules.{apart_from, join-kinds, join-risks}
use Rattle.rewrite_laws.proofs.QuietLemmas.{bare}
use Rattle.rewrite_laws.proofs.RelatedRule.{join-parts}
use Rattle.walk_laws.specs.Walks.{Rules, All, is_late}
use Rattle.walk_laws.proofs.SameOnShapes.{AreAlike, after-traverse, alike-by_paths, alike-same}
use Rattle.walk_laws.proofs.WalkPassing.{IsPlace, PutsSame, passing-put}

module _ (flat : Bool) (w : Rules) (m : Model) (c : Customs) where
  -- past a grouping of a kind that the walk has
  grouping-put : (kind : RollupPart → Bool) → ((p : RollupPart) → kind p ≡ true → (is_late w || not (is_nodes p)) ≡ true) → PutsSame true flat w m c (pass_grouping kind)
  unfolding steps_shape
  grouping-put kind allowed S before (Step.GroupBy ks T) ss ss' gs u e =
      let x = Step.GroupBy ks T in
      let test : Expr → Bool = λ b. over (row_keys ks) b && is_sure m (after m c S x) b in
      let t = if_else-parts (kind (rollup_part (group_keys ks)) && grouping_quiet m c S ks T) (passing m (after m c S x) test x ss) ss' e in
      let q = and_parts (kind (rollup_part (group_keys ks))) (grouping_quiet m c S ks T) t.0 in
      let S1 = chained (λ Z. steps_shape m c Z (pipe ss)) (step_shape m c S x) u.last u.typed in
      let g = grouping-parts m c S S1.0 ks T S1.1 in
      let at : after m c S x ≡ S1.0 = ap (λ o. unwrap_or o S) S1.1 in
      passing-put w m c S x test (record {
        put = λ gs. refl;
        lets = q.1;
        passes = λ b. ap (λ z. z && over (row_keys ks) b && is_sure m (after m c S x) b) (allowed (rollup_part (group_keys ks)) q.0);
        alike = λ b t. subst (λ Z. AreAlike m S Z b) (sym at) (alike-by_paths m S S1.0 (is_among (row_keys ks)) (key-kind (bare m) c S S1.0 ks T g) (key-risk (bare m) c S S1.0 ks T g) b (and_parts (over (row_keys ks) b) _ t).0);
      }) ss ss' true gs (u.unsplit refl) t.1
  grouping-put kind allowed S before s ss ss' gs u e = none_or ss' e

  late-or : (b : Bool) → (b || true) ≡ true
  late-or true = refl
  late-or false = refl

  pub groups-put : PutsSame true flat w m c pass_groups
  groups-put = grouping-put is_no_rollup allowed
    where
      allowed : (p : RollupPart) → is_no_rollup p ≡ true → (is_late w || not (is_nodes p)) ≡ true
      allowed RollupPart.NoRollup h = late-or (is_late w)
      allowed (RollupPart.Levels all ps) h = cc
      allowed (RollupPart.Nodes n p) h = cc

  pub rollup-put : PutsSame true flat w m c pass_rollup
  rollup-put = grouping-put is_levels allowed
    where
      allowed : (p : RollupPart) → is_levels p ≡ true → (is_late w || not (is_nodes p)) ≡ true
      allowed RollupPart.NoRollup h = cc
      allowed (RollupPart.Levels all ps) h = late-or (is_late w)
      allowed (RollupPart.Nodes n p) h = cc

module _ (flat : Bool) (m : Model) (c : Customs) where
  pub nodes-put : PutsSame true flat All m c pass_nodes
  nodes-put = grouping-put flat All m c is_nodes (λ p h. refl)

  -- a filter without a path under the alias is the same on both sides of a join
  join-alike : (S : Shape) (outer : Bool) (n a : Name) (T : OptPipe) (ss : List Step) (needs : Bool) → IsPlace needs flat m c S (Step.Join outer n a T) ss → (b : Expr) → not (list_any (begins a) (paths b)) ≡ true → AreAlike m S (after m c S (Step.Join outer n a T)) b
  unfolding steps_shape
  join-alike S outer n a T ss needs u b h =
      let S1 = chained (λ Z. steps_shape m c Z (pipe ss)) (step_shape m c S (Step.Join outer n a T)) u.last u.typed in
      let J = join-parts m c S S1.0 outer n a T S1.1 in
      let L = law-from m S u.lawful in
      subst (λ Z. AreAlike m S Z b) (sym (ap (λ o. unwrap_or o S) S1.1))
      (alike-by_paths m S S1.0 (apart_from a) (join-kinds (bare m) c S S1.0 outer n a T L J) (join-risks (bare m) c S S1.0 outer n a T L J) b (none-all (begins a) (paths b) (not-true _ h)))

  pub join-put : PutsSame true flat All m c pass_join
  join-put S before (Step.Join false n a T) ss ss' gs u e =
      let x = Step.Join false n a T in
      let test : Expr → Bool = λ b. not (list_any (begins a) (paths b)) && is_sure m (after m c S x) b in
      let t = if_else-parts (join_quiet m c S n T) (passing m (after m c S x) test x ss) ss' e in
      passing-put All m c S x test (record {
        put = λ gs. refl;
        lets = t.0;
        passes = λ b. refl;
        alike = λ b h. join-alike S false n a T ss true u b (and_parts (not (list_any (begins a) (paths b))) _ h).0;
      }) ss ss' true gs (u.unsplit refl) t.1
  join-put S before s ss ss' gs u e = none_or ss' e

  pub outer_join-put : PutsSame true flat All m c pass_outer_join
  outer_join-put S before (Step.Join true n a T) ss ss' gs u e =
      let x = Step.Join true n a T in
      let test : Expr → Bool = λ b. not (list_any (begins a) (paths b)) in
      let t = if_else-parts (join_quiet m c S n T) (passing m (after m c S x) test x ss) ss' e in
      passing-put All m c S x test (record {
        put = λ gs. refl;
        lets = t.0;
        passes = λ b. and-true (not (list_any (begins a) (paths b)));
        alike = λ b h. join-alike S true n a T ss true u b h;
      }) ss ss' true gs (u.unsplit refl) t.1
  outer_join-put S before s ss ss' gs u e = none_or ss' e

  pub traverse-put : PutsSame true flat All m c pass_traverse
  traverse-put S before (Step.Traverse v) ss ss' gs u e =
      let x = Step.Traverse v in
      let t = if_some (is_risky S v.path) (passing m S (is_sure m S) x ss) ss' e in
      let k = after-traverse m c S v in
      passing-put All m c S x (is_sure m S) (record {
        put = λ gs. refl;
        lets = ap not t.0;
        passes = λ b. ap (λ U. is_sure m U b) k;
        alike = λ b h. alike-same m S (after m c S x) b k;
      }) ss ss' true gs (u.unsplit refl) (ap (λ U. passing m U (is_sure m S) x ss) k ∙ t.1)
  traverse-put S before s ss ss' gs u e = none_or ss' e
