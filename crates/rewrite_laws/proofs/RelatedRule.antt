-- A filter on what is related goes into the join.
use Rattle.std.proofs.Common.{◌≡◌, refl, sym, ◌∙◌, ap, subst, Bool, true, false, ◌&&◌, not, List, [], ◌∷◌, map, filter, drop, Option, Some, None, Contains}
use Rattle.std.specs.Prelude.{option_and_then, option_map, unwrap_or}
use Rattle.std.specs.Bool.{then_some}
use Rattle.std.specs.List.{list_all, list_any}
use Rattle.std.proofs.lemmas.Bool.{and_parts, true≢false}
use Rattle.edm_values.specs.Lists.{is_nonempty, is_some_and}
use Rattle.edm_values.specs.Literals.{is_boolean_kind}
use Rattle.edm_values.specs.Names.{Name, Path}
use Rattle.edm_values.specs.Values.{is_beyond, is_value}
use Rattle.edm_values.proofs.EachLemmas.{map-agree_all}
use Rattle.edm_values.proofs.OptionFacts.{none_or, chained, then_some-parts}
use Rattle.edm_values.proofs.SameTexts.{same_texts}
use Rattle.edm_model.specs.Models.{Navigation, Model}
use Rattle.edm_data.specs.Worlds.{World}
use Rattle.apply_ast.specs.Trees.{Expr, OptPipe, Step, pipe}
use Rattle.context_typing.specs.Paths.{begins}
use Rattle.context_typing.specs.Shapes.{RootShape, Shape, set_shape}
use Rattle.context_typing.specs.Typing.{Customs, steps_shape, step_shape, inner_shape, has_kind, path_kind, is_free, is_risky, is_sure, joined_shape, join_navigation, after}
use Rattle.context_typing.proofs.ShapeLemmas.{Law, law-from}
use Rattle.context_typing.proofs.TypingLaw.{navigation-root, inner_law, law-own, root-same}
use Rattle.apply_meaning.specs.Instances.{Instance, val, fits, lookup}
use Rattle.apply_meaning.specs.Meaning.{Outcome, mean, step_mean, inner_mean, values, joined, beside, bound_to, related_rows}
use Rattle.apply_meaning.specs.MeaningLaws.{AllFit}
use Rattle.apply_meaning.proofs.FitLemmas.{Fit, fit-parts}
use Rattle.rewrite_laws.specs.Rewrites.{paths, with_paths, ended_inner, filter_related}
use Rattle.rewrite_laws.specs.RewriteLaws.{KeepsMeaningInPlace}
use Rattle.rewrite_laws.proofs.RuleLemmas.{Laws, taking-keeps_meaning}
use Rattle.rewrite_laws.proofs.ExprPaths.{val-moved, kind-moved, sure-moved}
use Rattle.rewrite_laws.proofs.RelatedLookups.{kind-behind, lookup-behind, risk-behind}
use Rattle.rewrite_laws.proofs.EndedPipes.{ended_inner-hierarchies, ended_inner-shape, ended_inner-mean}
use Rattle.rewrite_laws.proofs.JoinedResults.{map-mapped, filter-mapped, filter-joined}

-- ---- a typed join

-- what a join that is typed has: its navigation, the shape of what is related, and a free alias
pub record IsJoin (m : Model) (c : Customs) (S : Shape) (outer : Bool) (n a : Name) (T : OptPipe) (S1 : Shape) : Type 0 where
  pub via : Navigation
  pub via_is : join_navigation m S n ≡ Some via
  pub inner : Shape
  pub inner_is : inner_shape m c (set_shape via.target) (set_shape via.target) T ≡ Some inner
  pub free : is_free m S a ≡ true
  pub shape_is : joined_shape outer a S inner ≡ S1
  pub root : RootShape
  pub root_is : S.root ≡ Some root
  pub inner_law : Law m inner

pub join-parts : (m : Model) (c : Customs) (S S1 : Shape) (outer : Bool) (n a : Name) (T : OptPipe) → step_shape m c S (Step.Join outer n a T) ≡ Some S1 → IsJoin m c S outer n a T S1
unfolding steps_shape
join-parts m c S S1 outer n a T e =
    let v = chained (λ v. option_and_then (λ R. then_some (is_free m S a) (joined_shape outer a S R)) (inner_shape m c (set_shape v.target) (set_shape v.target) T)) (join_navigation m S n) S1 e in
    let R = chained (λ R. then_some (is_free m S a) (joined_shape outer a S R)) (inner_shape m c (set_shape (v.0).target) (set_shape (v.0).target) T) S1 v.2 in
    let u = then_some-parts (is_free m S a) (joined_shape outer a S R.0) S1 R.2 in
    let r = navigation-root m S n v.0 v.1 in
    let own = set_shape (v.0).target in
    record {
      via = v.0;
      via_is = v.1;
      inner = R.0;
      inner_is = R.1;
      free = u.0;
      shape_is = u.1;
      root = r.0;
      root_is = r.1;
      inner_law = (inner_law m c T own own R.0 (law-own m (v.0).target) (law-own m (v.0).target, root-same own own refl) R.1).0;
    }

-- ---- the filter inside

module _ (w : World) (c : Customs) (S S1 : Shape) (n a : Name) (T : OptPipe) (LS : Law w.model S) (J : IsJoin w.model c S false n a T S1) (b : Expr) (under : list_all (begins a) (paths b) ≡ true) where
  -- the filter without the alias
  abbrev inside : Expr
  inside = with_paths (drop 1) b

  inside-path : (p : Path) → begins a p ≡ true → path_kind w.model J.inner (drop 1 p) ≡ path_kind w.model S1 p
  inside-path [] h = absurd (true≢false (sym h))
  inside-path (n' ∷ q) h = sym (kind-behind w.model false a S J.inner LS J.inner_law J.free J.root J.root_is q) ∙ (λ k. path_kind w.model (J.shape_is k) (same_texts a n' h k ∷ q))

  inside-risk : (p : Path) → begins a p ≡ true → is_risky J.inner (drop 1 p) ≡ is_risky S1 p
  inside-risk [] h = absurd (true≢false (sym h))
  inside-risk (n' ∷ q) h = sym (risk-behind w.model false a S J.inner LS J.inner_law J.free J.root J.root_is q) ∙ (λ k. is_risky (J.shape_is k) (same_texts a n' h k ∷ q))

  inside-kind : has_kind is_boolean_kind w.model S1 b ≡ true → has_kind is_boolean_kind w.model J.inner (with_paths (drop 1) b) ≡ true
  inside-kind h = ap (is_some_and is_boolean_kind) (kind-moved w.model S1 J.inner (drop 1) (begins a) inside-path b under) ∙ h

  pub inside-sure : is_sure w.model J.inner (with_paths (drop 1) b) ≡ is_sure w.model S1 b
  inside-sure = sure-moved w.model S1 J.inner (drop 1) (begins a) inside-path inside-risk b under

  -- the join with the filter inside has the shape of the join
  pub inside-shape : has_kind is_boolean_kind w.model S1 b ≡ true → step_shape w.model c S (Step.Join false n a (ended_inner T (Step.Filter (with_paths (drop 1) b)))) ≡ Some S1
  unfolding steps_shape
  inside-shape h =
      (λ i. option_and_then (λ v. option_and_then (λ R. then_some (is_free w.model S a) (joined_shape false a S R)) (inner_shape w.model c (set_shape v.target) (set_shape v.target) (ended_inner T (Step.Filter (with_paths (drop 1) b))))) (J.via_is i))
      ∙ ap (option_and_then (λ R. then_some (is_free w.model S a) (joined_shape false a S R))) (ended_inner-shape w.model c (set_shape (J.via).target) J.inner T (with_paths (drop 1) b) J.inner_is (inside-kind h))
      ∙ ap (λ z. then_some z (joined_shape false a S J.inner)) J.free ∙ ap (λ Z. Some Z) J.shape_is

  inside-value : (i j : Instance) → Fit w S i → val w j (with_paths (drop 1) b) ≡ val w (beside a i j) b
  inside-value i j F = val-moved w (beside a i j) j (drop 1) (begins a) same b under
    where
      same : (p : Path) → begins a p ≡ true → lookup w j (drop 1 p) ≡ lookup w (beside a i j) p
      same [] h = absurd (true≢false (sym h))
      same (n' ∷ q) h = sym (lookup-behind w a S LS J.free J.root J.root_is i j F q) ∙ (λ k. lookup w (beside a i j) (same_texts a n' h k ∷ q))

  -- the filter inside, and then the instances beside, or the other way round
  inside-one : (i : Instance) → Fit w S i → (o : Outcome) → option_map (map (beside a i)) (option_and_then (step_mean w c J.inner (Step.Filter (with_paths (drop 1) b))) o) ≡ option_and_then (step_mean w c S1 (Step.Filter b)) (option_map (map (beside a i)) o)
  unfolding mean
  inside-one i F None = refl
  inside-one i F (Some rs) =
      push (not (list_any is_beyond (values w (with_paths (drop 1) b) rs))) (filter (λ j. is_value true (val w j (with_paths (drop 1) b))) rs)
      ∙ sym (λ k. then_some (not (list_any is_beyond (map-mapped (beside a i) (λ j. val w j b) (λ j. val w j (with_paths (drop 1) b)) (λ j. sym (inside-value i j F)) rs k)))
      (filter-mapped (beside a i) (λ j. is_value true (val w j b)) (λ j. is_value true (val w j (with_paths (drop 1) b))) (λ j. ap (is_value true) (sym (inside-value i j F))) rs k))
    where
      push : (z : Bool) (r : List Instance) → option_map (map (beside a i)) (then_some z r) ≡ then_some z (map (beside a i) r)
      push true r = refl
      push false r = refl

  inside-mean : (l : List Instance) → AllFit w S l → step_mean w c S (Step.Join false n a (ended_inner T (Step.Filter (with_paths (drop 1) b)))) l ≡ option_and_then (step_mean w c S1 (Step.Filter b)) (step_mean w c S (Step.Join false n a T) l)
  unfolding mean
  inside-mean l f =
      ap (run (ended_inner T (Step.Filter (with_paths (drop 1) b)))) J.via_is
      ∙ ap joined (
      map-agree_all (fits w S) (λ i. option_map (bound_to false a i) (inner (ended_inner T (Step.Filter (with_paths (drop 1) b))) i)) (λ i. option_and_then (step_mean w c S1 (Step.Filter b)) (option_map (bound_to false a i) (inner T i))) l f
      (λ i g. ap (option_map (bound_to false a i)) (ended_inner-mean w c own J.inner T (with_paths (drop 1) b) (related_rows w J.via i) J.inner_is) ∙ inside-one i (fit-parts w S i g) (inner T i))
      ∙ sym (map-mapped (λ i. option_map (bound_to false a i) (inner T i)) (option_and_then (step_mean w c S1 (Step.Filter b))) (λ i. option_and_then (step_mean w c S1 (Step.Filter b)) (option_map (bound_to false a i) (inner T i))) (λ i. refl) l))
      ∙ sym (filter-joined w c S1 b (map (λ i. option_map (bound_to false a i) (inner T i)) l))
      ∙ sym (ap (λ o. option_and_then (step_mean w c S1 (Step.Filter b)) (run T o)) J.via_is)
    where
      own : Shape
      own = set_shape (J.via).target

      inner : OptPipe → Instance → Outcome
      inner U i = inner_mean w c (set_shape (J.via).target) (λ r. Some r) U (related_rows w J.via i)

      run : OptPipe → Option Navigation → Outcome
      run U o = elim o [
        | None ↦ None
        | Some v ↦ joined (map (λ i. option_map (bound_to false a i) (inner_mean w c (set_shape v.target) (λ r. Some r) U (related_rows w v i))) l)
      ]

-- the rule
pub filter_related-keeps_meaning : (A : World → Type 0) → Laws A → KeepsMeaningInPlace A filter_related
unfolding steps_shape
filter_related-keeps_meaning A L w c S S' before (Step.Join false n a T) ss ss' k law e got =
    let S1 = chained (λ Z. steps_shape w.model c Z (pipe ss)) (step_shape w.model c S (Step.Join false n a T)) S' e in
    let J = join-parts w.model c S S1.0 false n a T S1.1 in
    let LS = law-from w.model S law in
    taking-keeps_meaning A L w c k S S1.0 S' law (Step.Join false n a T) S1.1 (after w.model c S (Step.Join false n a T)) before ss ss' (λ b. is_nonempty (paths b) && list_all (begins a) (paths b))
    (λ b. Step.Join false n a (ended_inner T (Step.Filter (with_paths (drop 1) b)))) (ap (λ o. unwrap_or o S) S1.1) e got
    (λ b h z. subst (λ hs. Contains hs h) (ended_inner-hierarchies T (with_paths (drop 1) b)) z)
    (λ b t h.
    let under = (and_parts (is_nonempty (paths b)) _ t).1 in (inside-shape w c S S1.0 n a T LS J b under h, λ u l f. inside-mean w c S S1.0 n a T LS J b under l f))
filter_related-keeps_meaning A L w c S S' before s ss ss' k law e got = none_or ss' got
