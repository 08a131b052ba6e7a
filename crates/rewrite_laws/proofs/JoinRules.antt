-- A filter with no path under the alias passes a join.
use Rattle.std.proofs.Common.{◌≡◌, refl, sym, ◌∙◌, ap, Bool, true, false, ◌&&◌, ◌||◌, not, List, [], ◌∷◌, ◌++◌, Option, Some, None, IsTrue, map, filter, inl, inr, if◌then◌else◌}
use Rattle.std.specs.Prelude.{option_and_then, option_map, is_some, flat_map, unwrap_or}
use Rattle.std.specs.Bool.{then_some}
use Rattle.std.specs.List.{list_all, list_any}
use Rattle.std.proofs.lemmas.List.{map-append}
use Rattle.std.proofs.lemmas.List.Folds.{list_any-append}
use Rattle.std.proofs.lemmas.Bool.{and_parts, or_parts, or_from, not-true, both_ways}
use Rattle.std.proofs.Math.Bool.{and-false}
use Rattle.edm_values.specs.Lists.{is_nonempty, is_some_and}
use Rattle.edm_values.specs.Literals.{is_boolean_kind}
use Rattle.edm_values.specs.Names.{Name, Path}
use Rattle.edm_values.specs.Values.{is_beyond, is_value}
use Rattle.edm_values.proofs.OptionFacts.{none_or, option_cases, chained, map-there}
use Rattle.edm_values.proofs.ListFacts.{all-any}
use Rattle.edm_values.proofs.SearchFacts.{none-all}
use Rattle.edm_values.proofs.SameTexts.{text-self}
use Rattle.edm_model.specs.Models.{Navigation}
use Rattle.edm_data.specs.Worlds.{World, Entity}
use Rattle.apply_ast.specs.Trees.{Expr, OptPipe, Step, pipe, is_long}
use Rattle.context_typing.specs.Paths.{begins, at_path}
use Rattle.context_typing.specs.Shapes.{Shape, set_shape}
use Rattle.context_typing.specs.Typing.{Customs, steps_shape, step_shape, after, has_kind, path_kind, widened, is_sure, is_risky, column_under, inner_quiet, customs_typed, is_lawful}
use Rattle.context_typing.proofs.PathLemmas.{longest-same}
use Rattle.context_typing.proofs.TableLemmas.{under-found}
use Rattle.context_typing.proofs.ShapeLemmas.{Law, law-from}
use Rattle.context_typing.proofs.ShapeSteps.{property-left}
use Rattle.context_typing.proofs.LawfulShapes.{own_is_lawful}
use Rattle.apply_meaning.specs.Instances.{Instance, val, lookup}
use Rattle.apply_meaning.specs.Meaning.{Outcome, mean, step_mean, inner_mean, values, joined, beneath, beside, beside_none, bound_to, related_rows}
use Rattle.rewrite_laws.specs.Rewrites.{paths, passing, join_quiet, pass_join, pass_outer_join}
use Rattle.rewrite_laws.specs.RewriteLaws.{KeepsMeaningInPlace, SameMeaning}
use Rattle.rewrite_laws.proofs.RuleLemmas.{Laws, passing-keeps_meaning, sure-none, has_kind-typed}
use Rattle.rewrite_laws.proofs.ExprPaths.{lookup-same, val-same, kind-same, sure-same}
use Rattle.rewrite_laws.proofs.ComputeFacts.{at-left}
use Rattle.rewrite_laws.proofs.JoinedResults.{joined-whole, filter-by, any-same, blocks-filter}
use Rattle.rewrite_laws.proofs.InnerLaws.{inner-runs}
use Rattle.rewrite_laws.proofs.RelatedRule.{IsJoin, join-parts}

abbrev pub apart_from : Name → Path → Bool
apart_from a p = not (begins a p)

-- places under a name do not show at paths that do not begin with it
hidden : {A : Type 0} (path : A → Path) (a : Name) (f : A → A) → ((x : A) → path (f x) ≡ a ∷ path x) → (xs : List A) (p : Path) → begins a p ≡ false → at_path path (map f xs) p ≡ None
hidden path a f is xs p b = elim (option_cases (at_path path (map f xs) p)) [
  | inl n ↦ n
  | inr y ↦ let u = under-found path a f is xs p y.0 y.1 in absurd (both_ways (begins a p) b (ap (begins a) u.2 ∙ text-self a))
]

begins-front : (a : Name) (q s p : Path) → q ++ s ≡ p → begins a p ≡ false → begins a q ≡ false
begins-front a [] s p e b = refl
begins-front a (n ∷ q) s p e b = ap (begins a) e ∙ b

lookup-beside : (w : World) (a : Name) (i r : Instance) (p : Path) → apart_from a p ≡ true → lookup w (beside a i r) p ≡ lookup w i p
lookup-beside w a i r p b =
    let n = not-true _ b in
    lookup-same w i (beside a i r) p (at-left (λ c. c.0) i.columns (map (beneath a) r.columns) p (hidden (λ c. c.0) a (beneath a) (λ c. refl) r.columns p n))
    (longest-same (at_path (λ x. x.0) (i.prefixes ++ map (beneath a) r.prefixes)) (at_path (λ x. x.0) i.prefixes) p
    (λ q s e. at-left (λ x. x.0) i.prefixes (map (beneath a) r.prefixes) q (hidden (λ x. x.0) a (beneath a) (λ x. refl) r.prefixes q (begins-front a q s p e n))))

lookup-beside_none : (w : World) (a : Name) (i : Instance) (p : Path) → apart_from a p ≡ true → lookup w (beside_none a i) p ≡ lookup w i p
lookup-beside_none w a i p b =
    lookup-same w i (beside_none a i) p refl (longest-same (at_path (λ x. x.0) (i.prefixes ++ (a ∷ [], None) ∷ [])) (at_path (λ x. x.0) i.prefixes) p
    (λ q s e. at-left (λ x. x.0) i.prefixes ((a ∷ [], None) ∷ []) q (hidden (λ (x : Path × Option Entity). x.0) a (beneath a) (λ x. refl) (([], None) ∷ []) q (begins-front a q s p e (not-true _ b)))))

-- what is bound to an instance has its values
bound-values : (w : World) (outer : Bool) (a : Name) (i : Instance) (rs : List Instance) (b : Expr) → list_all (apart_from a) (paths b) ≡ true → map (λ j. val w j b) (bound_to outer a i rs) ≡ map (λ j. val w i b) (bound_to outer a i rs)
bound-values w outer a i rs b h = go (outer && not (is_nonempty rs))
  where
    each : (rs : List Instance) → map (λ j. val w j b) (map (beside a i) rs) ≡ map (λ j. val w i b) (map (beside a i) rs)
    each [] = refl
    each (r ∷ rs) = λ k. val-same w i (beside a i r) (apart_from a) (lookup-beside w a i r) b h k ∷ each rs k

    go : (z : Bool) → map (λ j. val w j b) (if z then beside_none a i ∷ [] else map (beside a i) rs) ≡ map (λ j. val w i b) (if z then beside_none a i ∷ [] else map (beside a i) rs)
    go true = λ k. val-same w i (beside_none a i) (apart_from a) (lookup-beside_none w a i) b h k ∷ []
    go false = each rs

-- ---- a typed join

module _ (w : World) (c : Customs) (S S1 : Shape) (outer : Bool) (n a : Name) (T : OptPipe) (LS : Law w.model S) (J : IsJoin w.model c S outer n a T S1) where
  pub join-kinds : (p : Path) → apart_from a p ≡ true → path_kind w.model S1 p ≡ path_kind w.model S p
  join-kinds p b =
      sym (ap (λ Z. path_kind w.model Z p) J.shape_is)
      ∙ (λ i. elim (at-left (λ x. x.path) S.columns (map (column_under outer a) (J.inner).columns) p (hidden (λ x. x.path) a (column_under outer a) (λ x. refl) (J.inner).columns p (not-true _ b)) i)
      [ Some c ↦ Some c.kind | None ↦ option_map (λ x. widened x.kind) (property-left w.model outer a S J.inner LS J.inner_law J.free J.root J.root_is p (not-true _ b) i) ])

  pub join-risks : (p : Path) → apart_from a p ≡ true → is_risky S1 p ≡ is_risky S p
  join-risks p b = sym (ap (λ Z. is_risky Z p) J.shape_is) ∙ ap (is_some_and (λ c. c.risky)) (at-left (λ x. x.path) S.columns (map (column_under outer a) (J.inner).columns) p (hidden (λ x. x.path) a (column_under outer a) (λ x. refl) (J.inner).columns p (not-true _ b)))

  -- a join whose pipeline is quiet is a list of blocks
  module _ (A : World → Type 0) (L : Laws A) (u : A w) (k : IsTrue (customs_typed w.model c)) (quiet : join_quiet w.model c S n T ≡ true) where
    abbrev one : Instance → Outcome
    one i = option_map (bound_to outer a i) (inner_mean w c (set_shape (J.via).target) (λ r. Some r) T (related_rows w J.via i))

    abbrev block : Instance → List Instance
    block i = unwrap_or (one i) []

    one-there : (i : Instance) → is_some (one i) ≡ true
    one-there i =
        let own = set_shape (J.via).target in
        let quiet' = ap (is_some_and (λ v. inner_quiet w.model c (set_shape v.target) T)) (sym J.via_is) ∙ quiet in
        map-there (bound_to outer a i) (inner_mean w c own (λ r. Some r) T (related_rows w J.via i))
        (inner-runs A L w c u k own own J.inner T (own_is_lawful w.model (J.via).target) J.inner_is quiet' (λ r. Some r) (λ r. refl) (related_rows w J.via i) (L.related w S n J.via i u J.via_is))

    join-blocks : (l : List Instance) → step_mean w c S (Step.Join outer n a T) l ≡ Some (flat_map block l)
    unfolding mean
    join-blocks l = ap run J.via_is ∙ joined-whole one l (all-any (λ i. is_some (one i)) l one-there)
      where
        run : Option Navigation → Outcome
        run o = elim o [
          | None ↦ None
          | Some v ↦ joined (map (λ i. option_map (bound_to outer a i) (inner_mean w c (set_shape v.target) (λ r. Some r) T (related_rows w v i))) l)
        ]

    block-values : (i : Instance) (b : Expr) → list_all (apart_from a) (paths b) ≡ true → map (λ j. val w j b) (block i) ≡ map (λ j. val w i b) (block i)
    block-values i b h = go (inner_mean w c (set_shape (J.via).target) (λ r. Some r) T (related_rows w J.via i))
      where
        go : (o : Outcome) → map (λ j. val w j b) (unwrap_or (option_map (bound_to outer a i) o) []) ≡ map (λ j. val w i b) (unwrap_or (option_map (bound_to outer a i) o) [])
        go None = refl
        go (Some rs) = bound-values w outer a i rs b h

    blocks-kept : (b : Expr) → list_all (apart_from a) (paths b) ≡ true → (l : List Instance) → filter (λ j. is_value true (val w j b)) (flat_map block l) ≡ flat_map block (filter (λ i. is_value true (val w i b)) l)
    blocks-kept b h l = blocks-filter (λ j. is_value true (val w j b)) block (λ i. is_value true (val w i b)) (λ i. filter-by (λ j. val w j b) (val w i b) (block i) (block-values i b h)) l

    any-block : (i : Instance) (b : Expr) → list_all (apart_from a) (paths b) ≡ true → list_any is_beyond (map (λ j. val w j b) (block i)) ≡ (is_nonempty (block i) && is_beyond (val w i b))
    any-block i b h = ap (list_any is_beyond) (block-values i b h) ∙ any-map (block i) ∙ any-same (is_beyond (val w i b)) (block i)
      where
        any-map : (xs : List Instance) → list_any is_beyond (map (λ j. val w i b) xs) ≡ list_any (λ j. is_beyond (val w i b)) xs
        any-map [] = refl
        any-map (x ∷ xs) = ap (λ z. is_beyond (val w i b) || z) (any-map xs)

    -- a filter that is Beyond on the blocks exactly where it is on the instances commutes with the join
    join-commutes : (b : Expr) → list_all (apart_from a) (paths b) ≡ true → (l : List Instance) → list_any is_beyond (values w b (flat_map block l)) ≡ list_any is_beyond (values w b l)
        → option_and_then (step_mean w c S (Step.Filter b)) (step_mean w c S (Step.Join outer n a T) l) ≡ option_and_then (step_mean w c S (Step.Join outer n a T)) (step_mean w c S (Step.Filter b) l)
    unfolding mean
    join-commutes b h l any =
        ap (option_and_then (step_mean w c S (Step.Filter b))) (join-blocks l)
        ∙ (λ i. then_some (not (any i)) (blocks-kept b h l i))
        ∙ go (not (list_any is_beyond (values w b l)))
      where
        go : (z : Bool) → then_some z (flat_map block (filter (λ i. is_value true (val w i b)) l)) ≡ option_and_then (step_mean w c S (Step.Join outer n a T)) (then_some z (filter (λ i. is_value true (val w i b)) l))
        go true = sym (join-blocks (filter (λ i. is_value true (val w i b)) l))
        go false = refl

    any-blocks : (b : Expr) (l : List Instance) → ((i : Instance) → list_any is_beyond (map (λ j. val w j b) (block i)) ≡ is_beyond (val w i b)) → list_any is_beyond (values w b (flat_map block l)) ≡ list_any is_beyond (values w b l)
    any-blocks b [] h = refl
    any-blocks b (i ∷ l) h =
        ap (list_any is_beyond) (map-append (λ j. val w j b) (block i) (flat_map block l)) ∙ list_any-append is_beyond (map (λ j. val w j b) (block i)) (map (λ j. val w j b) (flat_map block l))
        ∙ (λ k. h i k || any-blocks b l h k)

    none-blocks : (b : Expr) → list_all (apart_from a) (paths b) ≡ true → (l : List Instance) → list_any is_beyond (values w b l) ≡ false → list_any is_beyond (values w b (flat_map block l)) ≡ false
    none-blocks b h [] f = refl
    none-blocks b h (i ∷ l) f =
        let t = or_parts (is_beyond (val w i b)) _ f in
        ap (list_any is_beyond) (map-append (λ j. val w j b) (block i) (flat_map block l)) ∙ list_any-append is_beyond (map (λ j. val w j b) (block i)) (map (λ j. val w j b) (flat_map block l))
        ∙ or_from _ _ (any-block i b h ∙ ap (λ z. is_nonempty (block i) && z) t.0 ∙ and-false (is_nonempty (block i))) (none-blocks b h l t.1)

-- ---- the rules

-- a filter that is typed behind a join, and has no path under the alias
module _ (A : World → Type 0) (L : Laws A) (w : World) (c : Customs) (k : IsTrue (customs_typed w.model c)) (S S1 : Shape) (law : IsTrue (is_lawful w.model S)) (outer : Bool) (n a : Name) (T : OptPipe) (J : IsJoin w.model c S outer n a T S1)
    (b : Expr) (all : list_all (apart_from a) (paths b) ≡ true) (h : has_kind is_boolean_kind w.model S1 b ≡ true) where
  before-kind : has_kind is_boolean_kind w.model S b ≡ true
  before-kind = ap (is_some_and is_boolean_kind) (sym (kind-same w.model S S1 (apart_from a) (join-kinds w c S S1 outer n a T (law-from w.model S law) J) b all)) ∙ h

  before-sure : is_sure w.model S1 b ≡ true → is_sure w.model S b ≡ true
  before-sure s = sym (sure-same w.model S S1 (apart_from a) (join-kinds w c S S1 outer n a T (law-from w.model S law) J) (join-risks w c S S1 outer n a T (law-from w.model S law) J) b all) ∙ s

abbrev Found : (World → Type 0) → World → Customs → Shape → Bool → Step → List Step → List Step → (Expr → Bool) → Bool → Type 0
Found A w c S before x ss ss' test z = (if z then passing w.model (after w.model c S x) test x ss else None) ≡ Some ss' → IsTrue (before || is_long (pipe ss')) × SameMeaning A w c S (pipe (x ∷ ss)) (pipe ss')

-- past a join
pub pass_join-keeps_meaning : (A : World → Type 0) → Laws A → KeepsMeaningInPlace A pass_join
unfolding steps_shape
pass_join-keeps_meaning A L w c S S' before (Step.Join false n a T) ss ss' k law e got = choose (join_quiet w.model c S n T) refl got
  where
    choose : (z : Bool) → join_quiet w.model c S n T ≡ z → Found A w c S before (Step.Join false n a T) ss ss' (λ b. not (list_any (begins a) (paths b)) && is_sure w.model (after w.model c S (Step.Join false n a T)) b) z
    choose false q z = none_or ss' z
    choose true q z =
        let S1 = chained (λ T. steps_shape w.model c T (pipe ss)) (step_shape w.model c S (Step.Join false n a T)) S' e in
        let at = ap (λ o. unwrap_or o S) S1.1 in
        let J = join-parts w.model c S S1.0 false n a T S1.1 in
        passing-keeps_meaning A L w c k S S1.0 S' law (Step.Join false n a T) S1.1 (after w.model c S (Step.Join false n a T)) before ss ss'
        (λ b. not (list_any (begins a) (paths b)) && is_sure w.model (after w.model c S (Step.Join false n a T)) b) at e z (λ b t h.
        let p = and_parts (not (list_any (begins a) (paths b))) _ t in
        let all = none-all (begins a) (paths b) (not-true _ p.0) in
        let typed = before-kind A L w c k S S1.0 law false n a T J b all h in
        let sure = before-sure A L w c k S S1.0 law false n a T J b all h (ap (λ Z. is_sure w.model Z b) (sym at) ∙ p.1) in (
          typed,
          λ u l f.
              let none = sure-none A L w c u S b l (has_kind-typed w.model S b typed) sure f in
              join-commutes w c S S1.0 false n a T (law-from w.model S law) J A L u k q b all l (none-blocks w c S S1.0 false n a T (law-from w.model S law) J A L u k q b all l none ∙ sym none),
        ))
pass_join-keeps_meaning A L w c S S' before s ss ss' k law e got = none_or ss' got

-- what is bound in an outer join is never empty
bound-nonempty : (a : Name) (i : Instance) (rs : List Instance) → is_nonempty (bound_to true a i rs) ≡ true
bound-nonempty a i [] = refl
bound-nonempty a i (r ∷ rs) = refl

-- past an outer join
pub pass_outer_join-keeps_meaning : (A : World → Type 0) → Laws A → KeepsMeaningInPlace A pass_outer_join
unfolding steps_shape
pass_outer_join-keeps_meaning A L w c S S' before (Step.Join true n a T) ss ss' k law e got = choose (join_quiet w.model c S n T) refl got
  where
    choose : (z : Bool) → join_quiet w.model c S n T ≡ z → Found A w c S before (Step.Join true n a T) ss ss' (λ b. not (list_any (begins a) (paths b))) z
    choose false q z = none_or ss' z
    choose true q z =
        let S1 = chained (λ T. steps_shape w.model c T (pipe ss)) (step_shape w.model c S (Step.Join true n a T)) S' e in
        let at = ap (λ o. unwrap_or o S) S1.1 in
        let J = join-parts w.model c S S1.0 true n a T S1.1 in
        let LS = law-from w.model S law in
        passing-keeps_meaning A L w c k S S1.0 S' law (Step.Join true n a T) S1.1 (after w.model c S (Step.Join true n a T)) before ss ss' (λ b. not (list_any (begins a) (paths b))) at e z (λ b t h.
        let all = none-all (begins a) (paths b) (not-true _ t) in (
          before-kind A L w c k S S1.0 law true n a T J b all h,
          λ u l f. join-commutes w c S S1.0 true n a T LS J A L u k q b all l
              (any-blocks w c S S1.0 true n a T LS J A L u k q b l (λ i.
              any-block w c S S1.0 true n a T LS J A L u k q i b all
              ∙ ap (λ z. z && is_beyond (val w i b)) (nonempty (inner_mean w c (set_shape (J.via).target) (λ r. Some r) T (related_rows w J.via i)) i (one-there w c S S1.0 true n a T LS J A L u k q i)))),
        ))
      where
        nonempty : (o : Outcome) (i : Instance) → is_some (option_map (bound_to true a i) o) ≡ true → is_nonempty (unwrap_or (option_map (bound_to true a i) o) []) ≡ true
        nonempty None i h = cc
        nonempty (Some rs) i h = bound-nonempty a i rs
pass_outer_join-keeps_meaning A L w c S S' before s ss ss' k law e got = none_or ss' got
