-- A filter that passes a step, or that a step takes in: runs of filters, sure filters that commute, and the laws of both families of rules.
use Rattle.std.proofs.Common.{◌≡◌, refl, sym, ◌∙◌, ap, subst, Bool, true, false, ◌&&◌, ◌||◌, not, List, [], ◌∷◌, ◌++◌, Option, Some, None, IsTrue, map, filter, cond, inl, inr, Contains}
use Rattle.std.specs.Prelude.{option_and_then, option_map, is_some, find, unwrap_or}
use Rattle.std.specs.Bool.{then_some}
use Rattle.std.specs.List.{list_all, list_any}
use Rattle.std.proofs.lemmas.List.Elements.{Contains-append_left, Contains-append_right, Contains-append_cases}
use Rattle.std.proofs.lemmas.Bool.{and_parts, and_from, or_right}
use Rattle.edm_values.specs.Lists.{is_nonempty, is_some_and}
use Rattle.edm_values.specs.Literals.{is_boolean_kind}
use Rattle.edm_values.specs.Values.{is_beyond, is_value}
use Rattle.edm_values.specs.declared.EdmType.{EdmType}
use Rattle.edm_values.proofs.EachLemmas.{Each}
use Rattle.edm_values.proofs.ListFacts.{none-map, all-filter}
use Rattle.edm_values.proofs.OptionFacts.{mapped, chained, then_some-parts}
use Rattle.edm_values.proofs.SearchFacts.{found-passes}
use Rattle.edm_values.proofs.Reorderings.{filter-swapped}
use Rattle.edm_model.specs.Models.{Model}
use Rattle.edm_model.specs.LookUps.{HierarchyPlace, property_named, key_at}
use Rattle.edm_data.specs.Worlds.{World}
use Rattle.apply_ast.specs.Trees.{HierName, Expr, Pipe, Step, pipe, is_long}
use Rattle.context_typing.specs.Shapes.{Shape}
use Rattle.context_typing.specs.Typing.{Customs, hierarchy_at, steps_shape, step_shape, after, has_kind, expr_kind, is_typed, is_sure, is_lawful, customs_typed}
use Rattle.context_typing.specs.TypingLaws.{TypingKeepsLawful}
use Rattle.apply_meaning.specs.Instances.{Instance, val, fits}
use Rattle.apply_meaning.specs.Meaning.{mean, step_mean, values}
use Rattle.apply_meaning.specs.MeaningLaws.{AllFit, MeanFits, SureIsNotBeyond, QuietIsNotRefused, NodesFit, RelatedFit}
use Rattle.apply_ast.specs.NamedHierarchies.{hierarchies, step_hierarchies}
use Rattle.rewrite_laws.specs.Rewrites.{FilterRun, runs, movable, behind, passing}
use Rattle.rewrite_laws.specs.RewriteLaws.{SameMeaning}
use Rattle.rewrite_laws.proofs.FilterRuns.{IsRunOf, runs-each, found-each, chains_agree}

-- the key of a hierarchy's nodes is found by its name
abbrev pub KeysNamed : (World → Type 0) → Type 0
KeysNamed A = (w : World) (h : HierName) (f : HierarchyPlace) → A w → hierarchy_at w.model h ≡ Some f → property_named w.model f.type (f.key).name ≡ Some (key_at w.model f.set, f.key)

-- what the rules stand on: the laws of typing and of the meaning, in accepted worlds
pub record Laws (A : World → Type 0) : Type 0 where
  pub typing : TypingKeepsLawful (λ m. Unit {0})
  pub fitting : MeanFits A
  pub nodes : NodesFit A
  pub related : RelatedFit A
  pub sure : SureIsNotBeyond A
  pub quiet : QuietIsNotRefused A
  pub keys : KeysNamed A

-- ---- chains of options

pub chain-assoc : {X Y Z : Type 0} (g : Y → Option Z) (f : X → Option Y) (o : Option X) → option_and_then (λ x. option_and_then g (f x)) o ≡ option_and_then g (option_and_then f o)
chain-assoc g f None = refl
chain-assoc g f (Some x) = refl

-- ---- runs of filters

-- filters in a row before other steps
abbrev pub filters : List Expr → Pipe → Pipe
filters [] p = p
filters (e ∷ es) p = Pipe.Then (Step.Filter e) (filters es p)

pub pipe-filters : (es : List Expr) (ss : List Step) → pipe (map Step.Filter es ++ ss) ≡ filters es (pipe ss)
pipe-filters [] ss = refl
pipe-filters (e ∷ es) ss = ap (Pipe.Then (Step.Filter e)) (pipe-filters es ss)

-- the filters between may be passed: there are none, or all are sure, and the last one too
abbrev pub MayPass : Model → Shape → List Expr → Expr → Type 0
MayPass m S es b = (not (is_nonempty es) || (list_all (is_sure m S) es && is_sure m S b)) ≡ true

-- a run of the steps whose last filter may pass those between, and passes a test
pub record IsMovable (m : Model) (S : Shape) (test : Expr → Bool) (ss : List Step) (r : FilterRun) : Type 0 where
  pub whole : IsRunOf ss r
  pub tested : test r.last ≡ true
  pub passes : MayPass m S r.between r.last

each-passed : {X : Type 0} (P : X → Type 0) (t : X → Bool) (xs : List X) → Each P xs → Each (λ x. P x × (t x ≡ true)) (filter t xs)
each-passed P t [] a = tt
each-passed P t (x ∷ xs) a = go (t x) refl (each-passed P t xs a.1)
  where
    go : (b : Bool) → t x ≡ b → Each (λ x. P x × (t x ≡ true)) (filter t xs) → Each (λ x. P x × (t x ≡ true)) (cond b (x ∷ filter t xs) (filter t xs))
    go true h e = ((a.0, h), e)
    go false h e = e

-- the nearest run whose last filter passes the test
pub movable-found : (m : Model) (S : Shape) (test : Expr → Bool) (ss : List Step) (r : FilterRun) → find (λ r. test r.last) (movable m S ss) ≡ Some r → IsMovable m S test ss r
movable-found m S test ss r e =
    let t : FilterRun → Bool = λ r. not (is_nonempty r.between) || (list_all (is_sure m S) r.between && is_sure m S r.last) in
    let f = found-each (λ r. IsRunOf ss r × (t r ≡ true)) (λ r. test r.last) (movable m S ss) r (each-passed (IsRunOf ss) t (runs ss) (runs-each ss)) e in
    record { whole = f.0; tested = found-passes (λ r. test r.last) (movable m S ss) r e; passes = f.1 }

-- ---- typing behind filters

-- a filter leaves the shape
pub after-filter : (m : Model) (c : Customs) (S : Shape) (e : Expr) → after m c S (Step.Filter e) ≡ S
unfolding steps_shape
after-filter m c S e = go (has_kind is_boolean_kind m S e)
  where
    go : (b : Bool) → unwrap_or (then_some b S) S ≡ S
    go true = refl
    go false = refl

pub filters-typed : (m : Model) (c : Customs) (S S' : Shape) (es : List Expr) (p : Pipe) → steps_shape m c S (filters es p) ≡ Some S' → (list_all (has_kind is_boolean_kind m S) es ≡ true) × (steps_shape m c S p ≡ Some S')
unfolding steps_shape
filters-typed m c S S' [] p e = (refl, e)
filters-typed m c S S' (f ∷ es) p e =
    let t = chained (λ T. steps_shape m c T (filters es p)) (step_shape m c S (Step.Filter f)) S' e in
    let u = then_some-parts (has_kind is_boolean_kind m S f) S t.0 t.1 in
    let r = filters-typed m c S S' es p (ap (λ T. steps_shape m c T (filters es p)) u.1 ∙ t.2) in
    (and_from _ _ u.0 r.0, r.1)

pub typed-filters : (m : Model) (c : Customs) (S : Shape) (es : List Expr) (p : Pipe) → list_all (has_kind is_boolean_kind m S) es ≡ true → steps_shape m c S (filters es p) ≡ steps_shape m c S p
unfolding steps_shape
typed-filters m c S [] p h = refl
typed-filters m c S (f ∷ es) p h =
    let t = and_parts (has_kind is_boolean_kind m S f) _ h in
    ap (λ b. option_and_then (λ T. steps_shape m c T (filters es p)) (then_some b S)) t.0 ∙ typed-filters m c S es p t.1

-- filters name no hierarchy
pub filters-hierarchies : (es : List Expr) (p : Pipe) → hierarchies (filters es p) ≡ hierarchies p
filters-hierarchies [] p = refl
filters-hierarchies (e ∷ es) p = filters-hierarchies es p

pub has_kind-typed : (m : Model) (S : Shape) (e : Expr) → has_kind is_boolean_kind m S e ≡ true → is_typed m S e ≡ true
has_kind-typed m S e h = go (expr_kind m S e) h
  where
    go : (o : Option EdmType) → is_some_and is_boolean_kind o ≡ true → is_some o ≡ true
    go None h = h
    go (Some k) h = refl

-- ---- filters that commute

module _ (A : World → Type 0) (L : Laws A) (w : World) (c : Customs) (a : A w) where
  -- the instances that a filter keeps
  abbrev pub kept : Expr → List Instance → List Instance
  kept e l = filter (λ i. is_value true (val w i e)) l

  -- a sure expression is Beyond on no instance that fits
  pub sure-none : (S : Shape) (e : Expr) (l : List Instance) → is_typed w.model S e ≡ true → is_sure w.model S e ≡ true → AllFit w S l → list_any is_beyond (values w e l) ≡ false
  sure-none S e l t s f = none-map (fits w S) is_beyond (λ i. val w i e) l f (λ i g. L.sure w S e i a t s g)

  pub sure-filter : (S : Shape) (e : Expr) (l : List Instance) → has_kind is_boolean_kind w.model S e ≡ true → is_sure w.model S e ≡ true → AllFit w S l → step_mean w c S (Step.Filter e) l ≡ Some (kept e l)
  unfolding mean
  sure-filter S e l t s f = ap (λ b. then_some (not b) (kept e l)) (sure-none S e l (has_kind-typed w.model S e t) s f)

  pub mean-filter : (S : Shape) (e : Expr) (p : Pipe) (l : List Instance) → mean w c S (Pipe.Then (Step.Filter e) p) l ≡ option_and_then (mean w c S p) (step_mean w c S (Step.Filter e) l)
  unfolding mean
  mean-filter S e p l = ap (λ T. option_and_then (mean w c T p) (step_mean w c S (Step.Filter e) l)) (after-filter w.model c S e)

  mean-sure : (S : Shape) (e : Expr) (p : Pipe) (l : List Instance) → has_kind is_boolean_kind w.model S e ≡ true → is_sure w.model S e ≡ true → AllFit w S l
      → mean w c S (Pipe.Then (Step.Filter e) p) l ≡ mean w c S p (kept e l)
  mean-sure S e p l t s f = mean-filter S e p l ∙ ap (option_and_then (mean w c S p)) (sure-filter S e l t s f)

  -- a sure filter passes sure filters
  swap-filters : (S : Shape) (es : List Expr) (b : Expr) (p : Pipe) (l : List Instance) → list_all (has_kind is_boolean_kind w.model S) es ≡ true → list_all (is_sure w.model S) es ≡ true
      → has_kind is_boolean_kind w.model S b ≡ true → is_sure w.model S b ≡ true → AllFit w S l → mean w c S (filters es (Pipe.Then (Step.Filter b) p)) l ≡ mean w c S (Pipe.Then (Step.Filter b) (filters es p)) l
  swap-filters S [] b p l t s u v f = refl
  swap-filters S (e ∷ es) b p l t s u v f =
      let t' = and_parts (has_kind is_boolean_kind w.model S e) _ t in
      let s' = and_parts (is_sure w.model S e) _ s in
      let fe = all-filter (fits w S) (λ i. is_value true (val w i e)) l f in
      let fb = all-filter (fits w S) (λ i. is_value true (val w i b)) l f in
      mean-sure S e (filters es (Pipe.Then (Step.Filter b) p)) l t'.0 s'.0 f
      ∙ swap-filters S es b p (kept e l) t'.1 s'.1 u v fe
      ∙ mean-sure S b (filters es p) (kept e l) u v fe
      ∙ ap (mean w c S (filters es p)) (filter-swapped (λ i. is_value true (val w i b)) (λ i. is_value true (val w i e)) l)
      ∙ sym (mean-sure S e (filters es p) (kept b l) t'.0 s'.0 fb)
      ∙ sym (mean-sure S b (Pipe.Then (Step.Filter e) (filters es p)) l u v f)

  pub pass-between : (S : Shape) (es : List Expr) (b : Expr) (p : Pipe) (l : List Instance) → MayPass w.model S es b → list_all (has_kind is_boolean_kind w.model S) es ≡ true → has_kind is_boolean_kind w.model S b ≡ true → AllFit w S l
      → mean w c S (filters es (Pipe.Then (Step.Filter b) p)) l ≡ mean w c S (Pipe.Then (Step.Filter b) (filters es p)) l
  pass-between S [] b p l s t u f = refl
  pass-between S (e ∷ es) b p l s t u f = let v = and_parts (list_all (is_sure w.model S) (e ∷ es)) _ s in swap-filters S (e ∷ es) b p l t v.0 u v.1 f

  -- what one step makes fits its shape
  pub step-fits : IsTrue (customs_typed w.model c) → (S S' : Shape) (x : Step) (l r : List Instance) → IsTrue (is_lawful w.model S) → step_shape w.model c S x ≡ Some S' → AllFit w S l → step_mean w c S x l ≡ Some r → AllFit w S' r
  unfolding mean steps_shape
  step-fits k S S' x l r law e f m = L.fitting w c S S' (Pipe.Then x Pipe.End) l r a k law (refl, ap (option_and_then (λ T. Some T)) e) f (ap (option_and_then (λ z. Some z)) m)

-- a filter commutes with a step
abbrev pub Commutes : World → Customs → Shape → Step → Expr → Type 0
Commutes w c S x b = (l : List Instance) → AllFit w S l → option_and_then (step_mean w c S (Step.Filter b)) (step_mean w c S x l) ≡ option_and_then (step_mean w c S x) (step_mean w c S (Step.Filter b) l)

module _ (A : World → Type 0) (L : Laws A) (w : World) (c : Customs) (k : IsTrue (customs_typed w.model c)) (S S1 S' : Shape) (law : IsTrue (is_lawful w.model S)) (x : Step) (e : step_shape w.model c S x ≡ Some S1) where
  at-shape : after w.model c S x ≡ S1
  at-shape = ap (λ o. unwrap_or o S) e

  -- filters behind the step, of which the last passes those before it
  pub last-first : A w → (es : List Expr) (b : Expr) (p : Pipe) → list_all (has_kind is_boolean_kind w.model S1) es ≡ true → has_kind is_boolean_kind w.model S1 b ≡ true → MayPass w.model S1 es b → (l : List Instance) → AllFit w S l
      → mean w c S (Pipe.Then x (filters es (Pipe.Then (Step.Filter b) p))) l ≡ option_and_then (mean w c S1 (filters es p)) (option_and_then (step_mean w c S1 (Step.Filter b)) (step_mean w c S x l))
  unfolding mean
  last-first a es b p t u s l f =
      ap (λ T. option_and_then (mean w c T (filters es (Pipe.Then (Step.Filter b) p))) (step_mean w c S x l)) at-shape
      ∙ chains_agree (mean w c S1 (filters es (Pipe.Then (Step.Filter b) p))) (λ r. option_and_then (mean w c S1 (filters es p)) (step_mean w c S1 (Step.Filter b) r)) (step_mean w c S x l)
      (λ r m. pass-between A L w c a S1 es b p r s t u (step-fits A L w c a k S S1 x l r law e f m) ∙ mean-filter A L w c a S1 b (filters es p) r)
      ∙ chain-assoc (mean w c S1 (filters es p)) (step_mean w c S1 (Step.Filter b)) (step_mean w c S x l)

  -- the last filter passes the step too
  pub filter_passes : (es : List Expr) (b : Expr) (p : Pipe) → steps_shape w.model c S (Pipe.Then x (filters es (Pipe.Then (Step.Filter b) p))) ≡ Some S' → MayPass w.model S1 es b
      → (has_kind is_boolean_kind w.model S1 b ≡ true → (has_kind is_boolean_kind w.model S b ≡ true) × (A w → Commutes w c S x b))
      → SameMeaning A w c S (Pipe.Then x (filters es (Pipe.Then (Step.Filter b) p))) (Pipe.Then (Step.Filter b) (Pipe.Then x (filters es p)))
  unfolding mean steps_shape
  filter_passes es b p typed sure h =
      let t = filters-typed w.model c S1 S' es (Pipe.Then (Step.Filter b) p) (sym (ap (option_and_then (λ T. steps_shape w.model c T (filters es (Pipe.Then (Step.Filter b) p)))) e) ∙ typed) in
      let u = filters-typed w.model c S1 S' (b ∷ []) p t.1 in
      let boolean = (and_parts (has_kind is_boolean_kind w.model S1 b) _ u.0).0 in
      let g = h boolean in (
        (λ n z. subst (λ hs. Contains hs n) (ap (λ hs. step_hierarchies x ++ hs) (filters-hierarchies es p ∙ sym (filters-hierarchies es (Pipe.Then (Step.Filter b) p)))) z),
        ap (λ b. option_and_then (λ T. steps_shape w.model c T (Pipe.Then x (filters es p))) (then_some b S)) g.0
            ∙ ap (option_and_then (λ T. steps_shape w.model c T (filters es p))) e
            ∙ typed-filters w.model c S1 es p t.0 ∙ u.1 ∙ sym typed,
        λ a l f. sym (
            last-first a es b p t.0 boolean sure l f
            ∙ ap (option_and_then (mean w c S1 (filters es p))) (g.1 a l f)
            ∙ sym (chain-assoc (mean w c S1 (filters es p)) (step_mean w c S x) (step_mean w c S (Step.Filter b) l))
            ∙ sym (ap (λ T. option_and_then (λ r. option_and_then (mean w c T (filters es p)) (step_mean w c S x r)) (step_mean w c S (Step.Filter b) l)) at-shape)
            ∙ sym (mean-filter A L w c a S b (Pipe.Then x (filters es p)) l)),
      )

  -- a step that takes the last filter in: it has the step's shape, and means the step and then the filter
  pub filter_taken_in : (x' : Step) (es : List Expr) (b : Expr) (p : Pipe) → steps_shape w.model c S (Pipe.Then x (filters es (Pipe.Then (Step.Filter b) p))) ≡ Some S' → MayPass w.model S1 es b
      → ((n : HierName) → Contains (step_hierarchies x') n → Contains (step_hierarchies x) n)
      → (has_kind is_boolean_kind w.model S1 b ≡ true → (step_shape w.model c S x' ≡ Some S1)
      × (A w → (l : List Instance) → AllFit w S l → step_mean w c S x' l ≡ option_and_then (step_mean w c S1 (Step.Filter b)) (step_mean w c S x l)))
      → SameMeaning A w c S (Pipe.Then x (filters es (Pipe.Then (Step.Filter b) p))) (Pipe.Then x' (filters es p))
  unfolding mean steps_shape
  filter_taken_in x' es b p typed sure names h =
      let t = filters-typed w.model c S1 S' es (Pipe.Then (Step.Filter b) p) (sym (ap (option_and_then (λ T. steps_shape w.model c T (filters es (Pipe.Then (Step.Filter b) p)))) e) ∙ typed) in
      let u = filters-typed w.model c S1 S' (b ∷ []) p t.1 in
      let boolean = (and_parts (has_kind is_boolean_kind w.model S1 b) _ u.0).0 in
      let g = h boolean in (
        (λ n z. subst (λ hs. Contains hs n) (ap (λ hs. step_hierarchies x ++ hs) (sym (filters-hierarchies es (Pipe.Then (Step.Filter b) p))))
            (within (step_hierarchies x') (step_hierarchies x) (hierarchies p) names n (subst (λ hs. Contains hs n) (ap (λ hs. step_hierarchies x' ++ hs) (filters-hierarchies es p)) z))),
        ap (option_and_then (λ T. steps_shape w.model c T (filters es p))) g.0 ∙ typed-filters w.model c S1 es p t.0 ∙ u.1 ∙ sym typed,
        λ a l f. sym (
            last-first a es b p t.0 boolean sure l f
            ∙ ap (option_and_then (mean w c S1 (filters es p))) (sym (g.1 a l f))
            ∙ sym (ap (λ T. option_and_then (mean w c T (filters es p)) (step_mean w c S x' l)) (ap (λ o. unwrap_or o S) g.0))),
      )
    where
      within : (hs gs ks : List HierName) → ((n : HierName) → Contains hs n → Contains gs n) → (n : HierName) → Contains (hs ++ ks) n → Contains (gs ++ ks) n
      within hs gs ks h n z = elim (Contains-append_cases hs ks n z) [ inl y ↦ Contains-append_left gs ks n (h n y) | inr y ↦ Contains-append_right gs ks n y ]

  -- the law of the rules by which a filter passes the step
  pub passing-keeps_meaning : (T : Shape) (before : Bool) (ss ss' : List Step) (test : Expr → Bool) → T ≡ S1 → steps_shape w.model c S (pipe (x ∷ ss)) ≡ Some S' → passing w.model T test x ss ≡ Some ss'
      → ((b : Expr) → test b ≡ true → has_kind is_boolean_kind w.model S1 b ≡ true → (has_kind is_boolean_kind w.model S b ≡ true) × (A w → Commutes w c S x b))
      → IsTrue (before || is_long (pipe ss')) × SameMeaning A w c S (pipe (x ∷ ss)) (pipe ss')
  passing-keeps_meaning T before ss ss' test same typed got h =
      let t = mapped (λ r. Step.Filter r.last ∷ behind x r) (find (λ r. test r.last) (movable w.model T ss)) ss' got in
      let r = movable-found w.model T test ss t.0 t.1 in
      let from = ap pipe r.whole ∙ pipe-filters (t.0).between (Step.Filter (t.0).last ∷ (t.0).rest) in
      let into : pipe ss' ≡ Pipe.Then (Step.Filter (t.0).last) (Pipe.Then x (filters (t.0).between (pipe (t.0).rest))) =
      sym (ap pipe t.2) ∙ ap (λ p. Pipe.Then (Step.Filter (t.0).last) (Pipe.Then x p)) (pipe-filters (t.0).between (t.0).rest) in
      let K : Pipe → Pipe → Type 0 = λ p q. IsTrue (before || is_long q) × SameMeaning A w c S (Pipe.Then x p) q in
      subst (λ p. K p (pipe ss')) (sym from) (subst (λ q. K (filters (t.0).between (Pipe.Then (Step.Filter (t.0).last) (pipe (t.0).rest))) q) (sym into) (
        or_right before true refl,
        filter_passes (t.0).between (t.0).last (pipe (t.0).rest) (sym (ap (λ p. steps_shape w.model c S (Pipe.Then x p)) from) ∙ typed)
            (subst (λ Z. MayPass w.model Z (t.0).between (t.0).last) same r.passes) (h (t.0).last r.tested),
      ))

  -- the law of the rules by which the step takes a filter in
  pub taking-keeps_meaning : (T : Shape) (before : Bool) (ss ss' : List Step) (test : Expr → Bool) (into : Expr → Step) → T ≡ S1 → steps_shape w.model c S (pipe (x ∷ ss)) ≡ Some S'
      → option_map (λ r. behind (into r.last) r) (find (λ r. test r.last) (movable w.model T ss)) ≡ Some ss'
      → ((b : Expr) (n : HierName) → Contains (step_hierarchies (into b)) n → Contains (step_hierarchies x) n)
      → ((b : Expr) → test b ≡ true → has_kind is_boolean_kind w.model S1 b ≡ true → (step_shape w.model c S (into b) ≡ Some S1)
      × (A w → (l : List Instance) → AllFit w S l → step_mean w c S (into b) l ≡ option_and_then (step_mean w c S1 (Step.Filter b)) (step_mean w c S x l)))
      → IsTrue (before || is_long (pipe ss')) × SameMeaning A w c S (pipe (x ∷ ss)) (pipe ss')
  taking-keeps_meaning T before ss ss' test into same typed got names h =
      let t = mapped (λ r. behind (into r.last) r) (find (λ r. test r.last) (movable w.model T ss)) ss' got in
      let r = movable-found w.model T test ss t.0 t.1 in
      let from = ap pipe r.whole ∙ pipe-filters (t.0).between (Step.Filter (t.0).last ∷ (t.0).rest) in
      let to : pipe ss' ≡ Pipe.Then (into (t.0).last) (filters (t.0).between (pipe (t.0).rest)) =
      sym (ap pipe t.2) ∙ ap (λ p. Pipe.Then (into (t.0).last) p) (pipe-filters (t.0).between (t.0).rest) in
      let K : Pipe → Pipe → Type 0 = λ p q. IsTrue (before || is_long q) × SameMeaning A w c S (Pipe.Then x p) q in
      subst (λ p. K p (pipe ss')) (sym from) (subst (λ q. K (filters (t.0).between (Pipe.Then (Step.Filter (t.0).last) (pipe (t.0).rest))) q) (sym to) (
        or_right before true refl,
        filter_taken_in (into (t.0).last) (t.0).between (t.0).last (pipe (t.0).rest) (sym (ap (λ p. steps_shape w.model c S (Pipe.Then x p)) from) ∙ typed)
            (subst (λ Z. MayPass w.model Z (t.0).between (t.0).last) same r.passes) (names (t.0).last) (h (t.0).last r.tested),
      ))
