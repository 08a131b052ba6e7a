-- Filters on keys pass one level of a grouping.
use Rattle.std.proofs.Common.{◌≡◌, refl, sym, ◌∙◌, ap, Bool, true, false, not, List, [], ◌∷◌, ◌++◌, Some, None, map, filter, cond, inl, inr, if◌then◌else◌}
use Rattle.std.specs.Prelude.{option_map, is_some, flat_map, unwrap_or}
use Rattle.std.specs.List.{list_all}
use Rattle.std.proofs.lemmas.List.Elements.{filter-append}
use Rattle.std.proofs.lemmas.Bool.{and_parts, or_cases, not-true, not_from_false, both_ways, false_from_ne_true}
use Rattle.edm_values.specs.Lists.{distinct, first_some}
use Rattle.edm_values.specs.Names.{Path}
use Rattle.edm_values.specs.Values.{is_value, same_value}
use Rattle.edm_values.specs.OrderLaws.{same_value_is, same_value_itself}
use Rattle.edm_values.specs.declared.Value.{Value}
use Rattle.edm_values.proofs.OptionFacts.{option_cases, map-there}
use Rattle.edm_values.proofs.ListFacts.{all-filter, all-map, all-any, all-each, filter-passes}
use Rattle.edm_values.proofs.SearchFacts.{IsAmong, find-joined, all-distinct}
use Rattle.edm_values.proofs.SameTexts.{same_lists}
use Rattle.edm_values.proofs.Reorderings.{filter-swapped}
use Rattle.edm_data.specs.Worlds.{World}
use Rattle.apply_ast.specs.Trees.{Expr}
use Rattle.context_typing.specs.Paths.{same_path, at_path}
use Rattle.context_typing.specs.Shapes.{Shape}
use Rattle.context_typing.specs.Typing.{column_at}
use Rattle.context_typing.proofs.PathLemmas.{same_paths, path-self}
use Rattle.apply_meaning.specs.Instances.{extended, Instance, val, fits, lookup}
use Rattle.apply_meaning.specs.Meaning.{Outcome, key_list, same_keys, keys, group, grouped, keyed}
use Rattle.apply_meaning.specs.MeaningLaws.{AllFit}
use Rattle.apply_meaning.proofs.FitLemmas.{Fit, fit-parts}
use Rattle.apply_meaning.proofs.LookupLemmas.{by_column, column-of}
use Rattle.rewrite_laws.specs.Rewrites.{over, is_among}
use Rattle.rewrite_laws.proofs.ExprPaths.{val-same}
use Rattle.rewrite_laws.proofs.JoinedResults.{joined-whole, filter-by}

-- key lists that are the same are equal
same-lists : (k k' : List Value) → same_keys k k' ≡ true → k ≡ k'
same-lists k k' e = same_lists same_value same_value_is k k' e

-- each element once, of those that pass a test that does not tell the same apart
pub distinct-filter : {X : Type 0} (eq : X → X → Bool) (s : X → Bool) → ((x y : X) → eq x y ≡ true → s x ≡ s y) → (xs : List X) → distinct eq (filter s xs) ≡ filter s (distinct eq xs)
distinct-filter eq s h [] = refl
distinct-filter {X} eq s h (x ∷ xs) = go (s x) refl (distinct-filter eq s h xs)
  where
    skip : (ys : List X) → s x ≡ false → filter s (filter (λ y. not (eq x y)) ys) ≡ filter s ys
    skip ys f = filter-swapped s (λ y. not (eq x y)) ys ∙ all-kept (filter s ys) (filter-passes s ys)
      where
        all-kept : (zs : List X) → list_all s zs ≡ true → filter (λ y. not (eq x y)) zs ≡ zs
        all-kept [] a = refl
        all-kept (z ∷ zs) a =
            let t = and_parts (s z) _ a in
            ap (λ b. cond b (z ∷ filter (λ y. not (eq x y)) zs) (filter (λ y. not (eq x y)) zs)) (not_from_false _ (false_from_ne_true _ (λ e. both_ways (s z) (sym (h x z e) ∙ f) t.0))) ∙ ap (λ r. z ∷ r) (all-kept zs t.1)

    go : (b : Bool) → s x ≡ b → distinct eq (filter s xs) ≡ filter s (distinct eq xs) → distinct eq (cond b (x ∷ filter s xs) (filter s xs)) ≡ cond b (x ∷ filter s (filter (λ y. not (eq x y)) (distinct eq xs))) (filter s (filter (λ y. not (eq x y)) (distinct eq xs)))
    go true f e = ap (λ r. x ∷ r) (ap (filter (λ y. not (eq x y))) e ∙ filter-swapped (λ y. not (eq x y)) s (distinct eq xs))
    go false f e = e ∙ sym (skip (distinct eq xs) f)

map-filter : {X Y : Type 0} (f : X → Y) (t : X → Bool) (s : Y → Bool) → (xs : List X) → ((x : X) → IsAmong xs x → t x ≡ s (f x)) → map f (filter t xs) ≡ filter s (map f xs)
map-filter f t s [] h = refl
map-filter f t s (x ∷ xs) h =
    go (t x) (map-filter f t s xs (λ y m. h y (λ q a. m q (and_parts (q x) _ a).1))) ∙ ap (λ b. cond b (f x ∷ filter s (map f xs)) (filter s (map f xs))) (h x (λ q a. (and_parts (q x) _ a).0))
  where
    go : (b : Bool) → map f (filter t xs) ≡ filter s (map f xs) → map f (cond b (x ∷ filter t xs) (filter t xs)) ≡ cond b (f x ∷ filter s (map f xs)) (filter s (map f xs))
    go true e = ap (λ z. f x ∷ z) e
    go false e = e

filter-all : {X : Type 0} (t : X → Bool) (xs : List X) → list_all t xs ≡ true → filter t xs ≡ xs
filter-all t [] a = refl
filter-all t (x ∷ xs) a = let p = and_parts (t x) _ a in ap (λ b. cond b (x ∷ filter t xs) (filter t xs)) p.0 ∙ ap (λ z. x ∷ z) (filter-all t xs p.1)

flat-filter-same : {X Y : Type 0} (f g : X → List Y) (s : X → Bool) → ((x : X) → s x ≡ true → f x ≡ g x) → (xs : List X) → flat_map f (filter s xs) ≡ flat_map g (filter s xs)
flat-filter-same f g s h [] = refl
flat-filter-same f g s h (x ∷ xs) = go (s x) refl (flat-filter-same f g s h xs)
  where
    go : (b : Bool) → s x ≡ b → flat_map f (filter s xs) ≡ flat_map g (filter s xs) → flat_map f (cond b (x ∷ filter s xs) (filter s xs)) ≡ flat_map g (cond b (x ∷ filter s xs) (filter s xs))
    go true e r = λ i. h x e i ++ r i
    go false e r = r

-- the instance that stands for a key list: its columns alone
abbrev key_instance : List Path → List Value → Instance
key_instance level k = record { prefixes = []; columns = keyed level k }

-- the value at a path of a level, in the columns of a key list
among-values : (w : World) (i : Instance) (ps : List Path) (p : Path) → is_among ps p ≡ true → (c : Path × Value) × (at_path (λ c. c.0) (keyed ps (key_list w ps i)) p ≡ Some c) × (c.1 ≡ lookup w i p)
among-values w i [] p h = cc
among-values w i (q ∷ ps) p h = go (same_path q p) refl (among-values w i ps p)
  where
    go : (b : Bool) → same_path q p ≡ b → (is_among ps p ≡ true → (c : Path × Value) × (at_path (λ c. c.0) (keyed ps (key_list w ps i)) p ≡ Some c) × (c.1 ≡ lookup w i p))
        → (c : Path × Value) × (cond b (Some (q, lookup w i q)) (at_path (λ c. c.0) (keyed ps (key_list w ps i)) p) ≡ Some c) × (c.1 ≡ lookup w i p)
    go true e r = ((q, lookup w i q), refl, ap (lookup w i) (same_paths q p e))
    go false e r = elim (or_cases (same_path p q) _ h) [
      | inl a ↦ absurd (both_ways (same_path q p) e (ap (λ z. same_path z p) (sym (same_paths p q a)) ∙ path-self p))
      | inr a ↦ r a
    ]

blocks-filter_of : {X Y : Type 0} (t : X → Bool) (f : Y → List X) (s ok : Y → Bool) → ((i : Y) → ok i ≡ true → filter t (f i) ≡ (if s i then f i else [])) → (l : List Y) → list_all ok l ≡ true
    → filter t (flat_map f l) ≡ flat_map f (filter s l)
blocks-filter_of t f s ok h [] a = refl
blocks-filter_of t f s ok h (i ∷ l) a =
    let p = and_parts (ok i) _ a in
    filter-append t (f i) (flat_map f l) ∙ (λ k. h i p.0 k ++ blocks-filter_of t f s ok h l p.1 k) ∙ go (s i)
  where
    go : (b : Bool) → (if b then f i else []) ++ flat_map f (filter s l) ≡ flat_map f (cond b (i ∷ filter s l) (filter s l))
    go true = refl
    go false = refl

-- all values one
pub all-one : {X : Type 0} (v : X → Value) (u : Value) (xs : List X) → list_all (λ x. same_value (v x) u) xs ≡ true → map v xs ≡ map (λ x. u) xs
all-one v u [] a = refl
all-one v u (x ∷ xs) a = let t = and_parts (same_value (v x) u) _ a in λ i. same_value_is (v x) u t.0 i ∷ all-one v u xs t.1 i

-- one level of a grouping, over what is made of each group
module _ (w : World) (S G : Shape) (f : List Instance → Outcome) (total : (l : List Instance) → AllFit w S l → is_some (f l) ≡ true) (fit : (l r : List Instance) → AllFit w S l → f l ≡ Some r → AllFit w G r)
    (b : Expr) (level : List Path) (all : over level b ≡ true) (apart : list_all (λ p. not (is_some (column_at G p))) level ≡ true) where
  abbrev by_key : List Value → Value
  by_key k = val w (key_instance level k) b

  abbrev passes : Instance → Bool
  passes i = is_value true (val w i b)

  abbrev block : List Instance → List Value → List Instance
  block l k = unwrap_or (option_map (map (λ r. extended r (keyed level k))) (f (group w level k l))) []

  abbrev pub out : List Instance → List Instance
  out l = flat_map (block l) (keys w level l)

  -- the filter reads the key list of an instance, and that of a result
  by-list : (i : Instance) → val w i b ≡ by_key (key_list w level i)
  by-list i = val-same w (key_instance level (key_list w level i)) i (is_among level) (λ p h.
      let t = among-values w i level p h in
      sym (by_column w (key_instance level (key_list w level i)) p t.0 t.1 ∙ t.2)) b all

  by-result : (i r : Instance) → Fit w G r → val w (extended r (keyed level (key_list w level i))) b ≡ by_key (key_list w level i)
  by-result i r R = val-same w (key_instance level (key_list w level i)) (extended r (keyed level (key_list w level i))) (is_among level) (λ p h.
      let t = among-values w i level p h in
      by_column w (extended r (keyed level (key_list w level i))) p t.0
      (find-joined (λ c. same_path c.0 p) r.columns (keyed level (key_list w level i)) ∙ ap (λ o. first_some o (at_path (λ c. c.0) (keyed level (key_list w level i)) p)) (no_own p h) ∙ t.1)
      ∙ sym (by_column w (key_instance level (key_list w level i)) p t.0 t.1)) b all
    where
      lacks : (ps : List Path) (p : Path) → is_among ps p ≡ true → list_all (λ p. not (is_some (column_at G p))) ps ≡ true → is_some (column_at G p) ≡ false
      lacks [] p h a = cc
      lacks (q ∷ ps) p h a = let u = and_parts (not (is_some (column_at G q))) _ a in elim (or_cases (same_path p q) _ h) [
        | inl e ↦ ap (λ z. is_some (column_at G z)) (same_paths p q e) ∙ not-true _ u.0
        | inr e ↦ lacks ps p e u.1
      ]

      no_own : (p : Path) → is_among level p ≡ true → at_path (λ c. c.0) r.columns p ≡ None
      no_own p h = elim (option_cases (at_path (λ c. c.0) r.columns p)) [
        | inl n ↦ n
        | inr c ↦ absurd (both_ways (is_some (column_at G p)) (lacks level p h apart) (ap is_some (column-of w G r R p c.0 c.1).1))
      ]

  block-ok : List Instance → List Value → Bool
  block-ok l k = list_all (λ r. same_value (val w r b) (by_key k)) (block l k)

  blocks-ok : (l : List Instance) → AllFit w S l → list_all (block-ok l) (keys w level l) ≡ true
  unfolding block-ok
  blocks-ok l a = all-distinct (block-ok l) same_keys (map (key_list w level) l) (all-map (fits w S) (block-ok l) (key_list w level) l a (λ i F. one i (f (group w level (key_list w level i) l)) refl))
    where
      one : (i : Instance) (o : Outcome) → f (group w level (key_list w level i) l) ≡ o
          → list_all (λ r. same_value (val w r b) (by_key (key_list w level i))) (unwrap_or (option_map (map (λ r. extended r (keyed level (key_list w level i)))) o) []) ≡ true
      one i None e = refl
      one i (Some r) e = all-map (fits w G) (λ r. same_value (val w r b) (by_key (key_list w level i))) (λ r. extended r (keyed level (key_list w level i))) r
          (fit (group w level (key_list w level i) l) r (all-filter (fits w S) (λ j. same_keys (key_list w level j) (key_list w level i)) l a) e)
          (λ x X. ap (λ z. same_value z (by_key (key_list w level i))) (by-result i x (fit-parts w G x X)) ∙ same_value_itself (by_key (key_list w level i)))

  pub level-is : (l : List Instance) → AllFit w S l → grouped w level f l ≡ Some (out l)
  level-is l a = joined-whole (λ k. option_map (map (λ r. extended r (keyed level k))) (f (group w level k l))) (keys w level l)
      (all-any _ (keys w level l) (λ k. map-there (map (λ r. extended r (keyed level k))) (f (group w level k l)) (total (group w level k l) (all-filter (fits w S) (λ j. same_keys (key_list w level j) k) l a))))

  respects : (k k' : List Value) → same_keys k k' ≡ true → is_value true (by_key k) ≡ is_value true (by_key k')
  respects k k' e = ap (λ z. is_value true (by_key z)) (same-lists k k' e)

  kept-keys : (l : List Instance) → keys w level (filter passes l) ≡ filter (λ k. is_value true (by_key k)) (keys w level l)
  kept-keys l = ap (distinct same_keys) (map-filter (key_list w level) passes (λ k. is_value true (by_key k)) l (λ i m. ap (is_value true) (by-list i))) ∙ distinct-filter same_keys (λ k. is_value true (by_key k)) respects (map (key_list w level) l)

  kept-group : (l : List Instance) (k : List Value) → is_value true (by_key k) ≡ true → group w level k l ≡ group w level k (filter passes l)
  kept-group l k h =
      sym (filter-swapped (λ i. same_keys (key_list w level i) k) passes l
      ∙ filter-all passes (group w level k l) (all-each (λ i. same_keys (key_list w level i) k) passes (group w level k l) (filter-passes (λ i. same_keys (key_list w level i) k) l)
      (λ i e. ap (is_value true) (by-list i) ∙ ap (λ z. is_value true (by_key z)) (same-lists (key_list w level i) k e) ∙ h)))

  -- the filter on a level's result is the level of the filtered list
  pub level-filter : (l : List Instance) → AllFit w S l → filter passes (out l) ≡ out (filter passes l)
  unfolding block-ok
  level-filter l a =
      blocks-filter_of passes (block l) (λ k. is_value true (by_key k)) (block-ok l) (λ k h. filter-by (λ r. val w r b) (by_key k) (block l k) (all-one (λ r. val w r b) (by_key k) (block l k) h)) (keys w level l) (blocks-ok l a)
      ∙ flat-filter-same (block l) (block (filter passes l)) (λ k. is_value true (by_key k)) (λ k h. ap (λ g. unwrap_or (option_map (map (λ r. extended r (keyed level k))) (f g)) []) (kept-group l k h)) (keys w level l)
      ∙ ap (flat_map (block (filter passes l))) (sym (kept-keys l))
