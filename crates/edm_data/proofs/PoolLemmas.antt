-- Texts that are kept once each: one text more, and what the numbers tell of all texts.
use Rattle.std.proofs.Common.{◌≡◌, ℕ, zero, suc, ◌<◌, Bool, true, false, List, [], ◌∷◌, ◌++◌, length, get_or, map, if◌then◌else◌, Some, refl, sym, ap, ◌∙◌, arith, true≢false}
use Rattle.std.specs.Prelude.{All, nat_eq, slice_get, option_map}
use Rattle.std.specs.List.{AllByRecursion, IsDistinct, list_any}
use Rattle.std.proofs.lemmas.Bool.{eq-eqb, eqb-true, ne_eqb}
use Rattle.std.proofs.lemmas.List.{append-nil, length-map, map-append}
use Rattle.std.proofs.lemmas.List.Elements.{All-cons, All-nil}
use Rattle.std.proofs.lemmas.Map.Keys.{IsDistinct-head, IsDistinct-tail}
use Rattle.std.proofs.lemmas.Option.{get_or_from_slice_get, slice_get-map, slice_get_within}
use Rattle.indexmap.specs.IndexSet.{insert_key}
use Rattle.edm_values.specs.Lists.{same_text}
use Rattle.edm_values.proofs.SameTexts.{same_texts, text-self}
use Rattle.edm_data.specs.NumberedTexts.{IsPool}

-- ---- numbers of texts

-- these are the texts of the numbers
abbrev pub Told : List (List ℕ) → List ℕ → List (List ℕ) → Type 0
Told pool numbers texts = map (slice_get pool) numbers ≡ map Some texts

there-left : {X : Type 0} (xs ys : List X) (n : ℕ) (x : X) → slice_get xs n ≡ Some x → slice_get (xs ++ ys) n ≡ Some x
there-left [] ys n x h = absurd (cc)
there-left (y ∷ xs) ys zero x h = h
there-left (y ∷ xs) ys (suc n) x h = there-left xs ys n x h

told-more : (pool more : List (List ℕ)) (numbers : List ℕ) (texts : List (List ℕ)) → Told pool numbers texts → Told (pool ++ more) numbers texts
told-more pool more [] [] h = refl
told-more pool more [] (t ∷ texts) h = absurd (cc)
told-more pool more (n ∷ numbers) [] h = absurd (cc)
told-more pool more (n ∷ numbers) (t ∷ texts) h =
    let first : slice_get pool n ≡ Some t = cc in
    let rest : map (slice_get pool) numbers ≡ map Some texts = cc in
    λ i. there-left pool more n t first i ∷ told-more pool more numbers texts rest i

-- the numbers are below the length of the pool
pub told-there : (pool : List (List ℕ)) (numbers : List ℕ) (texts : List (List ℕ)) → Told pool numbers texts → All (λ n. n < length pool) numbers
told-there pool [] texts h = All-nil (λ n. n < length pool)
told-there pool (n ∷ numbers) [] h = absurd (cc)
told-there pool (n ∷ numbers) (t ∷ texts) h =
    let first : slice_get pool n ≡ Some t = cc in
    let rest : map (slice_get pool) numbers ≡ map Some texts = cc in
    All-cons (λ n. n < length pool) n numbers (slice_get_within pool n t first) (told-there pool numbers texts rest)

-- and each has its text
pub told-texts : (pool : List (List ℕ)) (numbers : List ℕ) (texts : List (List ℕ)) → Told pool numbers texts → map (λ n. get_or pool n []) numbers ≡ texts
told-texts pool [] [] h = refl
told-texts pool [] (t ∷ texts) h = absurd (cc)
told-texts pool (n ∷ numbers) [] h = absurd (cc)
told-texts pool (n ∷ numbers) (t ∷ texts) h =
    let first : slice_get pool n ≡ Some t = cc in
    let rest : map (slice_get pool) numbers ≡ map Some texts = cc in
    λ i. get_or_from_slice_get pool n t [] first i ∷ told-texts pool numbers texts rest i

-- ---- texts that are found in a set

module _ {X : Type 0} (f : X → List ℕ) where
  inserted-more : (keys : List X) (x : X) → (zs : List X) × (insert_key (λ a b. same_text (f a) (f b)) keys x ≡ keys ++ zs)
  inserted-more keys x = go (list_any (λ b. same_text (f x) (f b)) keys)
    where
      go : (b : Bool) → (zs : List X) × ((if b then keys else keys ++ x ∷ []) ≡ keys ++ zs)
      go true = ([], sym (append-nil keys))
      go false = (x ∷ [], refl)

  -- one text more
  pub told-next : (keys more : List X) (numbers longer : List ℕ) (texts : List (List ℕ)) (x k : X) (n : ℕ) → more ≡ insert_key (λ a b. same_text (f a) (f b)) keys x → slice_get more n ≡ Some k → same_text (f x) (f k) ≡ true → longer ≡ numbers ++ n ∷ []
      → Told (map f keys) numbers texts → Told (map f more) longer (texts ++ f x ∷ [])
  told-next keys more numbers longer texts x k n is at same behind h =
      let rest = inserted-more keys x in
      let own : map f more ≡ map f keys ++ map f rest.0 = ap (map f) (is ∙ rest.1) ∙ map-append f keys rest.0 in
      let before : Told (map f more) numbers texts = ap (λ ks. map (slice_get ks) numbers) own ∙ told-more (map f keys) (map f rest.0) numbers texts h in
      let last : slice_get (map f more) n ≡ Some (f x) = slice_get-map f more n ∙ ap (option_map f) at ∙ ap Some (sym (same_texts (f x) (f k) same)) in
      ap (map (slice_get (map f more))) behind ∙ map-append (slice_get (map f more)) numbers (n ∷ []) ∙ (λ i. before i ++ last i ∷ []) ∙ sym (map-append Some texts (f x ∷ []))

  -- ---- no text twice

  abbrev same_by : X → X → Bool
  same_by a b = same_text (f a) (f b)

  apart-all : (x : X) (keys : List X) (d : List ℕ) (j : ℕ) → AllByRecursion (λ y. same_text (f x) (f y) ≡ false) keys → j < length keys → same_text (f x) (get_or (map f keys) j d) ≡ false
  apart-all x [] d j h less = absurd (omega (arith, less))
  apart-all x (k ∷ keys) d zero h less = h.0
  apart-all x (k ∷ keys) d (suc j) h less = apart-all x keys d j h.1 (omega (arith, less))

  next-eqb : (i j : ℕ) → nat_eq i j ≡ nat_eq (suc i) (suc j)
  next-eqb i j = go (nat_eq i j) refl
    where
      go : (b : Bool) → nat_eq i j ≡ b → b ≡ nat_eq (suc i) (suc j)
      go true e = sym (eq-eqb (suc i) (suc j) (ap suc (eqb-true i j e)))
      go false e = sym (ne_eqb (suc i) (suc j) (λ q. true≢false (sym (eq-eqb i j (let p : i ≡ j = omega (arith, q) in p)) ∙ e)))

  apart-other : (a b : List ℕ) → same_text a b ≡ false → same_text b a ≡ false
  apart-other a b other = go (same_text b a) refl
    where
      go : (r : Bool) → same_text b a ≡ r → r ≡ false
      go false e = refl
      go true e = absurd (true≢false (sym (text-self b) ∙ ap (λ t. same_text t b) (same_texts b a e) ∙ other))

  pub apart-pool : (keys : List X) → IsDistinct (λ a b. same_text (f a) (f b)) keys → IsPool (map f keys)
  apart-pool [] h i j li lj = absurd (omega (arith, li))
  apart-pool (k ∷ keys) h zero zero li lj = text-self (f k)
  apart-pool (k ∷ keys) h zero (suc j) li lj =
      let e = length-map keys f in
      apart-all k keys [] j (IsDistinct-head same_by k keys h) (omega (arith, lj, e)) ∙ sym (ne_eqb 0 (suc j) (omega arith))
  apart-pool (k ∷ keys) h (suc i) zero li lj =
      let e = length-map keys f in
      apart-other (f k) (get_or (map f keys) i []) (apart-all k keys [] i (IsDistinct-head same_by k keys h) (omega (arith, li, e))) ∙ sym (ne_eqb (suc i) 0 (omega arith))
  apart-pool (k ∷ keys) h (suc i) (suc j) li lj = apart-pool keys (IsDistinct-tail same_by k keys h) i j (omega (arith, li)) (omega (arith, lj)) ∙ next-eqb i j
