-- The distinct values of rows that are told by numbers.
use Rattle.std.proofs.Common.{◌≡◌, ◌∙◌, ℕ, ◌<◌, Bool, true, false, cond, not, ◌||◌, List, [], ◌∷◌, length, get_or, map, filter, if◌then◌else◌, refl, sym, ap}
use Rattle.std.specs.Prelude.{All, nat_eq, pos, slice_get, slice_index}
use Rattle.std.specs.List.{cons_option, filter_map, list_any}
use Rattle.std.proofs.lemmas.Bool.{true≢false}
use Rattle.std.proofs.lemmas.List.{length-map}
use Rattle.std.proofs.lemmas.List.Elements.{All-cons, All-filter, All-head, All-tail}
use Rattle.std.proofs.lemmas.List.Folds.{list_any_at}
use Rattle.std.proofs.lemmas.Option.{slice_get-get_or, unwrap_or-slice_get}
use Rattle.edm_values.specs.declared.Method.TheVariants as by
use Rattle.edm_values.specs.declared.Value.{Value}
use Rattle.edm_values.specs.Lists.{at_places, distinct}
use Rattle.edm_values.specs.Values.{is_beyond, is_null, same_value, value_in}
use Rattle.value_codes.specs.Codes.{CodeList}
use Rattle.edm_values.proofs.Reorderings.{TestsEquality, filter-swapped}
use Rattle.edm_values.proofs.ValueOrders.{same_value_tests}
use Rattle.apply_meaning.specs.Aggregates.{aggregate}
use Rattle.rollup_rec.specs.NodeDistincts.{AreToldBy}

-- ---- distinct items of a list

-- items that do not pass may be taken out before
not-passing : {X : Type 0} (eq : X → X → Bool) → TestsEquality eq → (p : X → Bool) (x : X) → p x ≡ false → (ys : List X) → filter p (filter (λ y. not (eq x y)) ys) ≡ filter p ys
not-passing eq t p x none [] = refl
not-passing {X} eq t p x none (y ∷ ys) = go (eq x y) refl (not-passing eq t p x none ys)
  where
    rest : List X
    rest = filter (λ z. not (eq x z)) ys

    go : (b : Bool) → eq x y ≡ b → filter p rest ≡ filter p ys → filter p (cond (not b) (y ∷ rest) rest) ≡ cond (p y) (y ∷ filter p ys) (filter p ys)
    go true e h = h ∙ sym (ap (λ c. cond c (y ∷ filter p ys) (filter p ys)) (ap p (sym (t.same x y e)) ∙ none))
    go false e h = ap (λ l. cond (p y) (y ∷ l) l) h

-- the distinct items that pass are the distinct ones of those that do
filter-distinct : {X : Type 0} (eq : X → X → Bool) → TestsEquality eq → (p : X → Bool) (xs : List X) → filter p (distinct eq xs) ≡ distinct eq (filter p xs)
filter-distinct eq t p [] = refl
filter-distinct {X} eq t p (x ∷ xs) = go (p x) refl (filter-distinct eq t p xs)
  where
    rest : List X
    rest = filter (λ y. not (eq x y)) (distinct eq xs)

    go : (b : Bool) → p x ≡ b → filter p (distinct eq xs) ≡ distinct eq (filter p xs) → cond b (x ∷ filter p rest) (filter p rest) ≡ distinct eq (cond b (x ∷ filter p xs) (filter p xs))
    go true e h = ap (λ l. x ∷ l) (filter-swapped p (λ y. not (eq x y)) (distinct eq xs) ∙ ap (filter (λ y. not (eq x y))) h)
    go false e h = not-passing eq t p x e (distinct eq xs) ∙ h

-- ---- items that are told by rows

module _ {X : Type 0} (eq : X → X → Bool) (other : ℕ → ℕ → Bool) (f : ℕ → X) (m : ℕ) (tells : (a b : ℕ) → a < m → b < m → eq (f a) (f b) ≡ other a b) where
  filter-images : (a : ℕ) → a < m → (xs : List ℕ) → All (λ k. k < m) xs → filter (λ y. not (eq (f a) y)) (map f xs) ≡ map f (filter (λ b. not (other a b)) xs)
  filter-images a h [] w = refl
  filter-images a h (x ∷ xs) w = go (other a x) (tells a x h (All-head (λ k. k < m) x xs w)) (filter-images a h xs (All-tail (λ k. k < m) x xs w))
    where
      left : List X
      left = filter (λ y. not (eq (f a) y)) (map f xs)

      right : List ℕ
      right = filter (λ b. not (other a b)) xs

      go : (b : Bool) → eq (f a) (f x) ≡ b → left ≡ map f right → cond (not (eq (f a) (f x))) (f x ∷ left) left ≡ map f (cond (not b) (x ∷ right) right)
      go true e r = ap (λ q. cond (not q) (f x ∷ left) left) e ∙ r
      go false e r = ap (λ q. cond (not q) (f x ∷ left) left) e ∙ ap (λ l. f x ∷ l) r

  distinct-below : (xs : List ℕ) → All (λ k. k < m) xs → All (λ k. k < m) (distinct other xs)
  distinct-below [] a = a
  distinct-below (x ∷ xs) a =
      All-cons (λ k. k < m) x (filter (λ y. not (other x y)) (distinct other xs)) (All-head (λ k. k < m) x xs a)
      (All-filter (λ y. not (other x y)) (λ k. k < m) (distinct other xs) (distinct-below xs (All-tail (λ k. k < m) x xs a)))

  -- the distinct images are those of the distinct rows
  distinct-of_images : (xs : List ℕ) → All (λ k. k < m) xs → distinct eq (map f xs) ≡ map f (distinct other xs)
  distinct-of_images [] w = refl
  distinct-of_images (x ∷ xs) w =
      ap (λ l. f x ∷ l)
      (ap (filter (λ y. not (eq (f x) y))) (distinct-of_images xs (All-tail (λ k. k < m) x xs w))
      ∙ filter-images x (All-head (λ k. k < m) x xs w) (distinct other xs) (distinct-below xs (All-tail (λ k. k < m) x xs w)))

-- items that pass are the images of the rows that do
passing-images : {X : Type 0} (p : X → Bool) (q : ℕ → Bool) (f : ℕ → X) (m : ℕ) → ((k : ℕ) → k < m → p (f k) ≡ q k) → (ks : List ℕ) → All (λ k. k < m) ks → filter p (map f ks) ≡ map f (filter q ks)
passing-images p q f m tells [] a = refl
passing-images {X} p q f m tells (k ∷ ks) a = go (q k) (tells k (All-head (λ k. k < m) k ks a)) (passing-images p q f m tells ks (All-tail (λ k. k < m) k ks a))
  where
    left : List X
    left = filter p (map f ks)

    go : (b : Bool) → p (f k) ≡ b → left ≡ map f (filter q ks) → cond (p (f k)) (f k ∷ left) left ≡ map f (cond b (k ∷ filter q ks) (filter q ks))
    go true e r = ap (λ c. cond c (f k ∷ left) left) e ∙ ap (λ l. f k ∷ l) r
    go false e r = ap (λ c. cond c (f k ∷ left) left) e ∙ r

-- none of the images passes
none-passes : {X : Type 0} (p : X → Bool) (f : ℕ → X) (m : ℕ) → ((k : ℕ) → k < m → p (f k) ≡ false) → (ks : List ℕ) → All (λ k. k < m) ks → list_any p (map f ks) ≡ false
none-passes p f m out [] a = refl
none-passes p f m out (k ∷ ks) a =
    ap (λ b. b || list_any p (map f ks)) (out k (All-head (λ k. k < m) k ks a)) ∙ none-passes p f m out ks (All-tail (λ k. k < m) k ks a)

-- ---- rows

-- the items at places that are there
at-rows : {X : Type 0} (d : X) (xs : List X) (rows : List ℕ) → All (λ r. r < length xs) rows → at_places xs rows ≡ map (λ r. get_or xs r d) rows
at-rows d xs [] a = refl
at-rows d xs (r ∷ rows) a =
    ap (λ o. cons_option o (filter_map (slice_get xs) rows)) (slice_get-get_or xs r d (All-head (λ r. r < length xs) r rows a))
    ∙ ap (λ l. get_or xs r d ∷ l) (at-rows d xs rows (All-tail (λ r. r < length xs) r rows a))

module _ (vs : List Value) (codes : CodeList) (nulls : List Bool) (so : AreToldBy vs codes nulls) (rows : List ℕ) (within : All (λ r. r < length vs) rows) where
  abbrev many : ℕ
  many = length vs

  abbrev value : ℕ → Value
  value r = get_or vs r Value.Null

  abbrev number : ℕ → ℕ
  number r = slice_index codes.codes r

  abbrev same : ℕ → ℕ → Bool
  same r s = nat_eq (number r) (number s)

  value-is : (r : ℕ) → value_in vs r ≡ value r
  value-is r = unwrap_or-slice_get vs r Value.Null

  in-range : (r : ℕ) → r < many → is_beyond (value r) ≡ false
  in-range r h = go (is_beyond (value r)) refl
    where
      go : (b : Bool) → is_beyond (value r) ≡ b → is_beyond (value r) ≡ false
      go true e = absurd (true≢false (sym (list_any_at is_beyond vs r Value.Null h e) ∙ so.within))
      go false e = e

  abbrev keeps : ℕ → Bool
  keeps k = not (get_or nulls k false)

  abbrev counts : Value → Bool
  counts v = not (is_null v)

  own : (r : ℕ) → r < many → counts (value r) ≡ keeps (number r)
  own r h = ap counts (sym (value-is r)) ∙ ap not (sym (so.nulls_are r h))

  tells : (a b : ℕ) → a < many → b < many → same_value (value a) (value b) ≡ same a b
  tells a b la lb = (λ i. same_value (sym (value-is a) i) (sym (value-is b) i)) ∙ so.codes_are.same a b la lb

  -- those that are not null, counted by their numbers
  pub counted : aggregate by.CountDistinct (at_places vs rows) ≡ Value.Int (pos (length (filter (λ k. not (get_or nulls k false)) (distinct nat_eq (map (λ r. slice_index codes.codes r) rows)))))
  counted =
      let us = map value rows in
      let firsts = distinct same rows in
      let below = distinct-below same_value same value many tells rows within in
      ap (aggregate by.CountDistinct) (at-rows Value.Null vs rows within)
      ∙ ap (λ b. if b then Value.Beyond else Value.Int (pos (length (distinct same_value (filter counts us))))) (none-passes is_beyond value many in-range rows within)
      ∙ ap (λ l. Value.Int (pos (length l)))
      (sym (filter-distinct same_value same_value_tests counts us)
      ∙ ap (filter counts) (distinct-of_images same_value same value many tells rows within)
      ∙ passing-images counts (λ r. keeps (number r)) value many own firsts below)
      ∙ ap (λ n. Value.Int (pos n))
      (length-map (filter (λ r. keeps (number r)) firsts) value
      ∙ sym (length-map (filter (λ r. keeps (number r)) firsts) number)
      ∙ ap length
      (sym (passing-images keeps (λ r. keeps (number r)) number many (λ r h. refl) firsts below)
      ∙ sym (ap (filter keeps) (distinct-of_images nat_eq same number many (λ a b la lb. refl) rows within))))
