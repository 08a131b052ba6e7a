-- The first row of each number, and numbers of rows without columns.
use Rattle.std.proofs.Common.{◌≡◌, ◌≢◌, ℕ, zero, suc, ◌+◌, ◌<◌, ◌≤◌, Bool, true, false, not, ◌||◌, List, [], ◌∷◌, ◌++◌, length, get_or, filter, take, drop, if◌then◌else◌, refl, sym, ap, subst, ◌∙◌, arith, append_assoc, length-append, min, replicate}
use Rattle.std.specs.Prelude.{◌⊎◌, All, nat_eq}
use Rattle.std.specs.Cmp.{unsigned_Decides}
use Rattle.std.specs.List.{list_any}
use Rattle.std.proofs.lemmas.List.{get_or-replicate, get_or_append_left, get_or_at, get_or_push, length-replicate, length_push, take-append-drop, take_all, take_more}
use Rattle.std.proofs.lemmas.List.Elements.{All-from_get_or, All-replicate, filter-append}
use Rattle.std.proofs.lemmas.List.Folds.{list_any-append}
use Rattle.std.proofs.Math.Bool.{or-true}
use Rattle.indexmap.specs.IndexSet.{insert_key}
use Rattle.edm_values.specs.Lists.{distinct, places}
use Rattle.edm_values.proofs.TopPlaces.{length-places}
use Rattle.apply_meaning.proofs.AggregateForms.{distinct-next}
use Rattle.numbered_groups.specs.Found.{AreNumbersBy}
use Rattle.numbered_groups.specs.Levels.{AreFirsts, IsNumberingBy}
use Rattle.numbered_groups.specs.Numbered.{Numbering}
use Rattle.numbered_groups.proofs.IndexLemmas.{either, nat_tests}

-- ---- places

in-places : (m x : ℕ) → x < m → list_any (nat_eq x) (places m) ≡ true
in-places zero x h = absurd (omega arith)
in-places (suc m) x h = list_any-append (nat_eq x) (places m) (m ∷ []) ∙ either cases (λ less. ap (λ b. b || (nat_eq x m || false)) (in-places m x less)) (λ is. ap (λ b. list_any (nat_eq x) (places m) || (b || false)) ((unsigned_Decides x m).1 is) ∙ or-true (list_any (nat_eq x) (places m)))
  where
    cases : (x < m) ⊎ (x ≡ m)
    cases = search arith

differ : (x n : ℕ) → n < x → nat_eq x n ≡ false
differ x n h = go (nat_eq x n) refl
  where
    go : (b : Bool) → nat_eq x n ≡ b → nat_eq x n ≡ false
    go false e = e
    go true e = let is = (unsigned_Decides x n).0 e in absurd (omega (arith, is, h))

out-places : (m x : ℕ) → m ≤ x → list_any (nat_eq x) (places m) ≡ false
out-places zero x h = refl
out-places (suc m) x h =
    list_any-append (nat_eq x) (places m) (m ∷ [])
    ∙ ap (λ b. b || (nat_eq x m || false)) (out-places m x (omega arith))
    ∙ ap (λ b. b || false) (differ x m (omega arith))

place-at : (m i : ℕ) → i < m → get_or (places m) i 0 ≡ i
place-at zero i h = absurd (omega arith)
place-at (suc m) i h = either cases
    (λ less. get_or_append_left (places m) (m ∷ []) 0 i (let e = length-places m in omega (arith, e, less)) ∙ place-at m i less)
    (λ is. get_or_push (places m) m 0 i (length-places m ∙ sym is) ∙ sym is)
  where
    cases : (i < m) ⊎ (i ≡ m)
    cases = search arith

-- ---- the numbers of the first rows

prefix : (xs ys : List ℕ) → (zs : List ℕ) × (distinct nat_eq (xs ++ ys) ≡ distinct nat_eq xs ++ zs)
prefix [] ys = (distinct nat_eq ys, refl)
prefix (x ∷ xs) ys =
    let rest = prefix xs ys in
    (filter (λ y. not (nat_eq x y)) rest.0, ap (λ l. x ∷ l) (ap (filter (λ y. not (nat_eq x y))) rest.1 ∙ filter-append (λ y. not (nat_eq x y)) (distinct nat_eq xs) rest.0))

-- the first r rows have these numbers
pub record AreFirstsTo (numbers firsts : List ℕ) (r : ℕ) : Type 0 where
  pub order : distinct nat_eq (take r numbers) ≡ places (length firsts)
  pub there : (j : ℕ) → j < length firsts → get_or firsts j 0 < r
  pub are : (j : ℕ) → j < length firsts → get_or numbers (get_or firsts j 0) 0 ≡ j

pub firsts-begin : (numbers firsts : List ℕ) → firsts ≡ [] → AreFirstsTo numbers firsts 0
firsts-begin numbers firsts none = subst (λ fs. AreFirstsTo numbers fs 0) (sym none) (record { order = refl; there = λ j h. absurd (omega arith); are = λ j h. absurd (omega arith) })

module _ (numbers : List ℕ) (count m r : ℕ) (order : distinct nat_eq numbers ≡ places count) (within : r < length numbers) (before : distinct nat_eq (take r numbers) ≡ places m) where
  abbrev own : ℕ
  own = get_or numbers r 0

  next : distinct nat_eq (take (r + 1) numbers) ≡ insert_key nat_eq (places m) own
  next = ap (distinct nat_eq) (take_more numbers r 0 within) ∙ distinct-next nat_eq nat_tests (take r numbers) own ∙ ap (λ ds. insert_key nat_eq ds own) before

  -- the number is at most that of the numbers so far
  own-most : own ≤ m
  own-most = either cases (λ le. le) (λ more. absurd (too-much more))
    where
      cases : (own ≤ m) ⊎ (m < own)
      cases = search arith

      too-much : m < own → ⊥
      too-much more =
          let rest = prefix (take (r + 1) numbers) (drop (r + 1) numbers) in
          let behind : distinct nat_eq (take (r + 1) numbers) ≡ places m ++ own ∷ [] = next ∙ ap (λ b. if b then places m else places m ++ own ∷ []) (out-places m own (omega arith)) in
          let all : places count ≡ places m ++ own ∷ rest.0 =
          sym order ∙ ap (distinct nat_eq) (sym (take-append-drop (r + 1) numbers)) ∙ rest.1 ∙ ap (λ l. l ++ rest.0) behind ∙ append_assoc (places m) (own ∷ []) rest.0 in
          let size : count ≡ m + length (own ∷ rest.0) = sym (length-places count) ∙ ap length all ∙ length-append (places m) (own ∷ rest.0) ∙ ap (λ n. n + length (own ∷ rest.0)) (length-places m) in
          let less : m < count = omega (arith, size) in
          let is : m ≡ own = sym (place-at count m less) ∙ ap (λ l. get_or l m 0) all ∙ get_or_at (places m) own rest.0 0 m (length-places m) in
          omega (arith, is, more)

  next-known : own ≢ m → distinct nat_eq (take (r + 1) numbers) ≡ places m
  next-known other =
      let less : own < m = below own-most other in
      next ∙ ap (λ b. if b then places m else places m ++ own ∷ []) (in-places m own less)
    where
      below : own ≤ m → own ≢ m → own < m
      below h k = either cases (λ l. l) (λ e. absurd (k e))
        where
          cases : (own < m) ⊎ (own ≡ m)
          cases = search arith

  next-new : own ≡ m → distinct nat_eq (take (r + 1) numbers) ≡ places (suc m)
  next-new is =
      next ∙ ap (λ b. if b then places m else places m ++ own ∷ []) (out-places m own (omega (arith, is)))
      ∙ ap (λ n. places m ++ n ∷ []) is

-- a row whose number was there
pub firsts-known : (numbers firsts : List ℕ) (count r : ℕ) → distinct nat_eq numbers ≡ places count → r < length numbers → get_or numbers r 0 ≢ length firsts → AreFirstsTo numbers firsts r → AreFirstsTo numbers firsts (r + 1)
firsts-known numbers firsts count r order within other h = record {
  order = next-known numbers count (length firsts) r order within h.order other;
  there = λ j less. let e = h.there j less in omega (arith, e);
  are = h.are;
}

-- the first row of a number
pub firsts-new : (numbers firsts : List ℕ) (count r : ℕ) → distinct nat_eq numbers ≡ places count → r < length numbers → get_or numbers r 0 ≡ length firsts → AreFirstsTo numbers firsts r → AreFirstsTo numbers (firsts ++ r ∷ []) (r + 1)
firsts-new numbers firsts count r order within is h =
    let size : length (firsts ++ r ∷ []) ≡ suc (length firsts) = let e = length_push firsts r in omega (arith, e) in
    record {
      order = next-new numbers count (length firsts) r order within h.order is ∙ ap places (sym size);
      there = λ j less. either (cases j less size)
          (λ old. let e = h.there j old in let f = get_or_append_left firsts (r ∷ []) 0 j old in omega (arith, e, f))
          (λ last. let f = get_or_push firsts r 0 j (sym last) in omega (arith, f));
      are = λ j less. either (cases j less size)
          (λ old. ap (λ k. get_or numbers k 0) (get_or_append_left firsts (r ∷ []) 0 j old) ∙ h.are j old)
          (λ last. ap (λ k. get_or numbers k 0) (get_or_push firsts r 0 j (sym last)) ∙ is ∙ sym last);
    }
  where
    cases : (j : ℕ) → j < length (firsts ++ r ∷ []) → length (firsts ++ r ∷ []) ≡ suc (length firsts) → (j < length firsts) ⊎ (j ≡ length firsts)
    cases j less size = split j (length firsts) (omega (arith, less, size))
      where
        split : (a b : ℕ) → a < suc b → (a < b) ⊎ (a ≡ b)
        split a b h = search arith

places-once : (m n : ℕ) → places m ≡ places n → m ≡ n
places-once m n e = sym (length-places m) ∙ ap length e ∙ length-places n

-- all rows
pub firsts-all : (numbers firsts : List ℕ) (count r : ℕ) → distinct nat_eq numbers ≡ places count → length numbers ≤ r → AreFirstsTo numbers firsts r → r ≤ length numbers → AreFirsts numbers count firsts
firsts-all numbers firsts count r order most h least =
    let size : length firsts ≡ count = places-once (length firsts) count (sym h.order ∙ ap (distinct nat_eq) (take_all r numbers most) ∙ order) in
    record {
      size = size;
      there = λ j less. let e = h.there j (omega (arith, size, less)) in omega (arith, e, least);
      are = λ j less. h.are j (omega (arith, size, less));
    }

-- ---- groups of numbers and first rows

pub numbering-of : (same : ℕ → ℕ → Bool) (rows count : ℕ) (n : Numbering) → AreNumbersBy same rows n.numbers count → AreFirsts n.numbers count n.firsts → IsNumberingBy same rows n
numbering-of same rows count n h f = record {
  numbers_are = subst (AreNumbersBy same rows n.numbers) (sym f.size) h;
  firsts_are = subst (λ k. AreFirsts n.numbers k n.firsts) (sym f.size) f;
}

pub firsts-there : (numbers firsts : List ℕ) (count : ℕ) → AreFirsts numbers count firsts → All (λ f. f < length numbers) firsts
firsts-there numbers firsts count f = All-from_get_or (λ f. f < length numbers) firsts 0 (λ i h. f.there i (let e = f.size in omega (arith, e, h)))

-- ---- no column

zeros : (n : ℕ) → distinct nat_eq (replicate (suc n) 0) ≡ 0 ∷ []
zeros zero = refl
zeros (suc n) = ap (λ ds. 0 ∷ filter (λ y. not (nat_eq 0 y)) ds) (zeros n)

whole-order : (rows : ℕ) → distinct nat_eq (replicate rows 0) ≡ places (min rows 1)
whole-order zero = refl
whole-order (suc n) = zeros n ∙ ap places one
  where
    one : 1 ≡ min (suc n) 1
    one = search arith

whole-there : (rows : ℕ) → All (λ n. n < min rows 1) (replicate rows 0)
whole-there zero = λ i d h. absurd (omega arith)
whole-there (suc n) = All-replicate (λ k. k < min (suc n) 1) (suc n) 0 one
  where
    one : 0 < min (suc n) 1
    one = search arith

pub whole-numbers : (rows count : ℕ) (numbers : List ℕ) → numbers ≡ replicate rows 0 → count ≡ min rows 1 → AreNumbersBy (λ i j. true) rows numbers count
whole-numbers rows count numbers are many = subst (λ ns. AreNumbersBy (λ i j. true) rows ns count) (sym are) (subst (AreNumbersBy (λ i j. true) rows (replicate rows 0)) (sym many) (record {
  size = length-replicate rows 0;
  there = whole-there rows;
  order = whole-order rows;
  told = λ i j li lj. (unsigned_Decides (get_or (replicate rows 0) i 0) (get_or (replicate rows 0) j 0)).1 (get_or-replicate rows i 0 0 li ∙ sym (get_or-replicate rows j 0 0 lj));
}))
