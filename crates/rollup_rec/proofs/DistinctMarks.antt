-- Distinct numbers that are found by marks: the numbers of a list that have been met have the list's stamp.
use Rattle.std.proofs.Common.{◌≡◌, ◌≢◌, ℕ, ◌+◌, ◌<◌, ◌≤◌, Bool, true, false, cond, not, ◌||◌, List, [], ◌∷◌, ◌++◌, length, length-append, get_or, set, filter, if◌then◌else◌, refl, sym, ◌∙◌, ap, subst, arith, ⊎_elim, get_or-set_same, get_or-set_other, append-nil}
use Rattle.std.specs.Prelude.{All, nat_eq}
use Rattle.std.specs.Cmp.{unsigned_Decides}
use Rattle.std.specs.List.{list_any}
use Rattle.std.proofs.lemmas.Bool.{cases_eq}
use Rattle.std.proofs.lemmas.List.{length-set}
use Rattle.std.proofs.lemmas.List.Elements.{filter-append}
use Rattle.std.proofs.lemmas.List.Folds.{list_any-append}
use Rattle.edm_values.specs.Lists.{distinct}
use Rattle.edm_values.proofs.Reorderings.{TestsEquality}
use Rattle.apply_meaning.proofs.AggregateForms.{distinct-next}

-- a number more, where it is not there
abbrev with_number : List ℕ → ℕ → List ℕ
with_number ks y = if list_any (nat_eq y) ks then ks else ks ++ y ∷ []

nat_tests_equality : TestsEquality nat_eq
nat_tests_equality = record {
  itself = λ x. (unsigned_Decides x x).1 refl;
  same = λ x y. (unsigned_Decides x y).0;
}

-- of the numbers that have been met, those that count are so many
pub record IsMarked (nulls : List Bool) (stamp : ℕ) (ks marks : List ℕ) (found : ℕ) : Type 0 where
  pub size : length marks ≡ length nulls
  pub most : All (λ m. m ≤ stamp) marks
  pub met : (k : ℕ) → k < length marks → nat_eq (get_or marks k 0) stamp ≡ list_any (nat_eq k) (distinct nat_eq ks)
  pub are : found ≡ length (filter (λ k. not (get_or nulls k false)) (distinct nat_eq ks))

apart : (x y : ℕ) → x ≢ y → nat_eq x y ≡ false
apart x y ne = go (nat_eq x y) refl
  where
    go : (b : Bool) → nat_eq x y ≡ b → nat_eq x y ≡ false
    go true e = absurd (ne ((unsigned_Decides x y).0 e))
    go false e = e

pub marked-none : (nulls : List Bool) (stamp : ℕ) (marks : List ℕ) → length marks ≡ length nulls → All (λ m. m < stamp) marks → IsMarked nulls stamp [] marks 0
marked-none nulls stamp marks size fresh = record {
  size = size;
  most = λ k d h. let f = fresh k d h in omega (arith, f);
  met = λ k h. apart (get_or marks k 0) stamp (λ e. let f = fresh k 0 h in absurd (omega (arith, f, e)));
  are = refl;
}

or-false : (b : Bool) → (b || false) ≡ b
or-false true = refl
or-false false = refl

-- what is found among the numbers with one more
any-more : (z y : ℕ) (ks : List ℕ) → list_any (nat_eq z) (with_number ks y) ≡ (list_any (nat_eq z) ks || nat_eq z y)
any-more z y ks = go (list_any (nat_eq y) ks) refl
  where
    all : list_any (nat_eq z) (ks ++ y ∷ []) ≡ (list_any (nat_eq z) ks || nat_eq z y)
    all = list_any-append (nat_eq z) ks (y ∷ []) ∙ ap (λ b. list_any (nat_eq z) ks || b) (or-false (nat_eq z y))

    there : (b : Bool) → nat_eq z y ≡ b → list_any (nat_eq y) ks ≡ true → list_any (nat_eq z) ks ≡ (list_any (nat_eq z) ks || b)
    there false e h = sym (or-false (list_any (nat_eq z) ks))
    there true e h =
        let one : list_any (nat_eq z) ks ≡ true = ap (λ w. list_any (nat_eq w) ks) ((unsigned_Decides z y).0 e) ∙ h in
        one ∙ sym (ap (λ b. b || true) one)

    go : (b : Bool) → list_any (nat_eq y) ks ≡ b → list_any (nat_eq z) (if b then ks else ks ++ y ∷ []) ≡ (list_any (nat_eq z) ks || nat_eq z y)
    go true h = there (nat_eq z y) refl h
    go false h = all

module _ (nulls : List Bool) (stamp : ℕ) (ks marks : List ℕ) (found y : ℕ) (so : IsMarked nulls stamp ks marks found) (within : y < length marks) where
  abbrev counts : ℕ → Bool
  counts k = not (get_or nulls k false)

  more : distinct nat_eq (ks ++ y ∷ []) ≡ with_number (distinct nat_eq ks) y
  more = distinct-next nat_eq nat_tests_equality ks y

  met-more : (k : ℕ) → k < length (set marks y stamp) → nat_eq (get_or (set marks y stamp) k 0) stamp ≡ list_any (nat_eq k) (distinct nat_eq (ks ++ y ∷ []))
  met-more k h =
      let long = length-set marks y stamp in
      let hk : k < length marks = omega (arith, h, long) in
      ⊎_elim
      (λ (e : k ≡ y).
      (λ i. nat_eq (get_or (set marks y stamp) (e i) 0) stamp) ∙ ap (λ m. nat_eq m stamp) (get_or-set_same marks y stamp 0 within) ∙ (unsigned_Decides stamp stamp).1 refl
      ∙ sym (ap (list_any (nat_eq k)) more ∙ any-more k y (distinct nat_eq ks) ∙ ap (λ b. list_any (nat_eq k) (distinct nat_eq ks) || b) ((unsigned_Decides k y).1 e) ∙ or-true (list_any (nat_eq k) (distinct nat_eq ks))))
      (λ (ne : k ≢ y).
      ap (λ m. nat_eq m stamp) (get_or-set_other marks y k stamp 0 ne)
      ∙ so.met k hk
      ∙ sym (ap (list_any (nat_eq k)) more ∙ any-more k y (distinct nat_eq ks) ∙ ap (λ b. list_any (nat_eq k) (distinct nat_eq ks) || b) (apart k y ne) ∙ or-false (list_any (nat_eq k) (distinct nat_eq ks))))
      (cases_eq k y)
    where
      or-true : (b : Bool) → (b || true) ≡ true
      or-true true = refl
      or-true false = refl

  most-more : All (λ m. m ≤ stamp) (set marks y stamp)
  most-more k d h =
      let long = length-set marks y stamp in
      let hk : k < length marks = omega (arith, h, long) in
      ⊎_elim
      (λ (e : k ≡ y). let r : get_or (set marks y stamp) k d ≡ stamp = ap (λ j. get_or (set marks y stamp) j d) e ∙ get_or-set_same marks y stamp d within in omega (arith, r))
      (λ (ne : k ≢ y). let r = get_or-set_other marks y k stamp d ne in let m = so.most k d hk in omega (arith, r, m))
      (cases_eq k y)

  -- a number more that is met first, and counts
  marked-first : nat_eq (get_or marks y 0) stamp ≡ false → get_or nulls y false ≡ false → IsMarked nulls stamp (ks ++ y ∷ []) (set marks y stamp) (found + 1)
  marked-first new own =
      let d = distinct nat_eq ks in
      let grown : distinct nat_eq (ks ++ y ∷ []) ≡ d ++ y ∷ [] = more ∙ ap (λ b. if b then d else d ++ y ∷ []) (sym (so.met y within) ∙ new) in
      let kept : filter counts (d ++ y ∷ []) ≡ filter counts d ++ y ∷ [] = filter-append counts d (y ∷ []) ∙ ap (λ b. filter counts d ++ cond (not b) (y ∷ []) []) own in
      record {
        size = length-set marks y stamp ∙ so.size;
        most = most-more;
        met = met-more;
        are = ap (λ n. n + 1) so.are ∙ sym (ap length (ap (filter counts) grown ∙ kept) ∙ length-append (filter counts d) (y ∷ []));
      }

  -- a number more that is met again, or is that of nulls
  marked-again : (nat_eq (get_or marks y 0) stamp || get_or nulls y false) ≡ true → IsMarked nulls stamp (ks ++ y ∷ []) (set marks y stamp) found
  marked-again old = record {
    size = length-set marks y stamp ∙ so.size;
    most = most-more;
    met = met-more;
    are = so.are ∙ ap length (sym (kept-same (nat_eq (get_or marks y 0) stamp) (get_or nulls y false) refl refl old));
  }
    where
      d : List ℕ
      d = distinct nat_eq ks

      kept-same : (b c : Bool) → nat_eq (get_or marks y 0) stamp ≡ b → get_or nulls y false ≡ c → (b || c) ≡ true → filter counts (distinct nat_eq (ks ++ y ∷ [])) ≡ filter counts d
      kept-same true c e f h = ap (filter counts) (more ∙ ap (λ b. if b then d else d ++ y ∷ []) (sym (so.met y within) ∙ e))
      kept-same false true e f h =
          ap (filter counts) (more ∙ ap (λ b. if b then d else d ++ y ∷ []) (sym (so.met y within) ∙ e))
          ∙ filter-append counts d (y ∷ []) ∙ ap (λ b. filter counts d ++ cond (not b) (y ∷ []) []) f ∙ append-nil (filter counts d)
      kept-same false false e f h = cc

  -- a number more
  pub marked-next : (marks' : List ℕ) (found' : ℕ) (again : Bool) → again ≡ nat_eq (get_or marks y 0) stamp → marks' ≡ set marks y stamp → found' ≡ found + (if again || get_or nulls y false then 0 else 1)
      → IsMarked nulls stamp (ks ++ y ∷ []) marks' found'
  marked-next marks' found' again is set-is grown = go again (get_or nulls y false) (sym is) refl grown
    where
      keep : (n : ℕ) → n ≡ found' → IsMarked nulls stamp (ks ++ y ∷ []) (set marks y stamp) n → IsMarked nulls stamp (ks ++ y ∷ []) marks' found'
      keep n e h = subst (λ ms. IsMarked nulls stamp (ks ++ y ∷ []) ms found') (sym set-is) (subst (IsMarked nulls stamp (ks ++ y ∷ []) (set marks y stamp)) e h)

      go : (b c : Bool) → nat_eq (get_or marks y 0) stamp ≡ b → get_or nulls y false ≡ c → found' ≡ found + (if b || c then 0 else 1) → IsMarked nulls stamp (ks ++ y ∷ []) marks' found'
      go true c e f g = keep found (omega (arith, g)) (marked-again (ap (λ b. b || get_or nulls y false) e))
      go false true e f g = keep found (omega (arith, g)) (marked-again ((λ i. e i || f i)))
      go false false e f g = keep (found + 1) (sym g) (marked-first e f)

-- there are no more than numbers
pub more-at_most : (b : Bool) (found n : ℕ) → found ≤ n → found + (if b then 0 else 1) ≤ n + 1
more-at_most true found n h = omega (arith, h)
more-at_most false found n h = omega (arith, h)
