-- What a binary search among names in byte order finds.
use Rattle.std.proofs.Common.{◌≡◌, ℕ, ◌<◌, ◌≤◌, Bool, true, false, not, cond, List, [], ◌∷◌, ◌⊎◌, inl, inr, length, map, get_or, Some, None, Ok, Err, Result, sym, ◌∙◌, ap, subst, arith, ⊎_elim, refl}
use Rattle.std.specs.Prelude.{position, nat_lt}
use Rattle.std.specs.List.{prefix_len}
use Rattle.std.specs.List.Sorted.{IsBinarySearchResult, IsNonDecreasingBy, IsSearchInRange}
use Rattle.std.specs.Cmp.Lexicographic.{slice_cmp}
use Rattle.std.specs.Ordering.{nat_cmp, is_eq, ordering_index}
use Rattle.std.specs.Result.{result_ok}
use Rattle.std.specs.declared.cmp.Ordering.{Ordering}
use Rattle.std.specs.declared.cmp.Ordering.TheVariants.{Less, Equal, Greater}
use Rattle.std.proofs.lemmas.Bool.{cases_lt}
use Rattle.std.proofs.lemmas.Bool.Decides.{nat_tests}
use Rattle.std.proofs.lemmas.Cmp.{nat_list_cmp_total, alike_right}
use Rattle.std.proofs.lemmas.List.{get_or-map, length-map}
use Rattle.std.proofs.lemmas.List.Sums.{prefix_len_is}
use Rattle.std.proofs.lemmas.Map.Keys.{Less-from_sorted}
use Rattle.std.proofs.lemmas.Map.Text.{is_eq-slice_cmp}
use Rattle.edm_values.specs.Lists.{same_text}
use Rattle.edm_schema.specs.NameOrders.{AreOrdered}
use Rattle.edm_schema.proofs.Mapped.{position_mapped}
use Rattle.edm_values.proofs.SearchFacts.{position-absent}

-- a place that passes with none before it is the first
position_at : {X : Type 0} (p : X → Bool) (xs : List X) (i : ℕ) (d : X) → i < length xs → p (get_or xs i d) ≡ true → ((k : ℕ) → k < i → p (get_or xs k d) ≡ false) → position p xs ≡ Some i
position_at p xs i d within here before =
    let first : prefix_len (λ x. not (p x)) xs ≡ i = prefix_len_is (λ x. not (p x)) xs i d (omega arith) (λ k h. ap not (before k h)) (λ _. ap not here) in
    let inside : nat_lt i (length xs) ≡ true = grind (arith, nat_tests) in
    ap (λ n. cond (nat_lt n (length xs)) (Some n) None) first ∙ ap (λ b. cond b (Some i) None) inside

-- names that compare to this are one text, or not
same_by : (x v : List ℕ) (r : Ordering) → slice_cmp nat_cmp x v ≡ r → same_text x v ≡ is_eq r
same_by x v r is = sym (is_eq-slice_cmp x v) ∙ ap is_eq is

-- what stands before a name compares to a text no greater than the name does
below_index : (x y v : List ℕ) → slice_cmp nat_cmp x y ≡ Less → ordering_index (slice_cmp nat_cmp x v) ≤ ordering_index (slice_cmp nat_cmp y v)
below_index x y v less = by (slice_cmp nat_cmp y v) refl
  where
    top : (r : Ordering) → ordering_index r ≤ 2
    top Less = omega arith
    top Equal = omega arith
    top Greater = omega arith

    by : (r : Ordering) → slice_cmp nat_cmp y v ≡ r → ordering_index (slice_cmp nat_cmp x v) ≤ ordering_index r
    by Less is = subst (λ o. ordering_index o ≤ 0) (sym (nat_list_cmp_total.trans x y v less is)) (omega arith)
    by Equal is = subst (λ o. ordering_index o ≤ 1) (sym (sym (alike_right nat_list_cmp_total y v x is) ∙ less)) (omega arith)
    by Greater is = top (slice_cmp nat_cmp x v)

some_item : {X : Type 0} (xs : List X) (i : ℕ) → i < length xs → X
some_item [] i h = absurd (omega arith)
some_item (x ∷ xs) i h = x

module _ {X : Type 0} (name : X → List ℕ) (items : List X) (ordered : AreOrdered (map name items)) (v : List ℕ) where
  abbrev named : ℕ → List ℕ
  named i = get_or (map name items) i []

  within_names : (i : ℕ) → i < length items → i < length (map name items)
  within_names i h = rw (length-map items name) h

  below : (i j : ℕ) → i < j → j < length items → slice_cmp nat_cmp (named i) (named j) ≡ Less
  below i j less within = Less-from_sorted (slice_cmp nat_cmp) (map name items) i j [] ordered less (within_names j within)

  pub named_is : (i : ℕ) (d : X) → i < length items → get_or (map name items) i [] ≡ name (get_or items i d)
  named_is i d within = get_or-map name items i d [] within

  -- the name was met
  pub met : (i : ℕ) (x : List ℕ) → i < length items → named i ≡ x → slice_cmp nat_cmp x v ≡ Equal → position (λ y. same_text (name y) v) items ≡ Some i
  met i x within is equal =
      let here : slice_cmp nat_cmp (named i) v ≡ Equal = ap (λ y. slice_cmp nat_cmp y v) is ∙ equal in
      sym (position_mapped (λ n. same_text n v) name items)
      ∙ position_at (λ n. same_text n v) (map name items) i [] (within_names i within) (same_by (named i) v Equal here)
      (λ k before. same_by (named k) v Less (sym (alike_right nat_list_cmp_total (named i) v (named k) here) ∙ below k i before within))

  -- items in the order of their names compare in that order
  rising : IsNonDecreasingBy (λ y. ordering_index (slice_cmp nat_cmp (name y) v)) items
  rising i j d ordered_ij within = ⊎_elim
      (λ less.
      let first = subst (λ x. slice_cmp nat_cmp x (named j) ≡ Less) (named_is i d (omega arith)) (below i j less within) in
      below_index (name (get_or items i d)) (name (get_or items j d)) v (subst (λ y. slice_cmp nat_cmp (name (get_or items i d)) y ≡ Less) (named_is j d within) first))
      (λ same.
      let e : i ≡ j = omega arith in
      let P : ℕ → Type 0 = λ k. ordering_index (slice_cmp nat_cmp (name (get_or items i d)) v) ≤ ordering_index (slice_cmp nat_cmp (name (get_or items k d)) v) in
      subst P e (omega arith))
      (cases_lt i j)

  none_named : (k : ℕ) (d : X) → k < length items → slice_cmp nat_cmp (name (get_or items k d)) v ≡ Less ⊎ slice_cmp nat_cmp (name (get_or items k d)) v ≡ Greater → same_text (named k) v ≡ false
  none_named k d within (inl less) = same_by (named k) v Less (ap (λ x. slice_cmp nat_cmp x v) (named_is k d within) ∙ less)
  none_named k d within (inr greater) = same_by (named k) v Greater (ap (λ x. slice_cmp nat_cmp x v) (named_is k d within) ∙ greater)

  -- a binary search by name finds what a search from the front does
  pub searched : (r : Result ℕ ℕ) → IsSearchInRange r (length items) → IsBinarySearchResult (λ y. slice_cmp nat_cmp (name y) v) items r → result_ok r ≡ position (λ y. same_text (name y) v) items
  searched (Ok i) within found =
      let d = some_item items i within in
      sym (met i (name (get_or items i d)) within (named_is i d within) (found d))
  searched (Err i) within found =
      let sides = found rising in
      sym (sym (position_mapped (λ n. same_text n v) name items)
      ∙ position-absent (λ n. same_text n v) (map name items) [] (λ k there.
      let here : k < length items = omega (arith, length-map items name) in
      let d = some_item items k here in
      none_named k d here (⊎_elim (λ before. inl (sides.0 k d (omega arith) before)) (λ after. inr (sides.1 k d after here)) (cases_lt k i))))
