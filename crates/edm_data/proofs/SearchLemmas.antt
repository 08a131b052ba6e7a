-- What a binary search among the places of keys finds.
use Rattle.std.proofs.Common.{◌≡◌, ℕ, ◌+◌, ◌<◌, ◌≤◌, Bool, List, length, map, get_or, refl, sym, ◌∙◌, ap, arith, cond, [], ◌∷◌, ⊎_elim, Some, None}
use Rattle.std.specs.declared.option.Option.{Option}
use Rattle.std.specs.Option.{option_map}
use Rattle.std.proofs.lemmas.Simd.{map-map}
use Rattle.std.specs.declared.cmp.Ordering.{Ordering}
use Rattle.std.specs.declared.cmp.Ordering.TheVariants.{Less, Equal, Greater}
use Rattle.std.specs.Cmp.{IsTotalOrder, eq_by_cmp_equiv}
use Rattle.std.specs.List.{position, slice_get}
use Rattle.std.specs.List.Sorted.{IsStrictlySortedBy}
use Rattle.std.specs.Map.{lookup, keys_of}
use Rattle.std.specs.Ordering.{is_eq, ordering_reverse}
use Rattle.std.proofs.lemmas.List.{get_or-map, length-map}
use Rattle.std.proofs.lemmas.Bool.{cases_lt}
use Rattle.std.proofs.lemmas.Map.Keys.{Less-from_sorted, IsDistinct-from_sorted}
use Rattle.std.proofs.lemmas.Map.Entries.{lookup_from_place, lookup_at_gap}
use Rattle.std.proofs.lemmas.Option.{slice_get-map, slice_get-get_or, slice_get_within}
use Rattle.edm_data.specs.KeyOrders.{IsKeyOrder, keyed}

lookup-cong : {K X : Type 0} (p q : K → Bool) → ((x : K) → p x ≡ q x) → (es : List (K × X)) → lookup p es ≡ lookup q es
lookup-cong p q same [] = refl
lookup-cong p q same (e ∷ es) = rw (same e.0) (ap (cond (q e.0) (Some e.1)) (lookup-cong p q same es))

Some-inside : {X : Type 0} (x y : X) (o : Option X) → o ≡ Some x → o ≡ Some y → x ≡ y
Some-inside x y o p q = cc

module _ {K : Type 0} {R : K → K → Ordering} (o : IsTotalOrder R) (d : K) (keys : List K) (order : List ℕ) (sorted : IsKeyOrder R keys order) (v : K) where
  keys_are : keys_of (keyed d keys order) ≡ map (λ p. get_or keys p d) order
  keys_are = map-map (λ e. e.0) (λ p. (get_or keys p d, p)) order

  rises : IsStrictlySortedBy R (keys_of (keyed d keys order))
  rises = rw keys_are (sorted.rises d)

  entry : (i : ℕ) → i < length order → slice_get (keyed d keys order) i ≡ Some (get_or keys (get_or order i 0) d, get_or order i 0)
  entry i within = slice_get-map (λ p. (get_or keys p d, p)) order i ∙ ap (option_map (λ p. (get_or keys p d, p))) (slice_get-get_or order i 0 within)

  -- a key was met
  pub searched-found : (i : ℕ) → i < length order → R (get_or keys (get_or order i 0) d) v ≡ Equal → position (λ x. is_eq (R v x)) keys ≡ Some (get_or order i 0)
  searched-found i within met =
      let k = get_or keys (get_or order i 0) d in
      sym (sorted.finds d v)
      ∙ lookup-cong (λ x. is_eq (R v x)) (λ x. is_eq (R k x)) (λ x. ap is_eq (sym (o.congr k v x met))) (keyed d keys order)
      ∙ lookup_from_place (eq_by_cmp_equiv o) (keyed d keys order) i k (get_or order i 0) (IsDistinct-from_sorted R (keys_of (keyed d keys order)) rises) (entry i within)

  -- of two keys in order the first is below the second
  below : (i j : ℕ) → i < j → j < length order → R (get_or keys (get_or order i 0) d) (get_or keys (get_or order j 0) d) ≡ Less
  below i j less within =
      let first = get_or-map (λ p. get_or keys p d) order i 0 d (omega arith) in
      let second = get_or-map (λ p. get_or keys p d) order j 0 d within in
      rw (first, second) at (Less-from_sorted R (map (λ p. get_or keys p d) order) i j d (sorted.rises d) less (rw (length-map order (λ p. get_or keys p d)) within))

-- the keys before `low` are below v, and those from `high` on above it
pub record IsNarrowed {K : Type 0} (R : K → K → Ordering) (d : K) (keys : List K) (order : List ℕ) (v : K) (low high : ℕ) : Type 0 where
  pub left : (i : ℕ) → i < low → R (get_or keys (get_or order i 0) d) v ≡ Less
  pub right : (i : ℕ) → high ≤ i → i < length order → R (get_or keys (get_or order i 0) d) v ≡ Greater

flipped : {K : Type 0} {R : K → K → Ordering} (o : IsTotalOrder R) (x y : K) (r : Ordering) → R x y ≡ r → R y x ≡ ordering_reverse r
flipped o x y r is = o.antisymm y x ∙ ap ordering_reverse is

module _ {K : Type 0} {R : K → K → Ordering} (o : IsTotalOrder R) (d : K) (keys : List K) (order : List ℕ) (sorted : IsKeyOrder R keys order) (v : K) (low high : ℕ) (narrowed : IsNarrowed R d keys order v low high) where
  -- the key in the middle is below v
  pub IsNarrowed-right : (middle : ℕ) → middle < length order → R (get_or keys (get_or order middle 0) d) v ≡ Less → IsNarrowed R d keys order v (middle + 1) high
  IsNarrowed-right middle within less = record {
    left = λ i h. ⊎_elim
        (λ before. o.trans (get_or keys (get_or order i 0) d) (get_or keys (get_or order middle 0) d) v (below o d keys order sorted v i middle before within) less)
        (λ after. let same : middle ≡ i = omega arith in rw same at less)
        (cases_lt i middle);
    right = narrowed.right;
  }

  -- the key in the middle is above v
  pub IsNarrowed-left : (middle : ℕ) → middle < length order → R (get_or keys (get_or order middle 0) d) v ≡ Greater → IsNarrowed R d keys order v low middle
  IsNarrowed-left middle within greater = record {
    left = narrowed.left;
    right = λ i h inside. ⊎_elim
        (λ after. flipped o v (get_or keys (get_or order i 0) d) Less (o.trans v (get_or keys (get_or order middle 0) d) (get_or keys (get_or order i 0) d) (flipped o (get_or keys (get_or order middle 0) d) v Greater greater) (below o d keys order sorted v middle i after inside)))
        (λ before. let same : middle ≡ i = omega arith in rw same at greater)
        (cases_lt middle i);
  }

  -- no key is left
  pub IsNarrowed-none : high ≤ low → position (λ x. is_eq (R v x)) keys ≡ None
  IsNarrowed-none crossed =
      let size : length (keyed d keys order) ≡ length order = length-map order (λ p. (get_or keys p d, p)) in
      sym (sorted.finds d v) ∙ lookup_at_gap o v (keyed d keys order) low (rises o d keys order sorted v)
      (λ j e before there.
      let within : j < length order = rw size at (slice_get_within (keyed d keys order) j e there) in
      let same = Some-inside _ _ (slice_get (keyed d keys order) j) there (entry o d keys order sorted v j within) in
      ap (R v) (ap (λ x. x.0) same) ∙ flipped o (get_or keys (get_or order j 0) d) v Less (narrowed.left j before))
      (λ e there.
      let within : low < length order = rw size at (slice_get_within (keyed d keys order) low e there) in
      let same = Some-inside _ _ (slice_get (keyed d keys order) low) there (entry o d keys order sorted v low within) in
      ap (R v) (ap (λ x. x.0) same) ∙ flipped o (get_or keys (get_or order low 0) d) v Greater (narrowed.right low crossed within))
