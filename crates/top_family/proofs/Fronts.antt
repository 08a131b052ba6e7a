-- The shortest front of a list that passes, found from the front, and sums along places.
use Rattle.std.proofs.Common.{◌≡◌, ℕ, zero, suc, ◌+◌, ◌<◌, ◌≤◌, Bool, true, false, cond, List, [], ◌∷◌, ◌++◌, map, take, length, get_or, ℤ, pos, ◌+ℤ◌, Option, Some, None, refl, ap, sym, ◌∙◌, arith, add-one}
use Rattle.std.specs.Prelude.{find, nat_le, slice_get, unwrap_or}
use Rattle.std.specs.Option.{option_or}
use Rattle.std.specs.List.{cons_option}
use Rattle.std.proofs.lemmas.Bool.{leb-true, leb-false}
use Rattle.std.proofs.lemmas.Int.{ints}
use Rattle.std.proofs.lemmas.List.{append-nil, map-append, take_all, take_more}
use Rattle.std.proofs.lemmas.List.Elements.{filter_map-append}
use Rattle.std.proofs.lemmas.List.Folds.{find-append}
use Rattle.edm_values.specs.declared.Value.{Value}
use Rattle.edm_values.specs.Lists.{at_places, places, shortest_prefix}
use Rattle.edm_values.specs.Values.{number_part, value_in}
use Rattle.top_family.specs.Thresholds.{mantissas}
use Rattle.top_family.proofs.Totals.{mantissas-more}

-- ---- fronts

module _ {X : Type 0} (test : List X → Bool) (xs : List X) where
  -- what is found among the fronts of fewer than n
  abbrev pub found_below : ℕ → Option (List X)
  found_below n = find test (map (λ k. take k xs) (places n))

  next : (n : ℕ) → found_below (suc n) ≡ option_or (found_below n) (cond (test (take n xs)) (Some (take n xs)) None)
  next n = ap (find test) (map-append (λ k. take k xs) (places n) (n ∷ [])) ∙ find-append test (map (λ k. take k xs) (places n)) (take n xs ∷ [])

  -- a front more that fails
  pub none-more : (n : ℕ) → found_below n ≡ None → test (take n xs) ≡ false → found_below (n + 1) ≡ None
  none-more n e h = ap found_below (add-one n) ∙ next n ∙ (λ i. option_or (e i) (cond (h i) (Some (take n xs)) None))

  kept : (y : List X) (m n : ℕ) → n ≤ m → found_below n ≡ Some y → found_below m ≡ Some y
  kept y zero n l e = let same : n ≡ 0 = omega arith in ap found_below (sym same) ∙ e
  kept y (suc m) n l e = go (nat_le n m) refl (λ le. kept y m n le e)
    where
      go : (b : Bool) → nat_le n m ≡ b → (n ≤ m → found_below m ≡ Some y) → found_below (suc m) ≡ Some y
      go true h f = let le = leb-true n m h in next m ∙ ap (λ o. option_or o (cond (test (take m xs)) (Some (take m xs)) None)) (f le)
      go false h f = let less = leb-false n m h in let same : n ≡ suc m = omega arith in ap found_below (sym same) ∙ e

  -- the first that passes
  pub first-front : (n : ℕ) → n < length xs → found_below n ≡ None → test (take n xs) ≡ true → take n xs ≡ shortest_prefix test xs
  first-front n l e h =
      let here : found_below (suc n) ≡ Some (take n xs) = next n ∙ (λ i. option_or (e i) (cond (h i) (Some (take n xs)) None)) in
      sym (ap (λ o. unwrap_or o xs) (kept (take n xs) (length xs + 1) (suc n) (omega arith) here))

  -- all where no shorter one passes
  pub whole-front : (n : ℕ) → length xs ≤ n → n ≤ length xs → found_below n ≡ None → take (length xs) xs ≡ shortest_prefix test xs
  whole-front n l m e =
      let same : length xs ≡ n = omega arith in
      let all = take_all (length xs) xs (omega arith) in
      sym (
      ap (λ k. unwrap_or (found_below k) xs) (add-one (length xs)) ∙ ap (λ o. unwrap_or o xs) (next (length xs))
      ∙ ap (λ o. unwrap_or (option_or o (cond (test (take (length xs) xs)) (Some (take (length xs) xs)) None)) xs) (ap found_below same ∙ e)
      ∙ either (test (take (length xs) xs)) all)
    where
      either : (b : Bool) → take (length xs) xs ≡ xs → unwrap_or (cond b (Some (take (length xs) xs)) None) xs ≡ take (length xs) xs
      either true a = refl
      either false a = sym a

-- ---- sums along places

option-more : (us : List Value) (o : Option Value) → mantissas (us ++ cons_option o []) ≡ mantissas us +ℤ (number_part (unwrap_or o Value.Null)).0
option-more us None = ap mantissas (append-nil us) ∙ nothing (mantissas us)
  where
    nothing : (a : ℤ) → a ≡ a +ℤ pos 0
    nothing a = omega (arith, ints)
option-more us (Some v) = mantissas-more us v

-- the mantissas at one place more
pub place-more : (vs : List Value) (ks : List ℕ) (k d : ℕ) → k < length ks → mantissas (at_places vs (take (k + 1) ks)) ≡ mantissas (at_places vs (take k ks)) +ℤ (number_part (value_in vs (get_or ks k d))).0
place-more vs ks k d h =
    ap (λ js. mantissas (at_places vs js)) (take_more ks k d h) ∙ ap mantissas (filter_map-append (slice_get vs) (take k ks) (get_or ks k d ∷ []))
    ∙ option-more (at_places vs (take k ks)) (slice_get vs (get_or ks k d))
