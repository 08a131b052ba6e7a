-- Keys that rise are in the order of their places.
use Rattle.std.proofs.Common.{◌≡◌, ℕ, zero, suc, ◌+◌, ◌-◌, ◌<◌, ◌≤◌, Bool, true, false, cond, List, [], ◌∷◌, ◌++◌, length, take, map, get_or, length-take, refl, sym, ◌∙◌, ap, arith, Some, None}
use Rattle.std.specs.declared.option.Option.{Option}
use Rattle.std.specs.declared.cmp.Ordering.{Ordering}
use Rattle.std.specs.declared.cmp.Ordering.TheVariants.{Less, Equal, Greater}
use Rattle.std.specs.List.{list_any, position, slice_get, AllByRecursion}
use Rattle.std.specs.List.Sorted.{IsStrictlySortedBy}
use Rattle.std.specs.Map.{lookup}
use Rattle.std.specs.Cmp.{IsTotalOrder}
use Rattle.std.specs.Ordering.{is_eq, is_lt, ordering_reverse}
use Rattle.std.proofs.lemmas.List.{map-append, take_more, take_all, get_or-take}
use Rattle.std.proofs.lemmas.Map.Keys.{Less-from_sorted}
use Rattle.std.proofs.lemmas.Option.{slice_get_within, get_or_from_slice_get}
use Rattle.edm_values.specs.Lists.{places, first_some, is_some_and}
use Rattle.edm_data.specs.KeyOrders.{AreDistinct, IsKeyOrder, keyed}
use Rattle.edm_data.proofs.KeyOrderLemmas.{position-push}
use Rattle.edm_data.proofs.TextLemmas.{all_push}

-- ---- one key more

all_last : {X : Type 0} (P : X → Type 0) (xs : List X) (x : X) → AllByRecursion P (xs ++ x ∷ []) → P x
all_last P [] x all = all.0
all_last P (y ∷ xs) x all = all_last P xs x all.1

sorted_push : {K : Type 0} {R : K → K → Ordering} (o : IsTotalOrder R) (xs : List K) (x y : K) → IsStrictlySortedBy R (xs ++ x ∷ []) → R x y ≡ Less → IsStrictlySortedBy R ((xs ++ x ∷ []) ++ y ∷ [])
unfolding IsStrictlySortedBy
sorted_push o [] x y sorted less = ((less, tt), (tt, tt))
sorted_push {R = R} o (z ∷ xs) x y sorted less =
    let last : R z x ≡ Less = all_last (λ k. R z k ≡ Less) xs x sorted.0 in
    (all_push (λ k. R z k ≡ Less) (xs ++ x ∷ []) y sorted.0 (o.trans z x y last less), sorted_push o xs x y sorted.1 less)

pub rise-one : {K : Type 0} (R : K → K → Ordering) (xs : List K) → IsStrictlySortedBy R (take 1 xs)
unfolding IsStrictlySortedBy
rise-one R [] = tt
rise-one R (x ∷ xs) = (tt, tt)

pub rise-more : {K : Type 0} {R : K → K → Ordering} (o : IsTotalOrder R) (xs : List K) (k : ℕ) (d e : K) → 1 ≤ k → k < length xs → R (get_or xs (k - 1) d) (get_or xs k e) ≡ Less → IsStrictlySortedBy R (take k xs) → IsStrictlySortedBy R (take (k + 1) xs)
rise-more {R = R} o xs k d e positive within less sorted =
    let is : k ≡ (k - 1) + 1 = omega arith in
    let front : take k xs ≡ take (k - 1) xs ++ get_or xs (k - 1) d ∷ [] = ap (λ n. take n xs) is ∙ take_more xs (k - 1) d (omega arith) in
    let all : take (k + 1) xs ≡ (take (k - 1) xs ++ get_or xs (k - 1) d ∷ []) ++ get_or xs k e ∷ [] = take_more xs k e within ∙ ap (λ l. l ++ get_or xs k e ∷ []) front in
    rw all (sorted_push o (take (k - 1) xs) (get_or xs (k - 1) d) (get_or xs k e) (rw front at sorted) less)

-- ---- the order of their places

front_places : {K : Type 0} (d : K) (keys : List K) (n : ℕ) → n ≤ length keys → map (λ p. get_or keys p d) (places n) ≡ take n keys
front_places d keys zero h = refl
front_places d keys (suc n) h =
    let more : n + 1 ≡ suc n = omega arith in
    map-append (λ p. get_or keys p d) (places n) (n ∷ []) ∙ ap (λ l. l ++ get_or keys n d ∷ []) (front_places d keys n (omega arith)) ∙ sym (take_more keys n d (omega arith)) ∙ ap (λ m. take m keys) more

lookup-push : {K X : Type 0} (p : K → Bool) (es : List (K × X)) (k : K) (x : X) → lookup p (es ++ (k, x) ∷ []) ≡ first_some (lookup p es) (cond (p k) (Some x) None)
lookup-push p [] k x = refl
lookup-push p (e ∷ es) k x = elim (p e.0) as (λ b. cond b (Some e.1) (lookup p (es ++ (k, x) ∷ [])) ≡ first_some (cond b (Some e.1) (lookup p es)) (cond (p k) (Some x) None)) [ true ↦ refl | false ↦ lookup-push p es k x ]

front_lookup : {K : Type 0} (p : K → Bool) (d : K) (keys : List K) (n : ℕ) → n ≤ length keys → lookup p (keyed d keys (places n)) ≡ position p (take n keys)
front_lookup p d keys zero h = refl
front_lookup p d keys (suc n) h =
    let more : n + 1 ≡ suc n = omega arith in
    let size : length (take n keys) ≡ n = simp length-take (omega arith) in
    let k = get_or keys n d in
    ap (lookup p) (map-append (λ q. (get_or keys q d, q)) (places n) (n ∷ []))
    ∙ lookup-push p (keyed d keys (places n)) k n
    ∙ ap (λ o. first_some o (cond (p k) (Some n) None)) (front_lookup p d keys n (omega arith))
    ∙ ap (λ m. first_some (position p (take n keys)) (cond (p k) (Some m) None)) (sym size)
    ∙ sym (position-push p (take n keys) k)
    ∙ ap (position p) (sym (take_more keys n d (omega arith)) ∙ ap (λ m. take m keys) more)

pub IsKeyOrder-rising : {K : Type 0} (R : K → K → Ordering) (keys : List K) (order : List ℕ) → IsStrictlySortedBy R keys → order ≡ places (length keys) → IsKeyOrder R keys order
IsKeyOrder-rising R keys order sorted is =
    let all : take (length keys) keys ≡ keys = take_all (length keys) keys (omega arith) in
    record {
      rises = λ d. rw (is, front_places d keys (length keys) (omega arith), all) sorted;
      finds = λ d q. rw is (front_lookup (λ x. is_eq (R q x)) d keys (length keys) (omega arith) ∙ ap (position (λ x. is_eq (R q x))) all);
    }

none_any : {X : Type 0} (p : X → Bool) (xs : List X) (d : X) → ((i : ℕ) → i < length xs → p (get_or xs i d) ≡ false) → list_any p xs ≡ false
none_any p [] d none = refl
none_any p (x ∷ xs) d none = rw (none 0 (omega arith), none_any p xs d (λ i h. none (suc i) (omega (arith, h)))) refl

apart : {K : Type 0} {R : K → K → Ordering} (o : IsTotalOrder R) (x y : K) → R y x ≡ Less → is_eq (R x y) ≡ false
apart o x y less = ap is_eq (o.antisymm x y ∙ ap ordering_reverse less)

pub AreDistinct-rising : {K : Type 0} {R : K → K → Ordering} (o : IsTotalOrder R) (keys : List K) → IsStrictlySortedBy R keys → AreDistinct R keys
AreDistinct-rising {K = K} {R = R} o keys sorted k = inside (slice_get keys k) refl where
  inside : (x : Option K) → slice_get keys k ≡ x → is_some_and (λ y. list_any (λ z. is_eq (R y z)) (take k keys)) x ≡ false
  inside None at = refl
  inside (Some x) at =
      let within : k < length keys = slice_get_within keys k x at in
      let here : get_or keys k x ≡ x = get_or_from_slice_get keys k x x at in
      none_any (λ z. is_eq (R x z)) (take k keys) x (λ i less.
      let size : length (take k keys) ≡ k = simp length-take (omega arith) in
      let before : i < k = omega (arith, less, size) in
      let item : get_or (take k keys) i x ≡ get_or keys i x = get_or-take k keys i x before in
      apart o x (get_or (take k keys) i x) (ap (λ y. R y x) item ∙ ap (R (get_or keys i x)) (sym here) ∙ Less-from_sorted R keys i k x sorted before within))

pub less_from : (r : Ordering) → is_lt r ≡ true → r ≡ Less
less_from Less h = refl
less_from Equal h = cc
less_from Greater h = cc
