-- Lists whose elements pass a test.
use Rattle.std.proofs.Common.{◌≡◌, ℕ, zero, suc, ◌+◌, ◌==◌, Bool, true, false, List, [], ◌∷◌, cond, Some, refl, sym, ◌∙◌, ap, subst, arith}
use Rattle.std.specs.Prelude.{slice_get, filter, find, position, count_by}
use Rattle.std.specs.List.{list_all, position_from}
use Rattle.std.proofs.lemmas.Bool.Decides.{nat_tests}
use Rattle.std.proofs.lemmas.Iterator.Adapters.{position_from-zero}
use Rattle.std.proofs.lemmas.List.Sums.{sum_by-cons}
use Rattle.std.proofs.lemmas.Option.{none-some, same_Some}
use Rattle.edm_values.proofs.EachLemmas.{and-left, and-right}

-- ---- elements of lists that pass

pub filter_get : {X : Type 0} (p q : X → Bool) (xs : List X) (i : ℕ) (x : X) → list_all p xs ≡ true → slice_get (filter q xs) i ≡ Some x → (p x ≡ true) × (q x ≡ true)
filter_get p q [] i x h g = absurd (none-some x g)
filter_get p q (y ∷ xs) zero x h g =
    elim (q y) as (λ b. q y ≡ b → slice_get (cond b (y ∷ filter q xs) (filter q xs)) 0 ≡ Some x → (p x ≡ true) × (q x ≡ true)) [
      | true ↦ λ e f. subst (λ z. (p z ≡ true) × (q z ≡ true)) (same_Some y x f) (and-left (p y) (list_all p xs) h, e)
      | false ↦ λ e f. filter_get p q xs zero x (and-right (p y) (list_all p xs) h) f
    ] refl g
filter_get p q (y ∷ xs) (suc i) x h g =
    elim (q y) as (λ b. slice_get (cond b (y ∷ filter q xs) (filter q xs)) (suc i) ≡ Some x → (p x ≡ true) × (q x ≡ true)) [
      | true ↦ λ f. filter_get p q xs i x (and-right (p y) (list_all p xs) h) f
      | false ↦ λ f. filter_get p q xs (suc i) x (and-right (p y) (list_all p xs) h) f
    ] g

find_from : {X : Type 0} (test : X → Bool) (i : ℕ) (xs : List X) (x : X) → find test xs ≡ Some x → (k : ℕ) × (position_from test i xs ≡ Some (i + k)) × (slice_get xs k ≡ Some x)
find_from test i [] x h = absurd (none-some x h)
find_from test i (y ∷ xs) x h =
    elim (test y) as (λ b. cond b (Some y) (find test xs) ≡ Some x → (k : ℕ) × (cond b (Some i) (position_from test (i + 1) xs) ≡ Some (i + k)) × (slice_get (y ∷ xs) k ≡ Some x)) [
      | true ↦ λ g. (0, ap Some (omega arith), g)
      | false ↦ λ g. (let r = find_from test (i + 1) xs x g in (suc r.0, r.1 ∙ ap Some (omega arith), r.2))
    ] h

-- what is found stands at its place
pub find_place : {X : Type 0} (test : X → Bool) (xs : List X) (x : X) → find test xs ≡ Some x → (k : ℕ) × (position test xs ≡ Some k) × (slice_get xs k ≡ Some x)
find_place test xs x h = let r = find_from test 0 xs x h in (r.0, position_from-zero test xs ∙ (r.1 ∙ ap Some (omega arith)), r.2)

-- ---- lists with exactly one that passes

none_counted : {X : Type 0} (test : X → Bool) (xs : List X) (i : ℕ) (x : X) → count_by test xs ≡ 0 → slice_get xs i ≡ Some x → test x ≡ true → ⊥
none_counted test [] i x c g h = none-some x g
none_counted test (y ∷ xs) zero x c g h =
    let here : test y ≡ true = ap test (same_Some y x g) ∙ h in
    let n : cond (test y) 1 0 + count_by test xs ≡ 0 = sym (sum_by-cons (λ z. cond (test z) 1 0) y xs) ∙ c in
    let m : 1 + count_by test xs ≡ 0 = rw here at n in omega arith
none_counted test (y ∷ xs) (suc i) x c g h =
    let n : cond (test y) 1 0 + count_by test xs ≡ 0 = sym (sum_by-cons (λ z. cond (test z) 1 0) y xs) ∙ c in
    none_counted test xs i x (omega arith) g h

one_from : {X : Type 0} (test : X → Bool) (i : ℕ) (xs : List X) → count_by test xs ≡ 1 → (k : ℕ) × (x : X) × (position_from test i xs ≡ Some (i + k)) × (slice_get xs k ≡ Some x) × (test x ≡ true)
one_from test i [] c = absurd (omega arith)
one_from {X} test i (y ∷ xs) c =
    let n : cond (test y) 1 0 + count_by test xs ≡ 1 = sym (sum_by-cons (λ z. cond (test z) 1 0) y xs) ∙ c in
    elim (test y) as (λ b. test y ≡ b → cond b 1 0 + count_by test xs ≡ 1 → (k : ℕ) × (x : X) × (cond b (Some i) (position_from test (i + 1) xs) ≡ Some (i + k)) × (slice_get (y ∷ xs) k ≡ Some x) × (test x ≡ true)) [
      | true ↦ λ e m. (0, y, ap Some (omega arith), refl, e)
      | false ↦ λ e m. (let r = one_from test (i + 1) xs (omega arith) in (suc r.0, r.1, r.2 ∙ ap Some (omega arith), r.3, r.4))
    ] refl n

only_from : {X : Type 0} (test : X → Bool) (i : ℕ) (xs : List X) (s : ℕ) (x : X) → count_by test xs ≡ 1 → slice_get xs s ≡ Some x → test x ≡ true → position_from test i xs ≡ Some (i + s)
only_from test i [] s x c g h = absurd (none-some x g)
only_from test i (y ∷ xs) zero x c g h = rw (ap test (same_Some y x g) ∙ h) (ap Some (omega arith))
only_from test i (y ∷ xs) (suc s) x c g h =
    let n : cond (test y) 1 0 + count_by test xs ≡ 1 = sym (sum_by-cons (λ z. cond (test z) 1 0) y xs) ∙ c in
    elim (test y) as (λ b. cond b 1 0 + count_by test xs ≡ 1 → cond b (Some i) (position_from test (i + 1) xs) ≡ Some (i + suc s)) [
      | true ↦ λ m. absurd (none_counted test xs s x (omega arith) g h)
      | false ↦ λ m. only_from test (i + 1) xs s x (omega arith) g h ∙ ap Some (omega arith)
    ] n

-- the one that passes has the place that is found
pub one_place : {X : Type 0} (test : X → Bool) (xs : List X) → (count_by test xs == 1) ≡ true → (k : ℕ) × (x : X) × (position test xs ≡ Some k) × (slice_get xs k ≡ Some x) × (test x ≡ true)
one_place test xs h =
    let one : count_by test xs ≡ 1 = grind (arith, nat_tests) in
    let r = one_from test 0 xs one in
    (r.0, r.1, position_from-zero test xs ∙ (r.2 ∙ ap Some (omega arith)), r.3, r.4)

-- any one that passes has the place that is found
pub only_place : {X : Type 0} (test : X → Bool) (xs : List X) (s : ℕ) (x : X) → (count_by test xs == 1) ≡ true → slice_get xs s ≡ Some x → test x ≡ true → position test xs ≡ Some s
only_place test xs s x h g p =
    let one : count_by test xs ≡ 1 = grind (arith, nat_tests) in
    position_from-zero test xs ∙ (only_from test 0 xs s x one g p ∙ ap Some (omega arith))
