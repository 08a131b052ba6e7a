-- The first place, set by set, at which a test passes.
use Rattle.std.proofs.Common.{◌≡◌, ℕ, zero, suc, ◌+◌, ◌<◌, Bool, true, false, List, [], ◌∷◌, ◌++◌, length, map, cond, refl, sym, ap, arith, Option, Some, None, ⊎_elim}
use Rattle.std.specs.Option.{unwrap_or, option_or}
use Rattle.std.specs.List.{find, slice_get, flat_map, enumerate_from}
use Rattle.std.proofs.lemmas.List.{map-append}
use Rattle.std.proofs.lemmas.List.Folds.{find-append}
use Rattle.std.proofs.lemmas.Bool.{cases_lt}
use Rattle.std.proofs.lemmas.Option.{none-some}
use Rattle.edm_values.specs.Lists.{places}
use Rattle.edm_data.specs.Worlds.{Entity, entity_at, all_places}

-- ---- in one list of places

-- no place passes
find-places_none : {X : Type 0} (P : X → Bool) (e : ℕ → X) (n : ℕ) → ((q : ℕ) → q < n → P (e q) ≡ false) → find P (map e (places n)) ≡ None
find-places_none P e zero none = refl
find-places_none P e (suc n) none =
    rw (map-append e (places n) (n ∷ []), find-append P (map e (places n)) (e n ∷ []), find-places_none P e n (λ q h. none q (omega arith)), none n (omega arith)) refl

-- the place k is the first that passes
find-places_first : {X : Type 0} (P : X → Bool) (e : ℕ → X) (n k : ℕ) → k < n → P (e k) ≡ true → ((q : ℕ) → q < k → P (e q) ≡ false) → find P (map e (places n)) ≡ Some (e k)
find-places_first P e zero k h here before = absurd (omega arith)
find-places_first P e (suc n) k h here before =
    rw (map-append e (places n) (n ∷ []), find-append P (map e (places n)) (e n ∷ []))
    (⊎_elim (λ less. ap (λ o. option_or o (find P (e n ∷ []))) (find-places_first P e n k less here before)) (λ more. let same : k ≡ n = omega arith in rw (find-places_none P e n (λ q below. before q (omega arith))) (let there : P (e n) ≡ true = rw same at here in rw there (ap Some (ap e (sym same))))) (cases_lt k n))

-- ---- in all lists

-- the number of places in the list at this place
abbrev pub size_at : {X : Type 0} → List (List X) → ℕ → ℕ
size_at xss s = length (unwrap_or (slice_get xss s) [])

-- the places in lists that are numbered from i on
abbrev places_from : {X : Type 0} → ℕ → List (List X) → List Entity
places_from i xss = flat_map (λ p. map (entity_at p.0) (places (length p.1))) (enumerate_from i xss)

find-places_from_none : {X : Type 0} (P : Entity → Bool) (i : ℕ) (xss : List (List X)) → ((s q : ℕ) → q < size_at xss s → P (entity_at (i + s) q) ≡ false) → find P (places_from i xss) ≡ None
find-places_from_none P i [] none = refl
find-places_from_none P i (xs ∷ xss) none =
    let front : find P (map (entity_at i) (places (length xs))) ≡ None = find-places_none P (entity_at i) (length xs) (λ q h. let e : i + 0 ≡ i = omega arith in rw e at (none 0 q h)) in
    let back : find P (places_from (i + 1) xss) ≡ None = find-places_from_none P (i + 1) xss (λ s q h. let e : i + suc s ≡ (i + 1) + s = omega arith in rw e at (none (suc s) q h)) in
    rw (find-append P (map (entity_at i) (places (length xs))) (places_from (i + 1) xss), front, back) refl

find-places_from_first : {X : Type 0} (P : Entity → Bool) (i : ℕ) (xss : List (List X)) (s k : ℕ) → k < size_at xss s → P (entity_at (i + s) k) ≡ true → ((j q : ℕ) → j < s → q < size_at xss j → P (entity_at (i + j) q) ≡ false) → ((q : ℕ) → q < k → P (entity_at (i + s) q) ≡ false) → find P (places_from i xss) ≡ Some (entity_at (i + s) k)
find-places_from_first P i [] s k h here sets before = absurd (omega arith)
find-places_from_first P i (xs ∷ xss) zero k h here sets before =
    let e : i + 0 ≡ i = omega arith in
    let front : find P (map (entity_at i) (places (length xs))) ≡ Some (entity_at i k) = find-places_first P (entity_at i) (length xs) k h (rw e at here) (λ q below. rw e at (before q below)) in
    rw (find-append P (map (entity_at i) (places (length xs))) (places_from (i + 1) xss), front, e) refl
find-places_from_first P i (xs ∷ xss) (suc s) k h here sets before =
    let e : i + suc s ≡ (i + 1) + s = omega arith in
    let front : find P (map (entity_at i) (places (length xs))) ≡ None = find-places_none P (entity_at i) (length xs) (λ q below. let z : i + 0 ≡ i = omega arith in rw z at (sets 0 q (omega arith) below)) in
    let back : find P (places_from (i + 1) xss) ≡ Some (entity_at ((i + 1) + s) k) = find-places_from_first P (i + 1) xss s k h (rw e at here) (λ j q less below. let f : i + suc j ≡ (i + 1) + j = omega arith in rw f at (sets (suc j) q (omega arith) below)) (λ q below. rw e at (before q below)) in
    rw (find-append P (map (entity_at i) (places (length xs))) (places_from (i + 1) xss), front, e) back

-- no place passes
pub find-all_places_none : {X : Type 0} (P : Entity → Bool) (xss : List (List X)) → ((s q : ℕ) → q < size_at xss s → P (entity_at s q) ≡ false) → find P (all_places xss) ≡ None
find-all_places_none P xss none = find-places_from_none P 0 xss (λ s q h. let e : 0 + s ≡ s = omega arith in rw e (none s q h))

-- this place is the first that passes
pub find-all_places_first : {X : Type 0} (P : Entity → Bool) (xss : List (List X)) (s k : ℕ) → k < size_at xss s → P (entity_at s k) ≡ true → ((j q : ℕ) → j < s → q < size_at xss j → P (entity_at j q) ≡ false) → ((q : ℕ) → q < k → P (entity_at s q) ≡ false) → find P (all_places xss) ≡ Some (entity_at s k)
find-all_places_first P xss s k h here sets before =
    let e : (j : ℕ) → 0 + j ≡ j = λ j. omega arith in
    rw (e s) at (find-places_from_first P 0 xss s k h (rw (e s) here) (λ j q less below. rw (e j) (sets j q less below)) (λ q below. rw (e s) (before q below)))

-- ---- where no place is found

none-in_append : {X : Type 0} (P : X → Bool) (xs ys : List X) → find P (xs ++ ys) ≡ None → (find P xs ≡ None) × (find P ys ≡ None)
none-in_append P [] ys h = (refl, h)
none-in_append P (x ∷ xs) ys h = (elim (P x) as (λ b. cond b (Some x) (find P (xs ++ ys)) ≡ None → (cond b (Some x) (find P xs) ≡ None) × (find P ys ≡ None)) [ true ↦ λ e. absurd (none-some x (sym e)) | false ↦ λ e. none-in_append P xs ys e ]) h

none-in_one : {X : Type 0} (P : X → Bool) (x : X) → find P (x ∷ []) ≡ None → P x ≡ false
none-in_one P x h = (elim (P x) as (λ b. ◌≡◌ {A = Option _} (cond b (Some x) None) None → b ≡ false) [ true ↦ λ e. absurd (none-some x (sym e)) | false ↦ λ e. refl ]) h

none-in_places : {X : Type 0} (P : X → Bool) (e : ℕ → X) (n : ℕ) → find P (map e (places n)) ≡ None → (q : ℕ) → q < n → P (e q) ≡ false
none-in_places P e zero h q less = absurd (omega arith)
none-in_places P e (suc n) h q less =
    let parts = none-in_append P (map e (places n)) (e n ∷ []) (rw (map-append e (places n) (n ∷ [])) at h) in
    ⊎_elim (λ before. none-in_places P e n parts.0 q before) (λ after. let same : q ≡ n = omega arith in rw same (none-in_one P (e n) parts.1)) (cases_lt q n)

none-in_places_from : {X : Type 0} (P : Entity → Bool) (i : ℕ) (xss : List (List X)) → find P (places_from i xss) ≡ None → (s q : ℕ) → q < size_at xss s → P (entity_at (i + s) q) ≡ false
none-in_places_from P i [] h s q less = absurd (omega arith)
none-in_places_from P i (xs ∷ xss) h zero q less =
    let e : i + 0 ≡ i = omega arith in
    rw e (none-in_places P (entity_at i) (length xs) (none-in_append P (map (entity_at i) (places (length xs))) (places_from (i + 1) xss) h).0 q less)
none-in_places_from P i (xs ∷ xss) h (suc s) q less =
    let e : i + suc s ≡ (i + 1) + s = omega arith in
    rw e (none-in_places_from P (i + 1) xss (none-in_append P (map (entity_at i) (places (length xs))) (places_from (i + 1) xss) h).1 s q less)

-- none of the places passes where a search finds none
pub none-in_all_places : {X : Type 0} (P : Entity → Bool) (xss : List (List X)) → find P (all_places xss) ≡ None → (s q : ℕ) → q < size_at xss s → P (entity_at s q) ≡ false
none-in_all_places P xss h s q less = let e : 0 + s ≡ s = omega arith in rw e at (none-in_places_from P 0 xss h s q less)
