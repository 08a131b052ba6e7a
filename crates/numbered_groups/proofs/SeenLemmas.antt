-- Numbers of values in order of first appearance: one value more, and what they tell of all values.
use Rattle.std.proofs.Common.{◌≡◌, ◌≢◌, ℕ, zero, suc, ◌<◌, Bool, true, false, cond, not, List, [], ◌∷◌, ◌++◌, length, get_or, map, filter, if◌then◌else◌, Some, refl, sym, ap, subst, ◌∙◌, arith, append_assoc}
use Rattle.std.specs.Prelude.{All, nat_eq, slice_get}
use Rattle.std.specs.Cmp.{unsigned_Decides}
use Rattle.std.specs.List.{list_any}
use Rattle.std.proofs.lemmas.Bool.{not-true, true≢false}
use Rattle.std.proofs.lemmas.List.{append-nil, length-map, map-append}
use Rattle.std.proofs.lemmas.List.Elements.{All-cons, All-filter, All-nil, filter_passes}
use Rattle.std.proofs.lemmas.Option.{get_or_from_slice_get, slice_get_within, unwrap_or-slice_get}
use Rattle.indexmap.specs.IndexSet.{insert_key}
use Rattle.edm_values.specs.declared.Value.{Value}
use Rattle.edm_values.specs.Lists.{distinct}
use Rattle.edm_values.specs.Values.{same_value, value_in}
use Rattle.edm_values.proofs.ValueOrders.{same_value_tests}
use Rattle.apply_meaning.proofs.AggregateForms.{distinct-next}
use Rattle.value_codes.specs.Codes.{AreCodes, CodeList}
use Rattle.numbered_groups.proofs.ImageLemmas.{alike}
use Rattle.numbered_groups.proofs.IndexLemmas.{there-left}

-- ---- no value twice

abbrev Apart : List Value → Type 0
Apart [] = Unit {0}
Apart (x ∷ xs) = All (λ y. same_value x y ≡ false) xs × Apart xs

apart-filter : (p : Value → Bool) (xs : List Value) → Apart xs → Apart (filter p xs)
apart-filter p [] a = tt
apart-filter p (x ∷ xs) a = go (p x) (apart-filter p xs a.1)
  where
    go : (b : Bool) → Apart (filter p xs) → Apart (cond b (x ∷ filter p xs) (filter p xs))
    go true r = (All-filter p (λ y. same_value x y ≡ false) xs a.0, r)
    go false r = r

distinct-apart : (xs : List Value) → Apart (distinct same_value xs)
distinct-apart [] = tt
distinct-apart (x ∷ xs) = (
  λ i d h. not-true (same_value x (get_or (filter (λ y. not (same_value x y)) (distinct same_value xs)) i d)) (filter_passes (λ y. not (same_value x y)) (distinct same_value xs) i d h),
  apart-filter (λ y. not (same_value x y)) (distinct same_value xs) (distinct-apart xs),
)

not-there : (x : Value) (xs : List Value) (n : ℕ) → All (λ y. same_value x y ≡ false) xs → slice_get xs n ≢ Some x
not-there x xs n a h =
    let within = slice_get_within xs n x h in
    let is = get_or_from_slice_get xs n x Value.Null h in
    true≢false (sym (ap (same_value x) is ∙ same_value_tests.itself x) ∙ a n Value.Null within)

-- a value stands at one place
once : (xs : List Value) (a b : ℕ) (x : Value) → Apart xs → slice_get xs a ≡ Some x → slice_get xs b ≡ Some x → a ≡ b
once [] a b x apart p q = absurd (cc)
once (k ∷ xs) zero zero x apart p q = refl
once (k ∷ xs) zero (suc b) x apart p q =
    let e : k ≡ x = cc in
    absurd (not-there k xs b apart.0 (q ∙ ap Some (sym e)))
once (k ∷ xs) (suc a) zero x apart p q =
    let e : k ≡ x = cc in
    absurd (not-there k xs a apart.0 (p ∙ ap Some (sym e)))
once (k ∷ xs) (suc a) (suc b) x apart p q = ap suc (once xs a b x apart.1 p q)

-- ---- one value more

-- these are the values of the numbers
abbrev Told : List Value → List ℕ → List Value → Type 0
Told keys codes values = map (slice_get keys) codes ≡ map Some values

-- values that are numbered in order of first appearance
pub record AreSeen (keys : List Value) (codes : List ℕ) (values : List Value) : Type 0 where
  pub keys_are : keys ≡ distinct same_value values
  pub told : Told keys codes values

inserted-more : (keys : List Value) (v : Value) → (zs : List Value) × (insert_key same_value keys v ≡ keys ++ zs)
inserted-more keys v = go (list_any (same_value v) keys)
  where
    go : (b : Bool) → (zs : List Value) × ((if b then keys else keys ++ v ∷ []) ≡ keys ++ zs)
    go true = ([], sym (append-nil keys))
    go false = (v ∷ [], refl)

told-more : (keys zs : List Value) (codes : List ℕ) (values : List Value) → Told keys codes values → Told (keys ++ zs) codes values
told-more keys zs [] [] h = refl
told-more keys zs [] (v ∷ values) h = absurd (cc)
told-more keys zs (n ∷ codes) [] h = absurd (cc)
told-more keys zs (n ∷ codes) (v ∷ values) h =
    let first : slice_get keys n ≡ Some v = cc in
    let rest : map (slice_get keys) codes ≡ map Some values = cc in
    λ i. there-left keys zs n v first i ∷ told-more keys zs codes values rest i

pub seen-none : (keys : List Value) (codes : List ℕ) → keys ≡ [] → codes ≡ [] → AreSeen keys codes []
seen-none keys codes none empty = record { keys_are = none; told = ap (map (slice_get keys)) empty }

pub seen-next : (keys more : List Value) (codes longer : List ℕ) (values : List Value) (v k : Value) (n : ℕ) → more ≡ insert_key same_value keys v → slice_get more n ≡ Some k → same_value v k ≡ true → longer ≡ codes ++ n ∷ []
    → AreSeen keys codes values → AreSeen more longer (values ++ v ∷ [])
seen-next keys more codes longer values v k n is at same behind h =
    let rest = inserted-more keys v in
    let own : more ≡ keys ++ rest.0 = is ∙ rest.1 in
    let before : Told more codes values = ap (λ ks. map (slice_get ks) codes) own ∙ told-more keys rest.0 codes values h.told in
    let last : slice_get more n ≡ Some v = at ∙ ap Some (sym (same_value_tests.same v k same)) in
    record {
      keys_are = is ∙ ap (λ ks. insert_key same_value ks v) h.keys_are ∙ sym (distinct-next same_value same_value_tests values v);
      told = ap (map (slice_get more)) behind ∙ map-append (slice_get more) codes (n ∷ []) ∙ (λ i. before i ++ last i ∷ []) ∙ sym (map-append Some values (v ∷ []));
    }

-- values so far, before those that are left
pub record AreSeenTo (all left keys : List Value) (codes : List ℕ) : Type 0 where
  pub done : List Value
  pub parts : done ++ left ≡ all
  pub seen : AreSeen keys codes done

pub seen-begin : (all left keys : List Value) (codes : List ℕ) → left ≡ all → keys ≡ [] → codes ≡ [] → AreSeenTo all left keys codes
seen-begin all left keys codes same none empty = record { done = []; parts = same; seen = seen-none keys codes none empty }

pub seen-step : (all left rest keys more : List Value) (codes longer : List ℕ) (v k : Value) (n : ℕ) → left ≡ v ∷ rest → more ≡ insert_key same_value keys v → slice_get more n ≡ Some k → same_value v k ≡ true → longer ≡ codes ++ n ∷ []
    → AreSeenTo all left keys codes → AreSeenTo all rest more longer
seen-step all left rest keys more codes longer v k n next is at same behind h = record {
  done = h.done ++ v ∷ [];
  parts = append_assoc h.done (v ∷ []) rest ∙ ap (λ l. h.done ++ l) (sym next) ∙ h.parts;
  seen = seen-next keys more codes longer h.done v k n is at same behind h.seen;
}

-- ---- all values

told-at : (keys : List Value) (codes : List ℕ) (values : List Value) (i : ℕ) → Told keys codes values → i < length values → slice_get keys (get_or codes i 0) ≡ Some (get_or values i Value.Null)
told-at keys codes [] i h less = absurd (omega arith)
told-at keys [] (v ∷ values) i h less = absurd (cc)
told-at keys (n ∷ codes) (v ∷ values) zero h less =
    let first : slice_get keys n ≡ Some v = cc in
    first
told-at keys (n ∷ codes) (v ∷ values) (suc i) h less =
    let rest : map (slice_get keys) codes ≡ map Some values = cc in
    told-at keys codes values i rest (omega arith)

told-there : (keys : List Value) (codes : List ℕ) (values : List Value) → Told keys codes values → All (λ n. n < length keys) codes
told-there keys [] values h = All-nil (λ n. n < length keys)
told-there keys (n ∷ codes) [] h = absurd (cc)
told-there keys (n ∷ codes) (v ∷ values) h =
    let first : slice_get keys n ≡ Some v = cc in
    let rest : map (slice_get keys) codes ≡ map Some values = cc in
    All-cons (λ n. n < length keys) n codes (slice_get_within keys n v first) (told-there keys codes values rest)

at-end : (all left keys : List Value) (codes : List ℕ) → left ≡ [] → AreSeenTo all left keys codes → AreSeen keys codes all
at-end all left keys codes none h = subst (AreSeen keys codes) (sym (append-nil h.done) ∙ ap (λ l. h.done ++ l) (sym none) ∙ h.parts) h.seen

pub seen-below : (all left keys : List Value) (codes : List ℕ) → left ≡ [] → AreSeenTo all left keys codes → All (λ n. n < length keys) codes
seen-below all left keys codes none h = told-there keys codes all (at-end all left keys codes none h).told

pub seen-codes : (all left keys : List Value) (codes : List ℕ) (c : CodeList) → left ≡ [] → c.codes ≡ codes → AreSeenTo all left keys codes → AreCodes all c
seen-codes all left keys codes c none are so =
    let h = at-end all left keys codes none so in
    let apart : Apart keys = subst Apart (sym h.keys_are) (distinct-apart all) in
    record {
      size = ap length are ∙ sym (length-map codes (slice_get keys)) ∙ ap length h.told ∙ length-map all Some;
      same = λ i j li lj.
          let vi : value_in all i ≡ get_or all i Value.Null = unwrap_or-slice_get all i Value.Null in
          let vj : value_in all j ≡ get_or all j Value.Null = unwrap_or-slice_get all j Value.Null in
          (λ k. same_value (vi k) (vj k))
          ∙ alike (same_value (get_or all i Value.Null) (get_or all j Value.Null)) (nat_eq (get_or codes i 0) (get_or codes j 0))
          (λ e.
          let is = same_value_tests.same (get_or all i Value.Null) (get_or all j Value.Null) e in
          (unsigned_Decides (get_or codes i 0) (get_or codes j 0)).1
          (once keys (get_or codes i 0) (get_or codes j 0) (get_or all j Value.Null) apart (told-at keys codes all i h.told li ∙ ap Some is) (told-at keys codes all j h.told lj)))
          (λ e.
          let one : get_or codes i 0 ≡ get_or codes j 0 = (unsigned_Decides (get_or codes i 0) (get_or codes j 0)).0 e in
          let both : Some (get_or all i Value.Null) ≡ Some (get_or all j Value.Null) = sym (told-at keys codes all i h.told li) ∙ ap (slice_get keys) one ∙ told-at keys codes all j h.told lj in
          let is : get_or all i Value.Null ≡ get_or all j Value.Null = cc in
          ap (same_value (get_or all i Value.Null)) (sym is) ∙ same_value_tests.itself (get_or all i Value.Null))
          ∙ ap (λ cs. nat_eq (get_or cs i 0) (get_or cs j 0)) (sym are);
    }
