-- Groups that are numbered by the first values of their keys, one value more at a time.
use Rattle.std.proofs.Common.{◌≡◌, ℕ, zero, suc, ◌+◌, ◌-◌, ◌<◌, ◌≤◌, ◌≢◌, Bool, true, false, not, ◌&&◌, ◌||◌, List, [], ◌∷◌, ◌++◌, add-one, length, get_or, map, filter, take, refl, sym, ◌∙◌, ap, subst, arith, Some, ⊎_elim, length-append}
use Rattle.std.specs.Prelude.{All, nat_eq, slice_get, slice_index, if◌then◌else◌}
use Rattle.std.specs.Cmp.{unsigned_Decides}
use Rattle.std.specs.List.{list_any, range_with_len}
use Rattle.std.proofs.lemmas.Bool.{true≢false, cases_eq}
use Rattle.std.proofs.lemmas.List.{get_or_append_left, get_or_push, map-append, take_all, take_more}
use Rattle.std.proofs.lemmas.List.Elements.{All-cons, All-head, All-nil, All-tail}
use Rattle.std.proofs.lemmas.Option.{slice_get_within, slice_get-get_or}
use Rattle.indexmap.specs.IndexSet.{insert_key}
use Rattle.edm_values.specs.declared.Value.{Value}
use Rattle.edm_values.specs.Lists.{distinct}
use Rattle.edm_values.specs.Values.{same_value}
use Rattle.apply_meaning.proofs.AggregateForms.{distinct-next}
use Rattle.apply_meaning.proofs.InstanceOrders.{same_keys_tests}
use Rattle.apply_meaning.specs.Meaning.{same_keys}
use Rattle.aggregate_ops.specs.Fronts.{AreFronts, AreGroupNumbers, Entry, IsApart, fronts_of, key_at, with_first}
use Rattle.aggregate_ops.specs.KeySteps.{KeyStepState, same_step}
use Rattle.aggregate_ops.proofs.FrontLemmas.{distinct-apart}

-- ---- no value

-- by no value all keys are the same
nothing : (g : Entry) (gs : List Entry) → fronts_of 0 (g ∷ gs) ≡ [] ∷ []
nothing g [] = refl
nothing g (h ∷ gs) = ap (λ ds. [] ∷ filter (λ z. not (same_keys [] z)) ds) (nothing h gs)

-- one number for all groups
pub numbered-by_nothing : (groups : List Entry) (firsts numbers : List ℕ) → 0 < length groups → firsts ≡ 0 ∷ [] → length numbers ≡ length groups → ((i : ℕ) → i < length groups → slice_index numbers i ≡ 0) → AreFronts 0 groups firsts numbers
numbered-by_nothing [] firsts numbers some one size zeros = absurd (omega arith)
numbered-by_nothing (g ∷ gs) firsts numbers some one size zeros = record {
  within = subst (All (λ i. i < length (g ∷ gs))) (sym one) (All-cons (λ i. i < length (g ∷ gs)) 0 [] (omega arith) (All-nil (λ i. i < length (g ∷ gs))));
  are = ap (map (λ i. take 0 (key_at (g ∷ gs) i))) one ∙ sym (nothing g gs);
  told = record { size = size; told = λ i h. ap (λ fs. slice_get fs (slice_index numbers i)) (nothing g gs) ∙ ap (slice_get ([] ∷ [])) (zeros i h) };
}

pub numbered-none : (groups : List Entry) (firsts numbers : List ℕ) → length groups ≡ 0 → firsts ≡ [] → numbers ≡ [] → AreFronts 0 groups firsts numbers
numbered-none [] firsts numbers none no-firsts no-numbers = record {
  within = subst (All (λ i. i < 0)) (sym no-firsts) (All-nil (λ i. i < 0));
  are = ap (map (λ i. take 0 (key_at [] i))) no-firsts;
  told = record { size = ap length no-numbers; told = λ i h. absurd (omega arith) };
}
numbered-none (g ∷ gs) firsts numbers none no-firsts no-numbers = absurd (omega arith)

-- what a test of the length tells
pub none-there : (groups : List Entry) → nat_eq (length groups) 0 ≡ true → length groups ≡ 0
none-there groups h = (unsigned_Decides (length groups) 0).0 h

pub some-there : (groups : List Entry) → nat_eq (length groups) 0 ≡ false → 0 < length groups
some-there [] h = absurd (true≢false h)
some-there (g ∷ gs) h = omega arith

-- ---- sameness of first values, one value more

and-true : (b : Bool) → b ≡ (b && true)
and-true true = refl
and-true false = refl

and-apart : (a b c : Bool) → (a && (b && c)) ≡ ((a && b) && c)
and-apart true b c = refl
and-apart false b c = refl

same-longer : (n : ℕ) (k l : List Value) → n < length k → n < length l → same_keys (take (suc n) k) (take (suc n) l) ≡ (same_keys (take n k) (take n l) && same_value (get_or k n Value.Null) (get_or l n Value.Null))
same-longer n [] l h m = absurd (omega arith)
same-longer n (x ∷ k) [] h m = absurd (omega arith)
same-longer zero (x ∷ k) (y ∷ l) h m = sym (and-true (same_value x y))
same-longer (suc n) (x ∷ k) (y ∷ l) h m =
    ap (λ b. same_value x y && b) (same-longer n k l (omega arith) (omega arith))
    ∙ and-apart (same_value x y) (same_keys (take n k) (take n l)) (same_value (get_or k n Value.Null) (get_or l n Value.Null))

-- ---- numbers tell fronts

-- two tests that are right at the same time
alike : (a b : Bool) → (a ≡ true → b ≡ true) → (b ≡ true → a ≡ true) → a ≡ b
alike true b f g = sym (f refl)
alike false true f g = g refl
alike false false f g = refl

-- a key list stands at one place
once : (fs : List (List Value)) (a b : ℕ) (x : List Value) → IsApart fs → slice_get fs a ≡ Some x → slice_get fs b ≡ Some x → a ≡ b
once [] a b x apart p q = absurd (cc)
once (k ∷ fs) zero zero x apart p q = refl
once (k ∷ fs) zero (suc b) x apart p q =
    let same : k ≡ x = cc in
    let within = slice_get_within fs b x q in
    let e : Some (get_or fs b []) ≡ Some x = sym (slice_get-get_or fs b [] within) ∙ q in
    let is : get_or fs b [] ≡ x = cc in
    absurd (true≢false (sym (ap (same_keys k) (is ∙ sym same) ∙ same_keys_tests.itself k) ∙ apart.0 b [] within))
once (k ∷ fs) (suc a) zero x apart p q =
    let same : k ≡ x = cc in
    let within = slice_get_within fs a x p in
    let e : Some (get_or fs a []) ≡ Some x = sym (slice_get-get_or fs a [] within) ∙ p in
    let is : get_or fs a [] ≡ x = cc in
    absurd (true≢false (sym (ap (same_keys k) (is ∙ sym same) ∙ same_keys_tests.itself k) ∙ apart.0 a [] within))
once (k ∷ fs) (suc a) (suc b) x apart p q = ap suc (once fs a b x apart.1 p q)

abbrev front_at : ℕ → List Entry → ℕ → List Value
front_at n groups i = take n (key_at groups i)

-- the step of group i: its number, and the next value of its key
abbrev pub step_at : ℕ → List Entry → List ℕ → ℕ → KeyStepState
step_at n groups before i = record { before = slice_index before i; value = get_or (key_at groups i) n Value.Null }

module _ (n : ℕ) (groups : List Entry) (before : List ℕ) (told : AreGroupNumbers n groups (fronts_of n groups) before) (long : All (λ g. n < length g.0) groups) where
  numbers-tell : (i f : ℕ) → i < length groups → f < length groups → nat_eq (slice_index before i) (slice_index before f) ≡ same_keys (front_at n groups i) (front_at n groups f)
  numbers-tell i f h m =
      let p = told.told i h in
      let q = told.told f m in
      alike (nat_eq (slice_index before i) (slice_index before f)) (same_keys (front_at n groups i) (front_at n groups f))
      (λ e.
      let one : slice_index before i ≡ slice_index before f = (unsigned_Decides (slice_index before i) (slice_index before f)).0 e in
      let s : Some (front_at n groups i) ≡ Some (front_at n groups f) = sym p ∙ ap (slice_get (fronts_of n groups)) one ∙ q in
      let is : front_at n groups i ≡ front_at n groups f = cc in
      ap (same_keys (front_at n groups i)) (sym is) ∙ same_keys_tests.itself (front_at n groups i))
      (λ e.
      let is = same_keys_tests.same (front_at n groups i) (front_at n groups f) e in
      (unsigned_Decides (slice_index before i) (slice_index before f)).1
      (once (fronts_of n groups) (slice_index before i) (slice_index before f) (front_at n groups f) (distinct-apart (map (λ g. take n g.0) groups)) (p ∙ ap Some is) q))

  -- steps are the same where the first values are
  pub steps-tell : (i f : ℕ) → i < length groups → f < length groups → same_step (step_at n groups before i) (step_at n groups before f) ≡ same_keys (front_at (n + 1) groups i) (front_at (n + 1) groups f)
  steps-tell i f h m =
      ap (λ b. b && same_value (get_or (key_at groups i) n Value.Null) (get_or (key_at groups f) n Value.Null)) (numbers-tell i f h m)
      ∙ sym (same-longer n (key_at groups i) (key_at groups f) (long i ([], []) h) (long f ([], []) m))
      ∙ ap (λ t. same_keys (take t (key_at groups i)) (take t (key_at groups f))) (sym (add-one n))

  any-tell : (i : ℕ) → i < length groups → (firsts : List ℕ) → All (λ f. f < length groups) firsts → list_any (same_step (step_at n groups before i)) (map (step_at n groups before) firsts) ≡ list_any (same_keys (front_at (n + 1) groups i)) (map (front_at (n + 1) groups) firsts)
  any-tell i h [] a = refl
  any-tell i h (f ∷ firsts) a = λ j. steps-tell i f h (All-head (λ f. f < length groups) f firsts a) j || any-tell i h firsts (All-tail (λ f. f < length groups) f firsts a) j

-- the first i groups, numbered by one value more
pub record AreStepsTo (n : ℕ) (groups : List Entry) (before : List ℕ) (steps : List KeyStepState) (firsts numbers : List ℕ) (i : ℕ) : Type 0 where
  pub within : All (λ f. f < length groups) firsts
  pub steps_are : steps ≡ map (step_at n groups before) firsts
  pub fronts_are : map (front_at (n + 1) groups) firsts ≡ fronts_of (n + 1) (take i groups)
  pub size : length numbers ≡ i
  pub told : (j : ℕ) → j < i → slice_get (map (front_at (n + 1) groups) firsts) (slice_index numbers j) ≡ Some (front_at (n + 1) groups j)

pub steps-begin : (n : ℕ) (groups : List Entry) (before : List ℕ) (steps : List KeyStepState) (firsts numbers : List ℕ) → steps ≡ [] → firsts ≡ [] → length numbers ≡ 0 → AreStepsTo n groups before steps firsts numbers 0
steps-begin n groups before steps firsts numbers no-steps none size = record {
  within = subst (All (λ f. f < length groups)) (sym none) (All-nil (λ f. f < length groups));
  steps_are = no-steps ∙ ap (map (step_at n groups before)) (sym none);
  fronts_are = ap (map (front_at (n + 1) groups)) none;
  size = size;
  told = λ j h. absurd (omega arith);
}

-- one front more
fronts-more : (n : ℕ) (groups : List Entry) (i : ℕ) → i < length groups → fronts_of n (take (i + 1) groups) ≡ insert_key same_keys (fronts_of n (take i groups)) (front_at n groups i)
fronts-more n groups i within =
    let cut : Entry → List Value = λ g. take n g.0 in
    ap (λ gs. distinct same_keys (map cut gs)) (take_more groups i ([], []) within)
    ∙ ap (distinct same_keys) (map-append cut (take i groups) (get_or groups i ([], []) ∷ []))
    ∙ distinct-next same_keys same_keys_tests (map cut (take i groups)) (front_at n groups i)

image-more : {X : Type 0} (f : ℕ → X) (b : Bool) (firsts : List ℕ) (i : ℕ) → map f (with_first b firsts i) ≡ (if b then map f firsts ++ f i ∷ [] else map f firsts)
image-more f false firsts i = refl
image-more f true firsts i = map-append f firsts (i ∷ [])

within-more : (n : ℕ) (b : Bool) (firsts : List ℕ) (i : ℕ) → i < n → All (λ f. f < n) firsts → All (λ f. f < n) (with_first b firsts i)
within-more n false firsts i h a = a
within-more n true [] i h a = All-cons (λ f. f < n) i [] h (All-nil (λ f. f < n))
within-more n true (f ∷ firsts) i h a = All-cons (λ f. f < n) f (firsts ++ i ∷ []) (All-head (λ f. f < n) f firsts a) (within-more n true firsts i h (All-tail (λ f. f < n) f firsts a))

-- what is there stays where it is
there-stays : {X : Type 0} (f : ℕ → X) (b : Bool) (firsts : List ℕ) (i x : ℕ) (y : X) → slice_get (map f firsts) x ≡ Some y → slice_get (map f (with_first b firsts i)) x ≡ Some y
there-stays f false firsts i x y at = at
there-stays f true [] i x y at = absurd (cc)
there-stays f true (g ∷ firsts) i zero y at = at
there-stays f true (g ∷ firsts) i (suc x) y at = there-stays f true firsts i x y at

-- an image is that of an element
image-at : {X : Type 0} (P : ℕ → Type 0) (f : ℕ → X) (firsts : List ℕ) (x : ℕ) (y : X) → All P firsts → slice_get (map f firsts) x ≡ Some y → (g : ℕ) × (P g) × (y ≡ f g) × ((h : ℕ → List Value) → slice_get (map h firsts) x ≡ Some (h g))
image-at P f [] x y a at = absurd (cc)
image-at P f (g ∷ firsts) zero y a at = let e : f g ≡ y = cc in (g, All-head P g firsts a, sym e, λ h. refl)
image-at P f (g ∷ firsts) (suc x) y a at = image-at P f firsts x y (All-tail P g firsts a) at

other-way : {X : Type 0} (b : Bool) (xs : List X) (x : X) → (if b then xs else xs ++ x ∷ []) ≡ (if not b then xs ++ x ∷ [] else xs)
other-way true xs x = refl
other-way false xs x = refl

pub steps-next : (n : ℕ) (groups : List Entry) (before : List ℕ) (steps steps' : List KeyStepState) (firsts numbers : List ℕ) (i x : ℕ) (new : Bool) (s k : KeyStepState) → AreGroupNumbers n groups (fronts_of n groups) before → All (λ g. n < length g.0) groups → i < length groups
    → AreStepsTo n groups before steps firsts numbers i → s ≡ step_at n groups before i → steps' ≡ insert_key same_step steps s → slice_get steps' x ≡ Some k → same_step s k ≡ true → new ≡ not (list_any (same_step s) steps)
    → AreStepsTo n groups before steps' (with_first new firsts i) (numbers ++ x ∷ []) (i + 1)
steps-next n groups before steps steps' firsts numbers i x new s k told long h so own keys at same fresh =
    let there = list_any (same_step s) steps in
    let firsts' = with_first new firsts i in
    let within' = within-more (length groups) new firsts i h so.within in
    let steps_are' : steps' ≡ map (step_at n groups before) firsts' =
    keys ∙ (λ j. if there then so.steps_are j else so.steps_are j ++ own j ∷ []) ∙ other-way there (map (step_at n groups before) firsts) (step_at n groups before i)
    ∙ ap (λ b. if b then map (step_at n groups before) firsts ++ step_at n groups before i ∷ [] else map (step_at n groups before) firsts) (sym fresh) ∙ sym (image-more (step_at n groups before) new firsts i) in
    let any : there ≡ list_any (same_keys (front_at (n + 1) groups i)) (fronts_of (n + 1) (take i groups)) =
    (λ j. list_any (same_step (own j)) (so.steps_are j)) ∙ any-tell n groups before told long i h firsts so.within ∙ ap (list_any (same_keys (front_at (n + 1) groups i))) so.fronts_are in
    let fronts_are' : map (front_at (n + 1) groups) firsts' ≡ fronts_of (n + 1) (take (i + 1) groups) =
    image-more (front_at (n + 1) groups) new firsts i
    ∙ ap (λ b. if b then map (front_at (n + 1) groups) firsts ++ front_at (n + 1) groups i ∷ [] else map (front_at (n + 1) groups) firsts) fresh ∙ sym (other-way there (map (front_at (n + 1) groups) firsts) (front_at (n + 1) groups i))
    ∙ (λ j. if any j then so.fronts_are j else so.fronts_are j ++ front_at (n + 1) groups i ∷ [])
    ∙ sym (fronts-more (n + 1) groups i h) in
    let found = image-at (λ f. f < length groups) (step_at n groups before) firsts' x k within' (ap (λ l. slice_get l x) (sym steps_are') ∙ at) in
    let tells = sym (steps-tell n groups before told long i found.0 h found.1) ∙ (λ j. same_step (sym own j) (sym found.2 j)) ∙ same in
    let is : front_at (n + 1) groups i ≡ front_at (n + 1) groups found.0 = same_keys_tests.same (front_at (n + 1) groups i) (front_at (n + 1) groups found.0) tells in
    let here : slice_get (map (front_at (n + 1) groups) firsts') x ≡ Some (front_at (n + 1) groups i) = found.3 (front_at (n + 1) groups) ∙ ap Some (sym is) in
    let size = so.size in
    record {
      within = within';
      steps_are = steps_are';
      fronts_are = fronts_are';
      size = omega (arith, length-append numbers (x ∷ []));
      told = λ j less. ⊎_elim
          (λ last.
          let number : slice_index (numbers ++ x ∷ []) j ≡ x = get_or_push numbers x 0 j (omega arith) in
          ap (slice_get (map (front_at (n + 1) groups) firsts')) number ∙ here ∙ ap (λ j. Some (front_at (n + 1) groups j)) (sym last))
          (λ other.
          let ne : j ≢ i = other in
          let less' : j < i = omega arith in
          ap (slice_get (map (front_at (n + 1) groups) firsts')) (get_or_append_left numbers (x ∷ []) 0 j (omega arith))
          ∙ there-stays (front_at (n + 1) groups) new firsts i (slice_index numbers j) (front_at (n + 1) groups j) (so.told j less'))
          (cases_eq j i);
    }

pub steps-done : (n : ℕ) (groups : List Entry) (before : List ℕ) (steps : List KeyStepState) (firsts numbers : List ℕ) (i : ℕ) → AreStepsTo n groups before steps firsts numbers i → i ≡ length groups → AreFronts (n + 1) groups firsts numbers
steps-done n groups before steps firsts numbers i so all =
    let whole : map (front_at (n + 1) groups) firsts ≡ fronts_of (n + 1) groups = so.fronts_are ∙ ap (fronts_of (n + 1)) (take_all i groups (omega arith)) in
    record {
      within = so.within;
      are = whole;
      told = record { size = so.size ∙ all; told = λ j h. ap (λ fs. slice_get fs (slice_index numbers j)) (sym whole) ∙ so.told j (omega arith) };
    }

-- the groups have more values than so many
pub longer-than : (m n : ℕ) (groups : List Entry) → m < n → All (λ g. n ≤ length g.0) groups → All (λ g. m < length g.0) groups
longer-than m n groups less a = λ i d h. let e = a i d h in omega arith

pub as-long-as : (m n : ℕ) (groups : List Entry) → m ≤ n → All (λ g. n ≤ length g.0) groups → All (λ g. m ≤ length g.0) groups
as-long-as m n groups less a = λ i d h. let e = a i d h in omega arith

-- one level more
pub levels-more : {X : Type 0} (f : ℕ → X) (least front : ℕ) (found found' : List X) → least ≤ front → found ≡ map f (range_with_len least (front - least)) → found' ≡ found ++ f front ∷ [] → found' ≡ map f (range_with_len least (front + 1 - least))
levels-more f least front found found' within before now =
    let more : suc (front - least) ≡ front + 1 - least = omega arith in
    let at : least + (front - least) ≡ front = omega arith in
    now ∙ (λ i. before i ++ f (sym at i) ∷ [])
    ∙ sym (map-append f (range_with_len least (front - least)) ((least + (front - least)) ∷ []))
    ∙ ap (map f) (sym (range-last least (front - least)))
    ∙ ap (λ n. map f (range_with_len least n)) more
  where
    range-last : (a n : ℕ) → range_with_len a (suc n) ≡ range_with_len a n ++ (a + n) ∷ []
    range-last a zero = let e : a ≡ a + 0 = omega arith in ap (λ m. m ∷ []) e
    range-last a (suc n) = let e : a + 1 + n ≡ a + suc n = omega arith in ap (λ l. a ∷ l) (range-last (a + 1) n ∙ ap (λ m. range_with_len (a + 1) n ++ m ∷ []) e)
