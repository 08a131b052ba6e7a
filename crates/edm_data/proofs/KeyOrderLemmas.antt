-- Keys that are put into a map one after another, with their places.
use Rattle.std.proofs.Common.{◌≡◌, ℕ, suc, ◌+◌, ◌<◌, Bool, true, false, cond, List, [], ◌∷◌, ◌++◌, length, take, map, get_or, ◌≤◌, length-take, ⊎_elim, refl, sym, ◌∙◌, ap, arith, Some, None, below_more}
use Rattle.std.specs.Option.{is_some}
use Rattle.std.specs.declared.cmp.Ordering.{Ordering}
use Rattle.std.specs.declared.cmp.Ordering.TheVariants.{Less, Equal, Greater}
use Rattle.std.specs.List.{position, position_from, slice_get, AllByRecursion}
use Rattle.std.specs.Map.{lookup, keys_of, values_of}
use Rattle.std.specs.Cmp.{IsTotalOrder}
use Rattle.std.specs.Ordering.{is_eq, ordering_reverse, match_ordering}
use Rattle.std.specs.BTreeMap.{BTreeMap, get, IsOrdered, Updates, insert_entry, is_at, keys, values}
use Rattle.std.proofs.lemmas.Iterator.Adapters.{position_from-zero}
use Rattle.std.proofs.lemmas.List.{take_more, take_all}
use Rattle.std.proofs.lemmas.Option.{slice_get_read, slice_get_past, get_or_from_slice_get, none-some}
use Rattle.std.proofs.lemmas.Bool.{cases_lt}
use Rattle.edm_values.specs.Lists.{first_some}
use Rattle.edm_data.specs.KeyOrders.{is_twice, IsFirstTwice, AreDistinct, IsKeyOrder, keyed}
use Rattle.edm_values.proofs.OptionFacts.{first_some-None}
use Rattle.edm_values.proofs.SearchFacts.{is_some-position}

-- ---- the first place at which a test passes

position_from-push : {X : Type 0} (p : X → Bool) (i : ℕ) (xs : List X) (x : X) → position_from p i (xs ++ x ∷ []) ≡ first_some (position_from p i xs) (cond (p x) (Some (i + length xs)) None)
position_from-push p i [] x = elim (p x) as (λ b. cond b (Some i) None ≡ cond b (Some (i + 0)) None) [ true ↦ ap Some (omega arith) | false ↦ refl ]
position_from-push p i (y ∷ ys) x =
    elim (p y) as (λ b. cond b (Some i) (position_from p (i + 1) (ys ++ x ∷ [])) ≡ first_some (cond b (Some i) (position_from p (i + 1) ys)) (cond (p x) (Some (i + suc (length ys))) None)) [ true ↦ refl | false ↦ (let e : (i + 1) + length ys ≡ i + suc (length ys) = omega arith in position_from-push p (i + 1) ys x ∙ ap (λ n. first_some (position_from p (i + 1) ys) (cond (p x) (Some n) None)) e) ]

pub position-push : {X : Type 0} (p : X → Bool) (xs : List X) (x : X) → position p (xs ++ x ∷ []) ≡ first_some (position p xs) (cond (p x) (Some (length xs)) None)
position-push p xs x =
    let e : 0 + length xs ≡ length xs = omega arith in
    position_from-zero p (xs ++ x ∷ []) ∙ position_from-push p 0 xs x ∙ ap (λ n. first_some (position_from p 0 xs) (cond (p x) (Some n) None)) e ∙ ap (λ o. first_some o (cond (p x) (Some (length xs)) None)) (sym (position_from-zero p xs))

position_from-cong : {X : Type 0} (p q : X → Bool) → ((x : X) → p x ≡ q x) → (i : ℕ) (xs : List X) → position_from p i xs ≡ position_from q i xs
position_from-cong p q same i [] = refl
position_from-cong p q same i (x ∷ xs) = rw (same x) (ap (cond (q x) (Some i)) (position_from-cong p q same (i + 1) xs))

pub position-cong : {X : Type 0} (p q : X → Bool) → ((x : X) → p x ≡ q x) → (xs : List X) → position p xs ≡ position q xs
position-cong p q same xs = position_from-zero p xs ∙ position_from-cong p q same 0 xs ∙ sym (position_from-zero q xs)

-- ---- a key more

is_eq-reverse : (r : Ordering) → is_eq (ordering_reverse r) ≡ is_eq r
is_eq-reverse Less = refl
is_eq-reverse Equal = refl
is_eq-reverse Greater = refl

is_eq-flip : {K : Type 0} {R : K → K → Ordering} → IsTotalOrder R → (x y : K) → is_eq (R x y) ≡ is_eq (R y x)
is_eq-flip {R = R} o x y = ap is_eq (o.antisymm x y) ∙ is_eq-reverse (R y x)

Equal-from_is_eq : (r : Ordering) → is_eq r ≡ true → r ≡ Equal
Equal-from_is_eq Less h = cc
Equal-from_is_eq Equal h = refl
Equal-from_is_eq Greater h = cc

-- the map has the first place of each of the first k keys
pub record IsMapOf {K : Type 0} (R : K → K → Ordering) (keys : List K) (k : ℕ) (m : BTreeMap K ℕ) : Type 0 where
  pub found : (q : K) → get R m q ≡ position (λ x. is_eq (R q x)) (take k keys)
  pub exact : AllByRecursion (λ e. slice_get keys e.1 ≡ Some e.0) m.entries
  pub distinct : (q : ℕ) → q < k → is_twice R keys q ≡ false

All-insert_entry : {K X : Type 0} (cmp : K → K → Ordering) (k : K) (v : X) (P : K × X → Type 0) (es : List (K × X)) → lookup (is_at (cmp k)) es ≡ None → AllByRecursion P es → P (k, v) → AllByRecursion P (insert_entry cmp es k v)
All-insert_entry cmp k v P [] absent all here = (here, tt)
All-insert_entry cmp k v P (e ∷ es) absent all here =
    elim (cmp k e.0) as (λ r. cond (is_eq r) (Some e.1) (lookup (is_at (cmp k)) es) ≡ None → AllByRecursion P (match_ordering r ((k, v) ∷ e ∷ es) ((e.0, v) ∷ es) (e ∷ insert_entry cmp es k v))) [ Less ↦ λ h. (here, all) | Equal ↦ λ h. absurd (none-some e.1 (sym h)) | Greater ↦ λ h. (all.0, All-insert_entry cmp k v P es h all.1 here) ] absent

module _ {K : Type 0} {R : K → K → Ordering} (o : IsTotalOrder R) (keys : List K) (k : ℕ) (m n : BTreeMap K ℕ) (key : K) (within : k < length keys) (item : key ≡ get_or keys k key) (so_far : IsMapOf R keys k m) where
  here : slice_get keys k ≡ Some key
  here = slice_get_read keys (length keys) k key refl within item

  twice_is : is_twice R keys k ≡ is_some (get R m key)
  twice_is = rw here (sym (is_some-position (λ y. is_eq (R key y)) (take k keys)) ∙ ap is_some (sym (so_far.found key)))

  -- the key stands in the map, so it stands earlier
  pub IsFirstTwice-found : (v : ℕ) → get R m key ≡ Some v → IsFirstTwice R keys k
  IsFirstTwice-found v found = record { here = twice_is ∙ ap is_some found; before = so_far.distinct }

  one_more : get R m key ≡ None → (q : K) (b : Bool) → is_eq (R key q) ≡ b → cond b (Some k) (get R m q) ≡ first_some (position (λ x. is_eq (R q x)) (take k keys)) (cond b (Some k) None)
  one_more absent q true same =
      let none : position (λ x. is_eq (R q x)) (take k keys) ≡ None = position-cong (λ x. is_eq (R q x)) (λ x. is_eq (R key x)) (λ x. ap is_eq (sym (o.congr key q x (Equal-from_is_eq (R key q) same)))) (take k keys) ∙ sym (so_far.found key) ∙ absent in
      ap (λ p. first_some p (Some k)) (sym none)
  one_more absent q false apart = so_far.found q ∙ sym (first_some-None (position (λ x. is_eq (R q x)) (take k keys)))

  -- the key was put into the map
  pub IsMapOf-more : get R m key ≡ None → Updates R m n key (Some k) → n.entries ≡ insert_entry R m.entries key k → IsMapOf R keys (k + 1) n
  IsMapOf-more absent updates entries = record {
    found = λ q.
        let longer : take (k + 1) keys ≡ take k keys ++ key ∷ [] = take_more keys k key within ∙ ap (λ x. take k keys ++ x ∷ []) (sym item) in
        let size : length (take k keys) ≡ k = simp length-take (omega arith) in
        let first = position (λ x. is_eq (R q x)) (take k keys) in
        updates.0 q
        ∙ one_more absent q (is_eq (R key q)) refl
        ∙ ap (λ b. first_some first (cond b (Some k) None)) (is_eq-flip o key q)
        ∙ ap (λ p. first_some first (cond (is_eq (R q key)) (Some p) None)) (sym size)
        ∙ sym (position-push (λ x. is_eq (R q x)) (take k keys) key)
        ∙ ap (position (λ x. is_eq (R q x))) (sym longer);
    exact = rw entries (All-insert_entry R key k (λ e. slice_get keys e.1 ≡ Some e.0) m.entries absent so_far.exact here);
    distinct = below_more (λ q. is_twice R keys q ≡ false) k so_far.distinct (twice_is ∙ ap is_some absent);
  }

-- no key is in the map yet
pub IsMapOf-none : {K : Type 0} (R : K → K → Ordering) (keys : List K) (m : BTreeMap K ℕ) → m.entries ≡ [] → IsMapOf R keys 0 m
IsMapOf-none R keys m empty = record {
  found = λ q. rw empty refl;
  exact = rw empty tt;
  distinct = λ q h. absurd (omega arith);
}

keyed_are : {K : Type 0} (d : K) (keys : List K) (es : List (K × ℕ)) → AllByRecursion (λ e. slice_get keys e.1 ≡ Some e.0) es → keyed d keys (values_of es) ≡ es
keyed_are d keys [] all = refl
keyed_are d keys (e ∷ es) all = ap (λ x. (x, e.1) ∷ keyed d keys (values_of es)) (get_or_from_slice_get keys e.1 e.0 d all.0) ∙ ap (λ l. e ∷ l) (keyed_are d keys es all.1)

keys_are : {K : Type 0} (d : K) (keys : List K) (es : List (K × ℕ)) → AllByRecursion (λ e. slice_get keys e.1 ≡ Some e.0) es → map (λ p. get_or keys p d) (values_of es) ≡ keys_of es
keys_are d keys [] all = refl
keys_are d keys (e ∷ es) all = ap (λ x. x ∷ map (λ p. get_or keys p d) (values_of es)) (get_or_from_slice_get keys e.1 e.0 d all.0) ∙ ap (λ l. e.0 ∷ l) (keys_are d keys es all.1)

pub not_twice-past : {K : Type 0} (R : K → K → Ordering) (keys : List K) (k : ℕ) → length keys ≤ k → is_twice R keys k ≡ false
not_twice-past R keys k h = rw (slice_get_past keys k h) refl

-- every key is in the map
module _ {K : Type 0} (R : K → K → Ordering) (keys : List K) (n : ℕ) (m : BTreeMap K ℕ) (whole : IsMapOf R keys n m) (all : length keys ≤ n) where
  pub AreDistinct-from_map : AreDistinct R keys
  AreDistinct-from_map k = ⊎_elim (λ h. whole.distinct k h) (λ h. not_twice-past R keys k (omega arith)) (cases_lt k n)

  pub IsKeyOrder-from_map : (order : List ℕ) → order ≡ values m → IsOrdered R m → IsKeyOrder R keys order
  IsKeyOrder-from_map order is ordered = record {
    rises = λ d. rw (is, keys_are d keys m.entries whole.exact) ordered;
    finds = λ d q. rw (is, keyed_are d keys m.entries whole.exact) (whole.found q ∙ ap (position (λ x. is_eq (R q x))) (take_all n keys all));
  }

pub ruleset steps = (IsMapOf-none, IsMapOf-more, IsFirstTwice-found, AreDistinct-from_map, IsKeyOrder-from_map)
