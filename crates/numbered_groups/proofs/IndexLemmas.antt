-- A list that has at each code its number: with more room, with one code more.
use Rattle.std.proofs.Common.{◌≡◌, ◌≢◌, ℕ, zero, suc, ◌+◌, ◌-◌, ◌<◌, ◌≤◌, Bool, true, false, ◌||◌, List, [], ◌∷◌, ◌++◌, length, get_or, set, take, map, if◌then◌else◌, Some, refl, sym, ap, subst, ◌∙◌, arith, inl, inr, length-append, length-set, replicate, append_assoc}
use Rattle.std.specs.Prelude.{◌⊎◌, nat_eq, slice_get}
use Rattle.std.specs.Cmp.{unsigned_Decides}
use Rattle.std.specs.List.{list_any}
use Rattle.std.proofs.lemmas.Bool.{cases_eq}
use Rattle.std.proofs.lemmas.List.{append-nil, get_or-append_right, get_or-replicate, get_or-set_same, get_or-set_other, get_or_append_left, length-replicate, length_push, map-append, take_all, take_more}
use Rattle.std.proofs.lemmas.Option.{slice_get_within}
use Rattle.indexmap.specs.IndexSet.{insert_all, insert_key}
use Rattle.edm_values.proofs.Reorderings.{TestsEquality}
use Rattle.numbered_groups.specs.Found.{AreTold, IsIndex, no_number}

-- equality of numbers
pub nat_tests : TestsEquality nat_eq
nat_tests = record { same = λ x y h. (unsigned_Decides x y).0 h; itself = λ x. (unsigned_Decides x x).1 refl }

-- by two cases
pub either : {A B C : Type 0} → A ⊎ B → (A → C) → (B → C) → C
either (inl a) f g = f a
either (inr b) f g = g b

-- ---- elements of lists

pub there-left : {X : Type 0} (xs ys : List X) (n : ℕ) (x : X) → slice_get xs n ≡ Some x → slice_get (xs ++ ys) n ≡ Some x
there-left [] ys n x h = absurd (cc)
there-left (y ∷ xs) ys zero x h = h
there-left (y ∷ xs) ys (suc n) x h = there-left xs ys n x h

pub there-last : {X : Type 0} (xs : List X) (x : X) → slice_get (xs ++ x ∷ []) (length xs) ≡ Some x
there-last [] x = refl
there-last (y ∷ xs) x = there-last xs x

-- an element of a list with one more is one of the list, or the last
there-of : {X : Type 0} (xs : List X) (x y : X) (n : ℕ) → slice_get (xs ++ x ∷ []) n ≡ Some y → (slice_get xs n ≡ Some y) ⊎ ((n ≡ length xs) × (x ≡ y))
there-of [] x y zero h = inr (refl, cc)
there-of [] x y (suc n) h = absurd (cc)
there-of (z ∷ xs) x y zero h = inl h
there-of (z ∷ xs) x y (suc n) h = either (there-of xs x y n h) (λ l. inl l) (λ r. inr (ap suc r.0, r.1))

-- whether a code is among the heads
any-there : (heads : List ℕ) (n c : ℕ) → slice_get heads n ≡ Some c → list_any (nat_eq c) heads ≡ true
any-there [] n c h = absurd (cc)
any-there (x ∷ heads) zero c h =
    let e : x ≡ c = cc in
    ap (λ b. b || list_any (nat_eq c) heads) ((unsigned_Decides c x).1 (sym e))
any-there (x ∷ heads) (suc n) c h = go (nat_eq c x) (any-there heads n c h)
  where
    go : (b : Bool) → list_any (nat_eq c) heads ≡ true → (b || list_any (nat_eq c) heads) ≡ true
    go true e = refl
    go false e = e

any-absent : (heads : List ℕ) (c : ℕ) → ((n : ℕ) → slice_get heads n ≢ Some c) → list_any (nat_eq c) heads ≡ false
any-absent [] c h = refl
any-absent (x ∷ heads) c h = go (nat_eq c x) refl (any-absent heads c (λ n. h (suc n)))
  where
    go : (b : Bool) → nat_eq c x ≡ b → list_any (nat_eq c) heads ≡ false → (nat_eq c x || list_any (nat_eq c) heads) ≡ false
    go true e r = absurd (h zero (ap Some (sym ((unsigned_Decides c x).0 e))))
    go false e r = ap (λ b. b || list_any (nat_eq c) heads) e ∙ r

-- ---- the index

pub index-empty : (heads table : List ℕ) → heads ≡ [] → table ≡ [] → IsIndex heads table
index-empty heads table none empty = record {
  few = subst (λ hs. length hs ≤ no_number) (sym none) (omega arith);
  back = λ c h. absurd (let e = ap length empty in omega (arith, e, h));
  forth = λ j c h. absurd (let e : slice_get {X = ℕ} [] j ≡ Some c = ap (λ hs. slice_get hs j) (sym none) ∙ h in cc);
}

-- with more room
pub index-roomy : (heads table : List ℕ) (more : ℕ) → IsIndex heads table → IsIndex heads (table ++ replicate more no_number)
index-roomy heads table more i = record {
  few = i.few;
  back = λ c h. either (before c) (λ less.
      let e = get_or_append_left table (replicate more no_number) 0 c less in
      either (i.back c less) (λ n. inl (e ∙ n)) (λ s. inr (ap (slice_get heads) e ∙ s)))
      (λ past. inl (get_or-append_right table (replicate more no_number) (length table) c 0 refl past ∙ get_or-replicate more (c - length table) no_number 0 (let e = length-append table (replicate more no_number) in let f = length-replicate more no_number in omega (arith, e, f, h, past))));
  forth = λ j c h.
      let own = i.forth j c h in
      (let e = length-append table (replicate more no_number) in omega (arith, e, own.0), get_or_append_left table (replicate more no_number) 0 c own.0 ∙ own.1);
}
  where
    before : (c : ℕ) → (c < length table) ⊎ (length table ≤ c)
    before c = search arith

-- as a list of the program is made longer
pub index-grown : (heads table grown : List ℕ) (n m : ℕ) (b : Bool) → IsIndex heads table → length table ≤ n → grown ≡ (if b then take n table ++ replicate m no_number else table) → IsIndex heads grown
index-grown heads table grown n m true i long is = subst (IsIndex heads) (ap (λ t. t ++ replicate m no_number) (sym (take_all n table long)) ∙ sym is) (index-roomy heads table m i)
index-grown heads table grown n m false i long is = subst (IsIndex heads) (sym is) i

-- a code that has a number
pub index-known : (heads table : List ℕ) (c n : ℕ) → IsIndex heads table → c < length table → get_or table c 0 ≡ n → n ≢ no_number → slice_get heads n ≡ Some c
index-known heads table c n i h is some = either (i.back c h) (λ none. absurd (some (sym is ∙ none))) (λ s. ap (slice_get heads) (sym is) ∙ s)

pub known-stays : (heads : List ℕ) (c n : ℕ) → slice_get heads n ≡ Some c → heads ≡ insert_key nat_eq heads c
known-stays heads c n h = sym (ap (λ b. if b then heads else heads ++ c ∷ []) (any-there heads n c h))

-- a code that has none
absent : (heads table : List ℕ) (c : ℕ) → IsIndex heads table → get_or table c 0 ≡ no_number → (n : ℕ) → slice_get heads n ≢ Some c
absent heads table c i none n h =
    let own = i.forth n c h in
    let within = slice_get_within heads n c h in
    let few = i.few in
    let e : n ≡ no_number = sym own.1 ∙ none in
    absurd (omega (arith, e, within, few))

pub new-behind : (heads table : List ℕ) (c : ℕ) → IsIndex heads table → get_or table c 0 ≡ no_number → heads ++ c ∷ [] ≡ insert_key nat_eq heads c
new-behind heads table c i none = sym (ap (λ b. if b then heads else heads ++ c ∷ []) (any-absent heads c (absent heads table c i none)))

pub index-more : (heads table : List ℕ) (c : ℕ) → IsIndex heads table → c < length table → get_or table c 0 ≡ no_number → length heads < no_number → IsIndex (heads ++ c ∷ []) (set table c (length heads))
index-more heads table c i h none few = record {
  few = let e = length_push heads c in omega (arith, e, few);
  back = λ d g.
      let less : d < length table = let e = length-set table c (length heads) in omega (arith, e, g) in
      either (is-it d) (λ e. inr (ap (λ m. slice_get (heads ++ c ∷ []) (get_or (set table c (length heads)) m 0)) e ∙ ap (slice_get (heads ++ c ∷ [])) (get_or-set_same table c (length heads) 0 h) ∙ there-last heads c ∙ ap Some (sym e)))
      (λ n.
      let same = get_or-set_other table c d (length heads) 0 n in
      either (i.back d less) (λ no. inl (same ∙ no)) (λ s. inr (ap (slice_get (heads ++ c ∷ [])) same ∙ there-left heads (c ∷ []) (get_or table d 0) d s)));
  forth = λ j d s. either (there-of heads c d j s)
      (λ old.
      let own = i.forth j d old in
      let apart : d ≢ c = λ e. absent heads table c i none j (old ∙ ap Some e) in
      (let e = length-set table c (length heads) in omega (arith, e, own.0), get_or-set_other table c d (length heads) 0 apart ∙ own.1))
      (λ new. (let e = length-set table c (length heads) in let f = new.1 in omega (arith, e, h, f), ap (λ m. get_or (set table c (length heads)) m 0) (sym new.1) ∙ get_or-set_same table c (length heads) 0 h ∙ sym new.0));
}
  where
    is-it : (d : ℕ) → (d ≡ c) ⊎ (d ≢ c)
    is-it d = cases_eq d c

-- ---- numbers of codes

-- the codes of a list, one more
all-behind : (codes heads : List ℕ) (c : ℕ) → insert_all nat_eq heads (codes ++ c ∷ []) ≡ insert_key nat_eq (insert_all nat_eq heads codes) c
all-behind [] heads c = refl
all-behind (k ∷ codes) heads c = all-behind codes (insert_key nat_eq heads k) c

pub all-next : (heads codes : List ℕ) (i d : ℕ) → i < length codes → insert_all nat_eq heads (take (i + 1) codes) ≡ insert_key nat_eq (insert_all nat_eq heads (take i codes)) (get_or codes i d)
all-next heads codes i d h = ap (insert_all nat_eq heads) (take_more codes i d h) ∙ all-behind (take i codes) heads (get_or codes i d)

-- more heads
inserted-more : (heads : List ℕ) (c : ℕ) → (zs : List ℕ) × (insert_key nat_eq heads c ≡ heads ++ zs)
inserted-more heads c = go (list_any (nat_eq c) heads)
  where
    go : (b : Bool) → (zs : List ℕ) × ((if b then heads else heads ++ c ∷ []) ≡ heads ++ zs)
    go true = ([], sym (append-nil heads))
    go false = (c ∷ [], refl)

pub all-more : (codes heads : List ℕ) → (zs : List ℕ) × (insert_all nat_eq heads codes ≡ heads ++ zs)
all-more [] heads = ([], sym (append-nil heads))
all-more (c ∷ codes) heads =
    let one = inserted-more heads c in
    let rest = all-more codes (insert_key nat_eq heads c) in
    (one.0 ++ rest.0, rest.1 ∙ ap (λ hs. hs ++ rest.0) one.1 ∙ append_assoc heads one.0 rest.0)

pub told-more : (heads zs numbers codes : List ℕ) → AreTold heads numbers codes → AreTold (heads ++ zs) numbers codes
told-more heads zs [] [] h = refl
told-more heads zs [] (c ∷ codes) h = absurd (cc)
told-more heads zs (n ∷ numbers) [] h = absurd (cc)
told-more heads zs (n ∷ numbers) (c ∷ codes) h =
    let first : slice_get heads n ≡ Some c = cc in
    let rest : map (slice_get heads) numbers ≡ map Some codes = cc in
    λ i. there-left heads zs n c first i ∷ told-more heads zs numbers codes rest i

-- one number more
pub told-next : (heads numbers codes : List ℕ) (c n : ℕ) → AreTold heads numbers codes → slice_get (insert_key nat_eq heads c) n ≡ Some c → AreTold (insert_key nat_eq heads c) (numbers ++ n ∷ []) (codes ++ c ∷ [])
told-next heads numbers codes c n h is =
    let more = inserted-more heads c in
    let before : AreTold (insert_key nat_eq heads c) numbers codes = subst (λ hs. AreTold hs numbers codes) (sym more.1) (told-more heads more.0 numbers codes h) in
    map-append (slice_get (insert_key nat_eq heads c)) numbers (n ∷ []) ∙ (λ i. before i ++ is i ∷ []) ∙ sym (map-append Some codes (c ∷ []))

-- the numbers of numbers
moved-at : (heads moved before : List ℕ) (n c : ℕ) → AreTold heads moved before → slice_get before n ≡ Some c → slice_get heads (get_or moved n 0) ≡ Some c
moved-at heads moved [] n c h is = absurd (cc)
moved-at heads [] (b ∷ before) n c h is = absurd (cc)
moved-at heads (m ∷ moved) (b ∷ before) zero c h is =
    let first : slice_get heads m ≡ Some b = cc in
    first ∙ is
moved-at heads (m ∷ moved) (b ∷ before) (suc n) c h is =
    let rest : map (slice_get heads) moved ≡ map Some before = cc in
    moved-at heads moved before n c rest is

pub told-moved : (heads moved before numbers codes : List ℕ) → AreTold heads moved before → AreTold before numbers codes → AreTold heads (map (λ n. get_or moved n 0) numbers) codes
told-moved heads moved before [] [] h k = refl
told-moved heads moved before [] (c ∷ codes) h k = absurd (cc)
told-moved heads moved before (n ∷ numbers) [] h k = absurd (cc)
told-moved heads moved before (n ∷ numbers) (c ∷ codes) h k =
    let first : slice_get before n ≡ Some c = cc in
    let rest : map (slice_get before) numbers ≡ map Some codes = cc in
    λ i. moved-at heads moved before n c h first i ∷ told-moved heads moved before numbers codes h rest i
