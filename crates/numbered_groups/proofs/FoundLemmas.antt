-- Numbers of codes: one code more, those of a later part, and what they tell of all codes.
use Rattle.std.proofs.Common.{◌≡◌, ◌≢◌, ℕ, zero, suc, ◌+◌, ◌<◌, Bool, true, false, cond, not, List, [], ◌∷◌, ◌++◌, length, get_or, map, filter, Some, refl, sym, ap, subst, ◌∙◌, arith, length-append}
use Rattle.std.specs.Prelude.{All, nat_eq, slice_get}
use Rattle.std.specs.Cmp.{unsigned_Decides}
use Rattle.std.proofs.lemmas.Bool.{not-true, true≢false}
use Rattle.std.proofs.lemmas.List.{length-map, length_push, map-append}
use Rattle.std.proofs.lemmas.List.Elements.{All-cons, All-filter, All-nil, filter_passes}
use Rattle.std.proofs.lemmas.Option.{get_or_from_slice_get, slice_get_within, slice_get-get_or}
use Rattle.indexmap.specs.IndexSet.{insert_all, insert_key}
use Rattle.edm_values.specs.Lists.{distinct, places}
use Rattle.edm_values.proofs.TopPlaces.{map-places}
use Rattle.par_stages.specs.Placed.{placed}
use Rattle.par_stages.proofs.Places.{items-placed, length-placed}
use Rattle.apply_meaning.proofs.AggregateForms.{distinct-next}
use Rattle.aggregate_ops.proofs.JoinLemmas.{distinct-append}
use Rattle.numbered_groups.specs.Found.{AreFoundIn, AreNumbersBy, AreTold, FoundState, same_code}
use Rattle.numbered_groups.proofs.IndexLemmas.{all-more, nat_tests, told-more, told-moved, told-next}
use Rattle.numbered_groups.proofs.ImageLemmas.{alike, below-places, distinct-below, distinct-of_images, images-once}

abbrev code_of : ℕ × ℕ → ℕ
code_of x = x.0

pub found-none : (s : FoundState) → s.heads ≡ [] → s.numbers ≡ [] → AreFoundIn s []
found-none s none empty = record {
  count_is = ap length empty;
  heads_are = none;
  told = ap (map (slice_get s.heads)) empty;
}

-- one code more
pub found-next : (s : FoundState) (heads numbers : List ℕ) (c n p : ℕ) (xs : List (ℕ × ℕ)) → heads ≡ insert_key nat_eq s.heads c → slice_get heads n ≡ Some c → numbers ≡ s.numbers ++ n ∷ [] → AreFoundIn s xs
    → AreFoundIn (record { heads = heads; numbers = numbers }) (xs ++ (c, p) ∷ [])
found-next s heads numbers c n p xs more at behind h =
    let codes : map code_of (xs ++ (c, p) ∷ []) ≡ map code_of xs ++ c ∷ [] = map-append code_of xs ((c, p) ∷ []) in
    record {
      count_is = ap length behind ∙ length_push s.numbers n ∙ ap (λ k. k + 1) h.count_is ∙ sym (length_push xs (c, p));
      heads_are = more ∙ ap (λ hs. insert_key nat_eq hs c) h.heads_are ∙ sym (distinct-next nat_eq nat_tests (map code_of xs) c) ∙ ap (distinct nat_eq) (sym codes);
      told =
          let own : AreTold (insert_key nat_eq s.heads c) (s.numbers ++ n ∷ []) (map code_of xs ++ c ∷ []) = told-next s.heads s.numbers (map code_of xs) c n h.told (ap (λ hs. slice_get hs n) (sym more) ∙ at) in
          (λ i. map (slice_get (more i)) (behind i)) ∙ own ∙ ap (map Some) (sym codes);
    }

-- those of a later part
pub found-behind : (s t : FoundState) (heads moved numbers : List ℕ) (xs ys : List (ℕ × ℕ)) → heads ≡ insert_all nat_eq s.heads t.heads → AreTold heads moved t.heads → numbers ≡ s.numbers ++ map (λ n. get_or moved n 0) t.numbers
    → AreFoundIn s xs → AreFoundIn t ys → AreFoundIn (record { heads = heads; numbers = numbers }) (xs ++ ys)
found-behind s t heads moved numbers xs ys more told behind h k =
    let codes : map code_of (xs ++ ys) ≡ map code_of xs ++ map code_of ys = map-append code_of xs ys in
    let later : List ℕ = map (λ n. get_or moved n 0) t.numbers in
    let rest = all-more t.heads s.heads in
    let longer : heads ≡ s.heads ++ rest.0 = more ∙ rest.1 in
    record {
      count_is = ap length behind ∙ length-append s.numbers later ∙ (λ i. h.count_is i + (length-map t.numbers (λ n. get_or moved n 0) ∙ k.count_is) i) ∙ sym (length-append xs ys);
      heads_are = more ∙ (λ i. insert_all nat_eq (h.heads_are i) (k.heads_are i)) ∙ distinct-append nat_eq nat_tests (map code_of xs) (map code_of ys) ∙ ap (distinct nat_eq) (sym codes);
      told =
          let first : AreTold heads s.numbers (map code_of xs) = ap (λ hs. map (slice_get hs) s.numbers) longer ∙ told-more s.heads rest.0 s.numbers (map code_of xs) h.told in
          let second : AreTold heads later (map code_of ys) = told-moved heads moved t.heads t.numbers (map code_of ys) told k.told in
          ap (map (slice_get heads)) behind ∙ map-append (slice_get heads) s.numbers later ∙ (λ i. first i ++ second i) ∙ sym (map-append Some (map code_of xs) (map code_of ys)) ∙ ap (map Some) (sym codes);
    }

-- ---- no code twice among the heads

abbrev Apart : List ℕ → Type 0
Apart [] = Unit {0}
Apart (x ∷ xs) = All (λ y. nat_eq x y ≡ false) xs × Apart xs

apart-filter : (p : ℕ → Bool) (xs : List ℕ) → Apart xs → Apart (filter p xs)
apart-filter p [] a = tt
apart-filter p (x ∷ xs) a = go (p x) (apart-filter p xs a.1)
  where
    go : (b : Bool) → Apart (filter p xs) → Apart (cond b (x ∷ filter p xs) (filter p xs))
    go true r = (All-filter p (λ y. nat_eq x y ≡ false) xs a.0, r)
    go false r = r

distinct-apart : (xs : List ℕ) → Apart (distinct nat_eq xs)
distinct-apart [] = tt
distinct-apart (x ∷ xs) = (
  λ i d h. not-true (nat_eq x (get_or (filter (λ y. not (nat_eq x y)) (distinct nat_eq xs)) i d)) (filter_passes (λ y. not (nat_eq x y)) (distinct nat_eq xs) i d h),
  apart-filter (λ y. not (nat_eq x y)) (distinct nat_eq xs) (distinct-apart xs),
)

not-there : (x : ℕ) (xs : List ℕ) (n : ℕ) → All (λ y. nat_eq x y ≡ false) xs → slice_get xs n ≢ Some x
not-there x xs n a h =
    let within = slice_get_within xs n x h in
    let is = get_or_from_slice_get xs n x 0 h in
    true≢false (sym ((unsigned_Decides x (get_or xs n 0)).1 (sym is)) ∙ a n 0 within)

-- a code stands at one place
once : (xs : List ℕ) (a b x : ℕ) → Apart xs → slice_get xs a ≡ Some x → slice_get xs b ≡ Some x → a ≡ b
once [] a b x apart p q = absurd (cc)
once (k ∷ xs) zero zero x apart p q = refl
once (k ∷ xs) zero (suc b) x apart p q =
    let e : k ≡ x = cc in
    absurd (not-there k xs b apart.0 (q ∙ ap Some (sym e)))
once (k ∷ xs) (suc a) zero x apart p q =
    let e : k ≡ x = cc in
    absurd (not-there k xs a apart.0 (p ∙ ap Some (sym e)))
once (k ∷ xs) (suc a) (suc b) x apart p q = ap suc (once xs a b x apart.1 p q)

-- ---- all codes

told-at : (heads numbers codes : List ℕ) (i : ℕ) → AreTold heads numbers codes → i < length codes → slice_get heads (get_or numbers i 0) ≡ Some (get_or codes i 0)
told-at heads numbers [] i h less = absurd (omega arith)
told-at heads [] (c ∷ codes) i h less = absurd (cc)
told-at heads (n ∷ numbers) (c ∷ codes) zero h less =
    let first : slice_get heads n ≡ Some c = cc in
    first
told-at heads (n ∷ numbers) (c ∷ codes) (suc i) h less =
    let rest : map (slice_get heads) numbers ≡ map Some codes = cc in
    told-at heads numbers codes i rest (omega arith)

told-there : (heads numbers codes : List ℕ) → AreTold heads numbers codes → All (λ n. n < length heads) numbers
told-there heads [] codes h = All-nil (λ n. n < length heads)
told-there heads (n ∷ numbers) [] h = absurd (cc)
told-there heads (n ∷ numbers) (c ∷ codes) h =
    let first : slice_get heads n ≡ Some c = cc in
    let rest : map (slice_get heads) numbers ≡ map Some codes = cc in
    All-cons (λ n. n < length heads) n numbers (slice_get_within heads n c first) (told-there heads numbers codes rest)

told-codes : (heads numbers codes : List ℕ) → AreTold heads numbers codes → codes ≡ map (λ n. get_or heads n 0) numbers
told-codes heads [] [] h = refl
told-codes heads [] (c ∷ codes) h = absurd (cc)
told-codes heads (n ∷ numbers) [] h = absurd (cc)
told-codes heads (n ∷ numbers) (c ∷ codes) h =
    let first : slice_get heads n ≡ Some c = cc in
    let rest : map (slice_get heads) numbers ≡ map Some codes = cc in
    λ i. sym (get_or_from_slice_get heads n c 0 first) i ∷ told-codes heads numbers codes rest i

pub found-all : (codes : List ℕ) (s : FoundState) (count : ℕ) → count ≡ length s.heads → AreFoundIn s (placed 0 codes) → AreNumbersBy (same_code codes) (length codes) s.numbers count
found-all codes s count many h =
    let items : map code_of (placed 0 codes) ≡ codes = items-placed 0 codes in
    let heads : s.heads ≡ distinct nat_eq codes = h.heads_are ∙ ap (distinct nat_eq) items in
    let told : AreTold s.heads s.numbers codes = h.told ∙ ap (map Some) items in
    let apart : Apart s.heads = subst Apart (sym heads) (distinct-apart codes) in
    let there : All (λ n. n < length s.heads) s.numbers = told-there s.heads s.numbers codes told in
    let m : ℕ = length s.heads in
    let f : ℕ → ℕ = λ n. get_or s.heads n 0 in
    let tells : (a b : ℕ) → a < m → b < m → nat_eq (f a) (f b) ≡ nat_eq a b = λ a b la lb.
    alike (nat_eq (f a) (f b)) (nat_eq a b)
    (λ e. (unsigned_Decides a b).1 (once s.heads a b (f b) apart (slice_get-get_or s.heads a 0 la ∙ ap Some ((unsigned_Decides (f a) (f b)).0 e)) (slice_get-get_or s.heads b 0 lb)))
    (λ e. (unsigned_Decides (f a) (f b)).1 (ap f ((unsigned_Decides a b).0 e))) in
    let images : map f (distinct nat_eq s.numbers) ≡ map f (places m) =
    sym (distinct-of_images nat_eq f m tells s.numbers there) ∙ ap (distinct nat_eq) (sym (told-codes s.heads s.numbers codes told)) ∙ sym heads ∙ sym (map-places s.heads 0) in
    record {
      size = h.count_is ∙ length-placed 0 codes;
      there = subst (λ k. All (λ n. n < k) s.numbers) (sym many) there;
      order = images-once nat_eq nat_tests f m tells (distinct nat_eq s.numbers) (places m) (distinct-below m s.numbers there) (below-places m) images ∙ ap places (sym many);
      told = λ i j li lj.
          alike (nat_eq (get_or s.numbers i 0) (get_or s.numbers j 0)) (same_code codes i j)
          (λ e.
          let same : get_or s.numbers i 0 ≡ get_or s.numbers j 0 = (unsigned_Decides (get_or s.numbers i 0) (get_or s.numbers j 0)).0 e in
          let both : Some (get_or codes i 0) ≡ Some (get_or codes j 0) = sym (told-at s.heads s.numbers codes i told li) ∙ ap (slice_get s.heads) same ∙ told-at s.heads s.numbers codes j told lj in
          let is : get_or codes i 0 ≡ get_or codes j 0 = cc in
          (unsigned_Decides (get_or codes i 0) (get_or codes j 0)).1 is)
          (λ e.
          let is : get_or codes i 0 ≡ get_or codes j 0 = (unsigned_Decides (get_or codes i 0) (get_or codes j 0)).0 e in
          (unsigned_Decides (get_or s.numbers i 0) (get_or s.numbers j 0)).1
          (once s.heads (get_or s.numbers i 0) (get_or s.numbers j 0) (get_or codes j 0) apart (told-at s.heads s.numbers codes i told li ∙ ap Some is) (told-at s.heads s.numbers codes j told lj)));
    }
