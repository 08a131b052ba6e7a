-- Ranks: in a list in order, those before an element are those before the first that ties with it, and their number is the same in any order of the list.
use Rattle.std.proofs.Common.{◌≡◌, ◌⊎◌, inl, inr, ℕ, zero, suc, ◌+◌, ◌-◌, ◌<◌, ◌≤◌, Bool, true, false, cond, List, [], ◌∷◌, length, map, drop, get_or, refl, sym, ◌∙◌, ap, subst, arith, drop-cons, get_or-set_same, get_or-set_other}
use Rattle.std.specs.Prelude.{Err, not, count_by, slice_index, slice_set}
use Rattle.std.specs.Bool.{then_some}
use Rattle.std.specs.List.Sorted.{IsSortedBy, IsStableBy}
use Rattle.std.specs.Cmp.{IsStrictWeakOrder, both_ways}
use Rattle.std.specs.Ordering.{is_eq, is_lt, ordering_reverse}
use Rattle.std.specs.declared.cmp.Ordering.{Ordering}
use Rattle.std.specs.declared.cmp.Ordering.TheVariants.{Less, Equal, Greater}
use Rattle.std.proofs.lemmas.Bool.{true≢false, cases_eq}
use Rattle.std.proofs.lemmas.List.{drop_all, get_or_default, length-set}
use Rattle.std.proofs.lemmas.List.Sorted.{sorted_far}
use Rattle.std.proofs.lemmas.List.Sums.{length-filter}
use Rattle.edm_data.specs.Worlds.{World}
use Rattle.edm_values.specs.declared.refusals.Refused.{Refused}
use Rattle.edm_values.specs.declared.refusals.Refused.TheVariants.{Range, Memory}
use Rattle.edm_values.proofs.EachLemmas.{Each, each-at}
use Rattle.edm_values.proofs.Reorderings.{Reorders, each-reorders, length-reorders, reorders-back, reorders-filter}
use Rattle.edm_values.proofs.SortLaws.{stable_sort_is_sorted, count_cons}
use Rattle.edm_values.proofs.SortedLists.{reorders-sorted}
use Rattle.apply_ast.specs.Trees.{OrderItem}
use Rattle.apply_meaning.specs.Instances.{Instance}
use Rattle.apply_meaning.specs.Meaning.{order_before, order_values, refused_at_beyond}
use Rattle.row_orders.specs.Orders.{RankedPlace, before, item_values, values_cmp}
use Rattle.row_orders.specs.Ranks.{ArePlaces, GivesNumbers, GivesSorted, HaveRanks, IsFormerRank, placed_from, rank_in, ranks}
use Rattle.row_orders.proofs.OrderLemmas.{before-order, beyond-values, values-before, values_cmp_total}

-- ---- counts

-- where exactly the first k pass, k is the count
counted-front : {X : Type 0} (p : X → Bool) (ys : List X) (k : ℕ) → k ≤ length ys → ((j : ℕ) (d : X) → j < k → p (get_or ys j d) ≡ true)
    → ((j : ℕ) (d : X) → k ≤ j → j < length ys → p (get_or ys j d) ≡ false) → count_by p ys ≡ k
counted-front p [] zero h front rest = refl
counted-front p [] (suc k) h front rest = absurd (omega (arith, h))
counted-front p (y ∷ ys) zero h front rest =
    let e = counted-front p ys zero (omega arith) (λ j d l. absurd (omega (arith, l))) (λ j d l m. rest (suc j) d (omega arith) (omega (arith, m))) in
    count_cons p y ys ∙ ap (λ b. cond b 1 0 + count_by p ys) (rest 0 y (omega arith) (omega arith)) ∙ omega (arith, e)
counted-front p (y ∷ ys) (suc k) h front rest =
    let e = counted-front p ys k (omega (arith, h)) (λ j d l. front (suc j) d (omega (arith, l))) (λ j d l m. rest (suc j) d (omega (arith, l)) (omega (arith, m))) in
    count_cons p y ys ∙ ap (λ b. cond b 1 0 + count_by p ys) (front 0 y (omega arith)) ∙ omega (arith, e)

count-same : {X : Type 0} (p q : X → Bool) (xs : List X) → ((x : X) → p x ≡ q x) → count_by p xs ≡ count_by q xs
count-same p q xs h = λ i. count_by (λ x. h x i) xs

count-reorders : {X : Type 0} (p : X → Bool) {xs ys : List X} → Reorders xs ys → count_by p xs ≡ count_by p ys
count-reorders p {xs} {ys} r = sym (length-filter p xs) ∙ length-reorders (reorders-filter p r) ∙ length-filter p ys

-- ---- ranks in a list in order

module _ {X : Type 0} (less : X → X → Bool) (o : IsStrictWeakOrder less) (ys : List X) (up : IsSortedBy less ys) where
  -- what is not behind a is before what a is before
  sooner : (a b c : X) → less a b ≡ false → less a c ≡ true → less b c ≡ true
  sooner a b c g h = by (less b c) refl
    where
      by : (r : Bool) → less b c ≡ r → r ≡ true
      by true e = refl
      by false e = absurd (true≢false (sym h ∙ o.chain a b c g e))

  -- what is before a is before what is not before a
  later : (a b c : X) → less b a ≡ false → less c a ≡ true → less c b ≡ true
  later a b c g h = by (less c b) refl
    where
      by : (r : Bool) → less c b ≡ r → r ≡ true
      by true e = refl
      by false e = absurd (true≢false (sym h ∙ o.chain c b a e g))

  far : (i j : ℕ) (d e : X) → i ≤ j → j < length ys → less (get_or ys j d) (get_or ys i e) ≡ false
  far i j d e l h = ap (λ x. less x (get_or ys i e)) (get_or_default ys j d e h) ∙ sorted_far less o ys up i j e l h

  -- the first of those that tie has its place as its rank
  pub rank-first : (k : ℕ) (d : X) → k < length ys → ((j : ℕ) (e : X) → suc j ≡ k → less (get_or ys j e) (get_or ys k d) ≡ true) → rank_in less ys (get_or ys k d) ≡ k
  rank-first k d h starts = counted-front (λ y. less y (get_or ys k d)) ys k (omega (arith, h)) (front k h starts) (λ j e l m. far k j e d l m)
    where
      front : (k : ℕ) → k < length ys → ((j : ℕ) (e : X) → suc j ≡ k → less (get_or ys j e) (get_or ys k d) ≡ true) → (j : ℕ) (e : X) → j < k → less (get_or ys j e) (get_or ys k d) ≡ true
      front zero h s j e l = absurd (omega (arith, l))
      front (suc m) h s j e l = sooner (get_or ys m e) (get_or ys j e) (get_or ys (suc m) d) (far j m e e (omega (arith, l)) (omega (arith, h))) (s m e refl)

  -- those that tie have one rank
  pub rank-tied : (x y : X) → less x y ≡ false → less y x ≡ false → rank_in less ys x ≡ rank_in less ys y
  rank-tied x y g h = count-same (λ z. less z x) (λ z. less z y) ys (λ z. both_ways (less z x) (less z y) (later x y z h) (later y x z g))

-- ---- the rank at a place of a list in order

equal-not_less : (r : Ordering) → is_eq r ≡ true → is_lt r ≡ false
equal-not_less Less e = absurd (true≢false (sym e))
equal-not_less Equal e = refl
equal-not_less Greater e = absurd (true≢false (sym e))

turned-less : (r : Ordering) → is_lt r ≡ false → is_eq (ordering_reverse r) ≡ false → is_lt (ordering_reverse r) ≡ true
turned-less Less g h = absurd (true≢false g)
turned-less Equal g h = absurd (true≢false h)
turned-less Greater g h = refl

module _ (xs : List OrderItem) (ys : List RankedPlace) (up : IsSortedBy (before xs) ys) (k : ℕ) (within : k < length ys) where
  -- the values at k and those before it
  at : (b d : RankedPlace) → b ≡ get_or ys k b → b ≡ get_or ys k d
  at b d e = e ∙ get_or_default ys k b d within

  at-former : (a d : RankedPlace) → (j : ℕ) → suc j ≡ k → a ≡ get_or ys (k - 1) a → a ≡ get_or ys j d
  at-former a d j s e = let i : k - 1 ≡ j = omega (arith, s) in e ∙ ap (λ n. get_or ys n a) i ∙ get_or_default ys j a d (omega (arith, s, within))

  rising : (a b : RankedPlace) → (k ≡ 0 → ⊥) → a ≡ get_or ys (k - 1) a → b ≡ get_or ys k b → before xs b a ≡ false
  rising a b n e f =
      let i : k - 1 + 1 ≡ k = omega (arith, n) in
      ap (λ y. before xs y a) (f ∙ ap (λ m. get_or ys m b) (sym i) ∙ get_or_default ys (k - 1 + 1) b a (omega (arith, within, i)))
      ∙ ap (before xs (get_or ys (k - 1 + 1) a)) e
      ∙ up (k - 1) a (omega arith) (omega (arith, within, i))

  pub first-rank : k ≡ 0 → (d : RankedPlace) → 0 ≡ rank_in (before xs) ys (get_or ys k d)
  first-rank e d = sym e ∙ sym (rank-first (before xs) (before-order xs) ys up k d within (λ j q s. absurd (omega (arith, s, e))))

  pub new-rank : (a b : RankedPlace) → (k ≡ 0 → ⊥) → a ≡ get_or ys (k - 1) a → b ≡ get_or ys k b → is_eq (values_cmp xs a.0 b.0) ≡ false → (d : RankedPlace) → k ≡ rank_in (before xs) ys (get_or ys k d)
  new-rank a b n e f apart d =
      let r = values_cmp xs b.0 a.0 in
      let turned : values_cmp xs a.0 b.0 ≡ ordering_reverse r = (values_cmp_total xs).antisymm a.0 b.0 in
      let less : before xs a b ≡ true = ap is_lt turned ∙ turned-less r (rising a b n e f) (ap is_eq (sym turned) ∙ apart) in
      sym (rank-first (before xs) (before-order xs) ys up k d within (λ j q s. (λ i. before xs (sym (at-former a q j s e) i) (sym (at b d f) i)) ∙ less))

  pub former-rank : (former : ℕ) (a b : RankedPlace) → (k ≡ 0 → ⊥) → a ≡ get_or ys (k - 1) a → b ≡ get_or ys k b → IsFormerRank (before xs) ys k former → is_eq (values_cmp xs a.0 b.0) ≡ true
      → (d : RankedPlace) → former ≡ rank_in (before xs) ys (get_or ys k d)
  former-rank former a b n e f was tied d =
      was (k - 1) a (omega (arith, n))
      ∙ ap (rank_in (before xs) ys) (sym e)
      ∙ rank-tied (before xs) (before-order xs) ys up a b (equal-not_less (values_cmp xs a.0 b.0) tied) (rising a b n e f)
      ∙ ap (rank_in (before xs) ys) (at b d f)

-- ---- ranks at their places

module _ (less : RankedPlace → RankedPlace → Bool) (ys : List RankedPlace) where
  -- the rank at k, in the loop's form, is that before k + 1
  pub former-next : (k rank : ℕ) → ((d : RankedPlace) → rank ≡ rank_in less ys (get_or ys k d)) → IsFormerRank less ys (k + 1) rank
  former-next k rank is j d s = let e : k ≡ j = omega (arith, s) in is d ∙ ap (λ n. rank_in less ys (get_or ys n d)) e

  pub ranks-next : (rs : List ℕ) (k rank : ℕ) (y : RankedPlace) → ArePlaces ys → k < length ys → y ≡ get_or ys k y → HaveRanks less ys rs k → ((d : RankedPlace) → rank ≡ rank_in less ys (get_or ys k d))
      → HaveRanks less ys (slice_set rs y.1 rank) (k + 1)
  ranks-next rs k rank y places within e have is = record {
    size = length-set rs y.1 rank ∙ have.size;
    stands = λ j d l. by j d l (cases_eq j k);
  }
    where
      own : (d : RankedPlace) → get_or ys k d ≡ y
      own d = get_or_default ys k d y within ∙ sym e

      by : (j : ℕ) (d : RankedPlace) → j < k + 1 → (j ≡ k) ⊎ (j ≡ k → ⊥) → slice_index (slice_set rs y.1 rank) (get_or ys j d).1 ≡ rank_in less ys (get_or ys j d)
      by j d l (inl q) =
          ap (λ n. slice_index (slice_set rs y.1 rank) (get_or ys n d).1) q
          ∙ ap (λ (z : RankedPlace). slice_index (slice_set rs y.1 rank) z.1) (own d)
          ∙ get_or-set_same rs y.1 rank 0 (below-size)
          ∙ is d ∙ ap (λ n. rank_in less ys (get_or ys n d)) (sym q)
        where
          below-size : y.1 < length rs
          below-size = let p = places.below k y within in let s = have.size in subst (λ (z : RankedPlace). z.1 < length rs) (sym e) (omega (arith, p, s))
      by j d l (inr other) =
          get_or-set_other rs y.1 (get_or ys j d).1 rank 0 (λ q. places.differ j k d (omega (arith, l, other)) within (q ∙ ap (λ (z : RankedPlace). z.1) (sym (own d))))
          ∙ have.stands j d (omega (arith, l, other))

-- ---- places of instances, in their own order and in another

abbrev Apart : List RankedPlace → Type 0
Apart [] = Unit {0}
Apart (x ∷ xs) = Each (λ (y : RankedPlace). y.1 ≡ x.1 → ⊥) xs × Apart xs

apart-reorders : {xs ys : List RankedPlace} → Reorders xs ys → Apart xs → Apart ys
apart-reorders Reorders.none a = a
apart-reorders (Reorders.keep x r) a = (each-reorders (λ (y : RankedPlace). y.1 ≡ x.1 → ⊥) r a.0, apart-reorders r a.1)
apart-reorders (Reorders.swap x y xs) a = ((λ e. a.0.0 (sym e), a.1.0), (a.0.1, a.1.1))
apart-reorders (Reorders.join r s) a = apart-reorders s (apart-reorders r a)

apart-at : (ys : List RankedPlace) (j k : ℕ) (d : RankedPlace) → j < k → k < length ys → Apart ys → (get_or ys j d).1 ≡ (get_or ys k d).1 → ⊥
apart-at [] j k d l h a e = omega (arith, h)
apart-at (y ∷ ys) j zero d l h a e = omega (arith, l)
apart-at (y ∷ ys) zero (suc k) d l h a e = each-at (λ (z : RankedPlace). z.1 ≡ y.1 → ⊥) ys k d (omega (arith, h)) a.0 (sym e)
apart-at (y ∷ ys) (suc j) (suc k) d l h a e = apart-at ys j k d (omega (arith, l)) (omega (arith, h)) a.1 e

each-of : {X : Type 0} (P : X → Type 0) (xs : List X) → ((k : ℕ) (d : X) → k < length xs → P (get_or xs k d)) → Each P xs
each-of P [] h = tt
each-of P (x ∷ xs) h = (h 0 x (omega arith), each-of P xs (λ k d l. h (suc k) d (omega (arith, l))))

module _ (w : World) (xs : List OrderItem) where
  pub placed-length : (n : ℕ) (l : List Instance) → length (placed_from w xs n l) ≡ length l
  placed-length n [] = refl
  placed-length n (i ∷ l) = ap suc (placed-length (suc n) l)

  placed-below : (n m : ℕ) (l : List Instance) → n + length l ≤ m → Each (λ (y : RankedPlace). y.1 < m) (placed_from w xs n l)
  placed-below n m [] h = tt
  placed-below n m (i ∷ l) h = (omega (arith, h), placed-below (suc n) m l (omega (arith, h)))

  placed-other : (n m : ℕ) (l : List Instance) → m < n → Each (λ (y : RankedPlace). y.1 ≡ m → ⊥) (placed_from w xs n l)
  placed-other n m [] h = tt
  placed-other n m (i ∷ l) h = (λ e. omega (arith, h, e), placed-other (suc n) m l (omega (arith, h)))

  placed-apart : (n : ℕ) (l : List Instance) → Apart (placed_from w xs n l)
  placed-apart n [] = tt
  placed-apart n (i ∷ l) = (placed-other (suc n) n l (omega arith), placed-apart (suc n) l)

  -- the rank among the places is that among the instances
  placed-rank : (n m : ℕ) (l : List Instance) (i : Instance) → rank_in (before xs) (placed_from w xs n l) (item_values w xs i, m) ≡ count_by (λ j. order_before w xs j i) l
  placed-rank n m [] i = refl
  placed-rank n m (j ∷ l) i =
      count_cons (λ (y : RankedPlace). before xs y (item_values w xs i, m)) (item_values w xs j, n) (placed_from w xs (suc n) l)
      ∙ (λ t. cond (sym (values-before w xs j i) t) 1 0 + placed-rank (suc n) m l i t)
      ∙ sym (count_cons (λ q. order_before w xs q i) j l)

  -- ranks that stand at their places are a list
  listed : (f : Instance → ℕ) (g : RankedPlace → ℕ) → ((i : Instance) (n : ℕ) → g (item_values w xs i, n) ≡ f i) → (rs : List ℕ) (n : ℕ) (l : List Instance) → length rs ≡ n + length l
      → Each (λ (y : RankedPlace). slice_index rs y.1 ≡ g y) (placed_from w xs n l) → drop n rs ≡ map f l
  listed f g h rs n [] size a = drop_all n rs (omega (arith, size))
  listed f g h rs n (i ∷ l) size a =
      drop-cons rs n 0 (omega (arith, size))
      ∙ (λ t. (a.0 ∙ h i n) t ∷ listed f g h rs (suc n) l (omega (arith, size)) a.1 t)

  module _ (l : List Instance) (ys : List RankedPlace) (up : IsSortedBy (before xs) ys) (stable : IsStableBy (before xs) (placed_from w xs 0 l) ys) where
    moved : Reorders (placed_from w xs 0 l) ys
    moved = subst (Reorders (placed_from w xs 0 l)) (stable_sort_is_sorted (before xs) (before-order xs) (placed_from w xs 0 l) ys up stable) (reorders-sorted (before xs) (before-order xs) (placed_from w xs 0 l))

    pub moved-length : length ys ≡ length l
    moved-length = sym (length-reorders moved) ∙ placed-length 0 l

    pub moved-places : ArePlaces ys
    moved-places = record {
      below = λ k d h. let s = moved-length in each-at (λ (y : RankedPlace). y.1 < length ys) ys k d h (each-reorders (λ (y : RankedPlace). y.1 < length ys) moved (placed-below 0 (length ys) l (omega (arith, s))));
      differ = λ j k d g h. apart-at ys j k d g h (apart-reorders moved (placed-apart 0 l));
    }

    -- the ranks at the places are those of the instances
    pub ranks-are : (rs : List ℕ) → HaveRanks (before xs) ys rs (length ys) → rs ≡ ranks w xs l
    ranks-are rs have =
        listed (λ i. count_by (λ j. order_before w xs j i) l) (rank_in (before xs) (placed_from w xs 0 l)) (λ i n. placed-rank 0 n l i) rs 0 l (let e = moved-length in let f = have.size in omega (arith, e, f))
        (each-reorders (λ (y : RankedPlace). slice_index rs y.1 ≡ rank_in (before xs) (placed_from w xs 0 l) y) (reorders-back moved)
        (each-of (λ (y : RankedPlace). slice_index rs y.1 ≡ rank_in (before xs) (placed_from w xs 0 l) y) ys (λ k d h. have.stands k d h ∙ sym (count-reorders (λ y. before xs y (get_or ys k d)) moved))))

-- a refusal where one of the values is `Beyond`
pub ranks-refused : (e : Refused) (w : World) (xs : List OrderItem) (l : List Instance) (r : List ℕ) → GivesSorted (Err e) w xs l → GivesNumbers (Err e) (refused_at_beyond (order_values w xs l) r)
ranks-refused Range w xs l r h = ap (λ b. then_some (not b) r) (beyond-values w xs l ∙ h)
ranks-refused Memory w xs l r h = tt
