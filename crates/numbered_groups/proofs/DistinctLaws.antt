-- The distinct values of rows that are told by numbers, and of the rows of each group.
use Rattle.std.proofs.Common.{◌≡◌, ◌≢◌, ◌∙◌, ℕ, zero, suc, ◌+◌, ◌<◌, Bool, true, false, cond, not, ◌&&◌, ◌||◌, List, [], ◌∷◌, Option, Some, None, length, get_or, set, take, map, filter, if◌then◌else◌, refl, sym, ap, subst, arith, ⊎_elim, get_or-set_same, get_or-set_other}
use Rattle.std.specs.Prelude.{All, count_by, nat_eq, option_map, pos, slice_get}
use Rattle.std.specs.Cmp.{unsigned_Decides}
use Rattle.std.specs.List.{cons_option, list_any}
use Rattle.std.proofs.lemmas.Bool.{and_from, and_parts, cases_eq, true≢false}
use Rattle.std.proofs.lemmas.Bool.Decides.{nat_tests}
use Rattle.std.proofs.lemmas.Grind.{get_or_default_zero}
use Rattle.std.proofs.lemmas.List.{ext_get_or, get_or-map, length-map}
use Rattle.std.proofs.lemmas.List.Elements.{All-filter, All-from_get_or, All-get_or, All-head, All-map, All-tail, All-weaker}
use Rattle.std.proofs.lemmas.List.Sums.{count_by_more_no, count_by_more_yes, sum_by-cons}
use Rattle.std.proofs.lemmas.Option.{unwrap_or-slice_get}
use Rattle.std.proofs.lemmas.Simd.{map-map}
use Rattle.edm_values.specs.declared.Method.TheVariants as by
use Rattle.edm_values.specs.declared.Value.{Value}
use Rattle.edm_values.specs.Lists.{at_places, distinct, places}
use Rattle.edm_values.specs.Values.{is_beyond, is_null, same_value, value_in}
use Rattle.edm_values.proofs.PlaceFacts.{map-agree_places}
use Rattle.edm_values.proofs.Reorderings.{TestsEquality, filter-swapped}
use Rattle.edm_values.proofs.TopPlaces.{map-places}
use Rattle.edm_values.proofs.ValueOrders.{same_value_tests}
use Rattle.apply_meaning.specs.Aggregates.{aggregate}
use Rattle.par_stages.specs.Placed.{placed}
use Rattle.par_stages.proofs.Passing.{filter-map, passing, passing-items, placed-map}
use Rattle.numbered_groups.specs.Distincts.{AreNumberedValues, AreToldNulls, same_values}
use Rattle.value_codes.specs.Codes.{AreCodes, CodeList}
use Rattle.numbered_groups.specs.Found.{AreNumbersBy, same_code, same_pair}
use Rattle.numbered_groups.specs.Levels.{IsNumberingBy}
use Rattle.numbered_groups.specs.Numbered.{Numbering, places_with}
use Rattle.numbered_groups.proofs.ImageLemmas.{distinct-of_images}
use Rattle.numbered_groups.proofs.LevelLemmas.{by_other}
use Rattle.numbered_groups.proofs.PairLemmas.{by_test}

-- ---- distinct items of a list

-- items that do not pass may be taken out before
not-passing : {X : Type 0} (eq : X → X → Bool) → TestsEquality eq → (p : X → Bool) (x : X) → p x ≡ false → (ys : List X) → filter p (filter (λ y. not (eq x y)) ys) ≡ filter p ys
not-passing eq t p x none [] = refl
not-passing {X} eq t p x none (y ∷ ys) = go (eq x y) refl (not-passing eq t p x none ys)
  where
    rest : List X
    rest = filter (λ z. not (eq x z)) ys

    go : (b : Bool) → eq x y ≡ b → filter p rest ≡ filter p ys → filter p (cond (not b) (y ∷ rest) rest) ≡ cond (p y) (y ∷ filter p ys) (filter p ys)
    go true e h = h ∙ sym (ap (λ c. cond c (y ∷ filter p ys) (filter p ys)) (ap p (sym (t.same x y e)) ∙ none))
    go false e h = ap (λ l. cond (p y) (y ∷ l) l) h

-- the distinct items that pass are the distinct ones of those that do
filter-distinct : {X : Type 0} (eq : X → X → Bool) → TestsEquality eq → (p : X → Bool) (xs : List X) → filter p (distinct eq xs) ≡ distinct eq (filter p xs)
filter-distinct eq t p [] = refl
filter-distinct {X} eq t p (x ∷ xs) = go (p x) refl (filter-distinct eq t p xs)
  where
    rest : List X
    rest = filter (λ y. not (eq x y)) (distinct eq xs)

    go : (b : Bool) → p x ≡ b → filter p (distinct eq xs) ≡ distinct eq (filter p xs) → cond b (x ∷ filter p rest) (filter p rest) ≡ distinct eq (cond b (x ∷ filter p xs) (filter p xs))
    go true e h = ap (λ l. x ∷ l) (filter-swapped p (λ y. not (eq x y)) (distinct eq xs) ∙ ap (filter (λ y. not (eq x y))) h)
    go false e h = not-passing eq t p x e (distinct eq xs) ∙ h

-- the distinct images, where two are the same exactly where the items are
images-without : {X Y : Type 0} (eq : X → X → Bool) (other : Y → Y → Bool) (f : Y → X) → ((a b : Y) → eq (f a) (f b) ≡ other a b) → (y : Y) (ys : List Y) → filter (λ x. not (eq (f y) x)) (map f ys) ≡ map f (filter (λ b. not (other y b)) ys)
images-without eq other f tells y [] = refl
images-without {X} {Y} eq other f tells y (z ∷ ys) = go (other y z) (tells y z) (images-without eq other f tells y ys)
  where
    left : List X
    left = filter (λ x. not (eq (f y) x)) (map f ys)

    right : List Y
    right = filter (λ b. not (other y b)) ys

    go : (b : Bool) → eq (f y) (f z) ≡ b → left ≡ map f right → cond (not (eq (f y) (f z))) (f z ∷ left) left ≡ map f (cond (not b) (z ∷ right) right)
    go true e h = ap (λ c. cond (not c) (f z ∷ left) left) e ∙ h
    go false e h = ap (λ c. cond (not c) (f z ∷ left) left) e ∙ ap (λ l. f z ∷ l) h

distinct-images : {X Y : Type 0} (eq : X → X → Bool) (other : Y → Y → Bool) (f : Y → X) → ((a b : Y) → eq (f a) (f b) ≡ other a b) → (ys : List Y) → distinct eq (map f ys) ≡ map f (distinct other ys)
distinct-images eq other f tells [] = refl
distinct-images eq other f tells (y ∷ ys) = ap (λ l. f y ∷ l) (ap (filter (λ x. not (eq (f y) x))) (distinct-images eq other f tells ys) ∙ images-without eq other f tells y (distinct other ys))

-- the distinct items of a list are those at the first row of each number
module _ {X : Type 0} (eq : X → X → Bool) (t : TestsEquality eq) (xs : List X) (d : X) (n : Numbering) (h : IsNumberingBy (λ i j. eq (get_or xs i d) (get_or xs j d)) (length xs) n) where
  abbrev many : ℕ
  many = length n.firsts

  abbrev item_of : ℕ → X
  item_of j = get_or xs (get_or n.firsts j 0) d

  first-there : (j : ℕ) → j < many → get_or n.firsts j 0 < length xs
  first-there j less = let e = h.firsts_are.there j less in let s = h.numbers_are.size in omega (arith, e, s)

  items-tell : (a b : ℕ) → a < many → b < many → eq (item_of a) (item_of b) ≡ nat_eq a b
  items-tell a b la lb =
      sym (h.numbers_are.told (get_or n.firsts a 0) (get_or n.firsts b 0) (first-there a la) (first-there b lb))
      ∙ (λ i. nat_eq (h.firsts_are.are a la i) (h.firsts_are.are b lb i))

  item-is : (i : ℕ) → i < length xs → get_or xs i d ≡ item_of (get_or n.numbers i 0)
  item-is i less =
      let x = get_or n.numbers i 0 in
      let within : i < length n.numbers = let s = h.numbers_are.size in omega (arith, s, less) in
      let lx : x < many = All-get_or (λ k. k < many) n.numbers i 0 within h.numbers_are.there in
      t.same (get_or xs i d) (item_of x)
      (sym (h.numbers_are.told i (get_or n.firsts x 0) less (first-there x lx)) ∙ ap (nat_eq x) (h.firsts_are.are x lx) ∙ (unsigned_Decides x x).1 refl)

  items-are : xs ≡ map item_of n.numbers
  items-are = ext_get_or d xs (map item_of n.numbers) (sym (length-map n.numbers item_of ∙ h.numbers_are.size))
      (λ i less. item-is i less ∙ sym (get_or-map item_of n.numbers i 0 d (let s = h.numbers_are.size in omega (arith, s, less))))

  pub distinct-firsts : distinct eq xs ≡ map (λ f. get_or xs f d) n.firsts
  distinct-firsts =
      ap (distinct eq) items-are
      ∙ distinct-of_images eq item_of many items-tell n.numbers h.numbers_are.there
      ∙ ap (map item_of) h.numbers_are.order
      ∙ sym (map-map (λ f. get_or xs f d) (λ j. get_or n.firsts j 0) (places many))
      ∙ ap (map (λ f. get_or xs f d)) (map-places n.firsts 0)

-- ---- numbers beside values

abbrev pub beside : List ℕ → List Value → List (ℕ × Value)
beside [] vs = []
beside (n ∷ ns) [] = []
beside (n ∷ ns) (v ∷ vs) = (n, v) ∷ beside ns vs

abbrev nothing : ℕ × Value
nothing = (0, Value.Null)

beside-read : (ns : List ℕ) (vs : List Value) (i : ℕ) → length ns ≡ length vs → i < length ns → get_or (beside ns vs) i nothing ≡ (get_or ns i 0, get_or vs i Value.Null)
beside-read [] vs i e h = absurd (omega (arith, h))
beside-read (n ∷ ns) [] i e h = absurd (omega (arith, e))
beside-read (n ∷ ns) (v ∷ vs) zero e h = refl
beside-read (n ∷ ns) (v ∷ vs) (suc i) e h = beside-read ns vs i (omega (arith, e)) (omega (arith, h))

beside-long : (ns : List ℕ) (vs : List Value) → length ns ≡ length vs → length (beside ns vs) ≡ length vs
beside-long [] [] e = refl
beside-long [] (v ∷ vs) e = absurd (omega (arith, e))
beside-long (n ∷ ns) [] e = absurd (omega (arith, e))
beside-long (n ∷ ns) (v ∷ vs) e = ap suc (beside-long ns vs (omega (arith, e)))

beside-numbers : (ns : List ℕ) (vs : List Value) → length ns ≡ length vs → map (λ x. x.0) (beside ns vs) ≡ ns
beside-numbers [] vs e = refl
beside-numbers (n ∷ ns) [] e = absurd (omega (arith, e))
beside-numbers (n ∷ ns) (v ∷ vs) e = ap (λ l. n ∷ l) (beside-numbers ns vs (omega (arith, e)))

beside-values : (ns : List ℕ) (vs : List Value) → length ns ≡ length vs → map (λ x. x.1) (beside ns vs) ≡ vs
beside-values [] [] e = refl
beside-values [] (v ∷ vs) e = absurd (omega (arith, e))
beside-values (n ∷ ns) [] e = absurd (omega (arith, e))
beside-values (n ∷ ns) (v ∷ vs) e = ap (λ l. v ∷ l) (beside-values ns vs (omega (arith, e)))

abbrev same_both : ℕ × Value → ℕ × Value → Bool
same_both a b = nat_eq a.0 b.0 && same_value a.1 b.1

both_tests : TestsEquality same_both
both_tests = record {
  same = λ a b h. let p = and_parts (nat_eq a.0 b.0) (same_value a.1 b.1) h in λ i. ((unsigned_Decides a.0 b.0).0 p.0 i, same_value_tests.same a.1 b.1 p.1 i);
  itself = λ a. and_from (nat_eq a.0 a.0) (same_value a.1 a.1) ((unsigned_Decides a.0 a.0).1 refl) (same_value_tests.itself a.1);
}

-- ---- the values of a group

-- what is made of those at places
made-at : {X Y : Type 0} (g : X → Y) (xs : List X) (ks : List ℕ) → at_places (map g xs) ks ≡ map g (at_places xs ks)
made-at g xs [] = refl
made-at {X} {Y} g xs (k ∷ ks) = ap (λ o. cons_option o (at_places (map g xs) ks)) (there xs k) ∙ go (slice_get xs k) (made-at g xs ks)
  where
    there : (xs : List X) (k : ℕ) → slice_get (map g xs) k ≡ option_map g (slice_get xs k)
    there [] k = refl
    there (x ∷ xs) zero = refl
    there (x ∷ xs) (suc k) = there xs k

    go : (o : Option X) → at_places (map g xs) ks ≡ map g (at_places xs ks) → cons_option (option_map g o) (at_places (map g xs) ks) ≡ map g (cons_option o (at_places xs ks))
    go None h = h
    go (Some x) h = ap (λ l. g x ∷ l) h

-- the places of the images that pass
image-places : {X : Type 0} (q : ℕ → Bool) (f : X → ℕ) (xs : List X) → passing q 0 (map f xs) ≡ passing (λ x. q (f x)) 0 xs
image-places q f xs =
    ap (λ ys. map (λ y. y.1) (filter (λ y. q y.0) ys)) (placed-map f 0 xs)
    ∙ filter-map (λ y. y.1) (λ y. q y.0) (λ x. (f x.0, x.1)) (placed 0 xs)

-- the values at the places of a number
values-with : (j : ℕ) (ns : List ℕ) (vs : List Value) → length ns ≡ length vs → at_places vs (places_with ns j) ≡ map (λ x. x.1) (filter (λ x. nat_eq x.0 j) (beside ns vs))
values-with j ns vs e =
    let all = beside ns vs in
    (λ i. at_places (sym (beside-values ns vs e) i) (places_with (sym (beside-numbers ns vs e) i) j))
    ∙ ap (at_places (map (λ x. x.1) all)) (image-places (λ n. nat_eq n j) (λ x. x.0) all)
    ∙ made-at (λ x. x.1) all (passing (λ x. nat_eq x.0 j) 0 all)
    ∙ ap (map (λ x. x.1)) (passing-items (λ x. nat_eq x.0 j) all)

abbrev is_counted : ℕ → ℕ × Value → Bool
is_counted j x = nat_eq x.0 j && not (is_null x.1)

-- those that are counted are the number beside each value of the group that is not null
counted-values : (j : ℕ) (xs : List (ℕ × Value)) → filter (is_counted j) xs ≡ map (λ v. (j, v)) (filter (λ v. not (is_null v)) (map (λ x. x.1) (filter (λ x. nat_eq x.0 j) xs)))
counted-values j [] = refl
counted-values j (x ∷ xs) = go (nat_eq x.0 j) refl (counted-values j xs)
  where
    left : List (ℕ × Value)
    left = filter (is_counted j) xs

    own : List (ℕ × Value)
    own = filter (λ x. nat_eq x.0 j) xs

    right : List Value
    right = filter (λ v. not (is_null v)) (map (λ x. x.1) own)

    inner : (c : Bool) → nat_eq x.0 j ≡ true → left ≡ map (λ v. (j, v)) right → cond c (x ∷ left) left ≡ map (λ v. (j, v)) (cond c (x.1 ∷ right) right)
    inner true e h = λ i. ((unsigned_Decides x.0 j).0 e i, x.1) ∷ h i
    inner false e h = h

    go : (b : Bool) → nat_eq x.0 j ≡ b → left ≡ map (λ v. (j, v)) right → cond (b && not (is_null x.1)) (x ∷ left) left ≡ map (λ v. (j, v)) (filter (λ v. not (is_null v)) (map (λ x. x.1) (cond b (x ∷ own) own)))
    go true e h = inner (not (is_null x.1)) e h
    go false e h = h

-- no value of a part is past its range, where none of the whole is
quiet-part : {X : Type 0} (p : Value → Bool) (g : X → Value) (q : X → Bool) (xs : List X) → list_any p (map g xs) ≡ false → list_any p (map g (filter q xs)) ≡ false
quiet-part p g q [] h = h
quiet-part {X} p g q (x ∷ xs) h = go (p (g x)) (q x) refl h (quiet-part p g q xs)
  where
    rest : List X
    rest = filter q xs

    go : (a b : Bool) → p (g x) ≡ a → (a || list_any p (map g xs)) ≡ false → (list_any p (map g xs) ≡ false → list_any p (map g rest) ≡ false) → list_any p (map g (cond b (x ∷ rest) rest)) ≡ false
    go true b e h r = absurd (true≢false h)
    go false true e h r = ap (λ c. c || list_any p (map g rest)) e ∙ r h
    go false false e h r = r h

-- ---- counts

count-filter : {X : Type 0} (q : X → Bool) (xs : List X) → count_by q xs ≡ length (filter q xs)
count-filter q [] = refl
count-filter {X} q (x ∷ xs) = sum_by-cons (λ y. cond (q y) 1 0) x xs ∙ ap (λ m. cond (q x) 1 0 + m) (count-filter q xs) ∙ go (q x)
  where
    go : (b : Bool) → cond b 1 0 + length (filter q xs) ≡ length (cond b (x ∷ filter q xs) (filter q xs))
    go true = omega arith
    go false = omega arith

-- the numbers of the rows that are kept, as often as rows are counted
kept-counted : (j rows : ℕ) (number : ℕ → ℕ) (keep : ℕ → Bool) (at : ℕ → ℕ × Value) → ((f : ℕ) → f < rows → (number f ≡ (at f).0) × (keep f ≡ not (is_null (at f).1))) → (fs : List ℕ) → All (λ f. f < rows) fs
    → length (filter (λ n. nat_eq n j) (map number (filter keep fs))) ≡ length (filter (is_counted j) (map at fs))
kept-counted j rows number keep at tells [] a = refl
kept-counted j rows number keep at tells (f ∷ fs) a =
    go (keep f) (kept-counted j rows number keep at tells fs (All-tail (λ f. f < rows) f fs a))
    ∙ (λ i. length (cond (nat_eq (here.0 i) j && here.1 i) (at f ∷ counted) counted))
  where
    here : (number f ≡ (at f).0) × (keep f ≡ not (is_null (at f).1))
    here = tells f (All-head (λ f. f < rows) f fs a)

    kept : List ℕ
    kept = filter keep fs

    told : List ℕ
    told = filter (λ n. nat_eq n j) (map number kept)

    counted : List (ℕ × Value)
    counted = filter (is_counted j) (map at fs)

    both : (b : Bool) → length told ≡ length counted → length (cond b (number f ∷ told) told) ≡ length (cond (b && true) (at f ∷ counted) counted)
    both true h = ap suc h
    both false h = h

    neither : (b : Bool) → length told ≡ length counted → length told ≡ length (cond (b && false) (at f ∷ counted) counted)
    neither true h = h
    neither false h = h

    go : (k : Bool) → length told ≡ length counted → length (filter (λ n. nat_eq n j) (map number (cond k (f ∷ kept) kept))) ≡ length (cond (nat_eq (number f) j && k) (at f ∷ counted) counted)
    go true h = both (nat_eq (number f) j) h
    go false h = neither (nat_eq (number f) j) h

-- ---- the counts of distinct values

value-there : (vs : List Value) (i : ℕ) → value_in vs i ≡ get_or vs i Value.Null
value-there vs i = unwrap_or-slice_get vs i Value.Null

module _ (vs : List Value) (values : Numbering) (nulls : List Bool) (is : AreNumberedValues vs values) (told : AreToldNulls vs values nulls) where
  -- whether the value of a row is null
  null-at : (f : ℕ) → f < length vs → get_or nulls (get_or values.numbers f 0) false ≡ is_null (get_or vs f Value.Null)
  null-at f less =
      let x = get_or values.numbers f 0 in
      let size = is.numbers_are.size in
      let lx : x < length values.firsts = All-get_or (λ k. k < length values.firsts) values.numbers f 0 (omega (arith, size, less)) is.numbers_are.there in
      let first = get_or values.firsts x 0 in
      let there : first < length vs = let e = is.firsts_are.there x lx in omega (arith, e, size) in
      let same : value_in vs f ≡ value_in vs first = same_value_tests.same (value_in vs f) (value_in vs first) (sym (is.numbers_are.told f first less there) ∙ ap (nat_eq x) (is.firsts_are.are x lx) ∙ (unsigned_Decides x x).1 refl) in
      ap (λ l. get_or l x false) told
      ∙ get_or-map (λ g. is_null (value_in vs g)) values.firsts x 0 false lx
      ∙ ap is_null (sym same ∙ value-there vs f)

  -- how many distinct values there are
  pub distinct-all : list_any is_beyond vs ≡ false → Value.Int (pos (count_by (λ b. not b) nulls)) ≡ aggregate by.CountDistinct vs
  distinct-all quiet =
      let by_values : IsNumberingBy (λ i j. same_value (get_or vs i Value.Null) (get_or vs j Value.Null)) (length vs) values = by_other (same_values vs) (λ i j. same_value (get_or vs i Value.Null) (get_or vs j Value.Null)) (length vs) values
      (λ i j li lj k. same_value (value-there vs i k) (value-there vs j k)) is in
      ap (λ n. Value.Int (pos n))
      (count-filter (λ b. not b) nulls
      ∙ ap (λ l. length (filter (λ b. not b) l)) told
      ∙ nulls-out values.firsts
      ∙ ap (λ l. length (filter (λ v. not (is_null v)) l)) (sym (distinct-firsts same_value same_value_tests vs Value.Null values by_values))
      ∙ ap length (filter-distinct same_value same_value_tests (λ v. not (is_null v)) vs))
      ∙ sym (ap (λ b. if b then Value.Beyond else Value.Int (pos (length (distinct same_value (filter (λ v. not (is_null v)) vs))))) quiet)
    where
      nulls-out : (fs : List ℕ) → length (filter (λ b. not b) (map (λ f. is_null (value_in vs f)) fs)) ≡ length (filter (λ v. not (is_null v)) (map (λ f. get_or vs f Value.Null) fs))
      nulls-out [] = refl
      nulls-out (f ∷ fs) = go (is_null (value_in vs f)) (nulls-out fs) ∙ ap (λ b. length (cond (not b) (get_or vs f Value.Null ∷ right) right)) (ap is_null (value-there vs f))
        where
          left : List Bool
          left = filter (λ b. not b) (map (λ f. is_null (value_in vs f)) fs)

          right : List Value
          right = filter (λ v. not (is_null v)) (map (λ f. get_or vs f Value.Null) fs)

          go : (b : Bool) → length left ≡ length right → length (cond (not b) (b ∷ left) left) ≡ length (cond (not b) (get_or vs f Value.Null ∷ right) right)
          go true h = h
          go false h = ap suc h

  -- how many a group has
  pub distinct-of_group : (numbers : List ℕ) (pairs : Numbering) (j : ℕ) → length numbers ≡ length vs → IsNumberingBy (same_pair numbers values.numbers) (length values.numbers) pairs → list_any is_beyond vs ≡ false
      → Value.Int (pos (count_by (λ n. nat_eq n j) (map (λ f. get_or numbers f 0) (filter (λ f. not (get_or nulls (get_or values.numbers f 0) false)) pairs.firsts)))) ≡ aggregate by.CountDistinct (at_places vs (places_with numbers j))
  distinct-of_group numbers pairs j long h quiet =
      let all = beside numbers vs in
      let rows = length vs in
      let size = is.numbers_are.size in
      let read : (i : ℕ) → i < rows → get_or all i nothing ≡ (get_or numbers i 0, get_or vs i Value.Null) = λ i less. beside-read numbers vs i long (omega (arith, long, less)) in
      let as_rows : IsNumberingBy (same_pair numbers values.numbers) rows pairs = subst (λ n. IsNumberingBy (same_pair numbers values.numbers) n pairs) size h in
      let as_pairs : IsNumberingBy (λ i j. same_both (get_or all i nothing) (get_or all j nothing)) rows pairs = by_other (same_pair numbers values.numbers) (λ i j. same_both (get_or all i nothing) (get_or all j nothing)) rows pairs
      (λ i k li lk.
      ap (λ b. nat_eq (get_or numbers i 0) (get_or numbers k 0) && b) (is.numbers_are.told i k li lk ∙ (λ m. same_value (value-there vs i m) (value-there vs k m)))
      ∙ sym (λ m. same_both (read i li m) (read k lk m))) as_rows in
      let found = distinct-firsts same_both both_tests all nothing pairs (subst (λ n. IsNumberingBy (λ i j. same_both (get_or all i nothing) (get_or all j nothing)) n pairs) (sym (beside-long numbers vs long)) as_pairs) in
      let own = at_places vs (places_with numbers j) in
      let counts : length (filter (λ n. nat_eq n j) (map (λ f. get_or numbers f 0) (filter (λ f. not (get_or nulls (get_or values.numbers f 0) false)) pairs.firsts))) ≡ length (filter (is_counted j) (map (λ f. get_or all f nothing) pairs.firsts)) = kept-counted j rows (λ f. get_or numbers f 0) (λ f. not (get_or nulls (get_or values.numbers f 0) false)) (λ f. get_or all f nothing)
      (λ f less. (sym (ap (λ x. x.0) (read f less)), ap not (null-at f less ∙ sym (ap (λ x. is_null x.1) (read f less))))) pairs.firsts (firsts-below pairs rows as_rows) in
      ap (λ n. Value.Int (pos n))
      (count-filter (λ n. nat_eq n j) (map (λ f. get_or numbers f 0) (filter (λ f. not (get_or nulls (get_or values.numbers f 0) false)) pairs.firsts))
      ∙ counts
      ∙ ap (λ l. length (filter (is_counted j) l)) (sym found)
      ∙ ap length (filter-distinct same_both both_tests (is_counted j) all ∙ ap (distinct same_both) (counted-values j all ∙ ap (λ l. map (λ v. (j, v)) (filter (λ v. not (is_null v)) l)) (sym (values-with j numbers vs long)))
      ∙ distinct-images same_both same_value (λ v. (j, v)) (λ a b. ap (λ c. c && same_value a b) ((unsigned_Decides j j).1 refl)) (filter (λ v. not (is_null v)) own))
      ∙ length-map (distinct same_value (filter (λ v. not (is_null v)) own)) (λ v. (j, v)))
      ∙ sym (ap (λ b. if b then Value.Beyond else Value.Int (pos (length (distinct same_value (filter (λ v. not (is_null v)) own)))))
      (ap (list_any is_beyond) (values-with j numbers vs long) ∙ quiet-part is_beyond (λ x. x.1) (λ x. nat_eq x.0 j) all (ap (list_any is_beyond) (beside-values numbers vs long) ∙ quiet)))
    where
      firsts-below : (pairs : Numbering) (rows : ℕ) → IsNumberingBy (same_pair numbers values.numbers) rows pairs → All (λ f. f < rows) pairs.firsts
      firsts-below pairs rows g = All-from_get_or (λ f. f < rows) pairs.firsts 0 (λ i less. let e = g.firsts_are.there i less in let size = g.numbers_are.size in omega (arith, e, size))

  -- how many each group has
  pub distinct-of_groups : (numbers own counted counts : List ℕ) (found : List Value) (pairs : Numbering) (count : ℕ) → length numbers ≡ length vs → own ≡ values.numbers → IsNumberingBy (same_pair numbers values.numbers) (length values.numbers) pairs → list_any is_beyond vs ≡ false
      → counted ≡ map (λ f. get_or numbers f 0) (filter (λ f. not (get_or nulls (get_or own f 0) false)) pairs.firsts) → counts ≡ map (λ j. count_by (λ n. nat_eq n j) counted) (places count) → found ≡ map (λ n. Value.Int (pos n)) counts
      → found ≡ map (λ j. aggregate by.CountDistinct (at_places vs (places_with numbers j))) (places count)
  distinct-of_groups numbers own counted counts found pairs count long same h quiet rows tallied made =
      made
      ∙ ap (map (λ n. Value.Int (pos n))) tallied
      ∙ map-map (λ n. Value.Int (pos n)) (λ j. count_by (λ n. nat_eq n j) counted) (places count)
      ∙ (λ i. map (λ j. each j i) (places count))
    where
      each : (j : ℕ) → Value.Int (pos (count_by (λ n. nat_eq n j) counted)) ≡ aggregate by.CountDistinct (at_places vs (places_with numbers j))
      each j =
          ap (λ l. Value.Int (pos (count_by (λ n. nat_eq n j) l))) (rows ∙ ap (λ o. map (λ f. get_or numbers f 0) (filter (λ f. not (get_or nulls (get_or o f 0) false)) pairs.firsts)) same)
          ∙ distinct-of_group numbers pairs j long h quiet

-- numbers of codes are numbers of the values that these stand for
pub numbered-values : (vs : List Value) (c : CodeList) (numbers : List ℕ) (count : ℕ) → AreCodes vs c → AreNumbersBy (same_code c.codes) (length c.codes) numbers count → AreNumbersBy (same_values vs) (length vs) numbers count
numbered-values vs c numbers count k h = by_test (same_code c.codes) (same_values vs) (length vs) numbers count (λ i j li lj. sym (k.same i j li lj)) (subst (λ n. AreNumbersBy (same_code c.codes) n numbers count) k.size h)

-- ---- how often each number stands in a list

-- a number more is counted
pub counted-more : (xs : List ℕ) (i x old more n : ℕ) (counts : List ℕ) → i < length xs → x ≡ get_or xs i x → x < n → length counts ≡ n → old ≡ get_or counts x old → more ≡ old + 1
    → ((k : ℕ) → k < n → get_or counts k 0 ≡ count_by (λ y. nat_eq y k) (take i xs)) → (k : ℕ) → k < n → get_or (set counts x more) k 0 ≡ count_by (λ y. nat_eq y k) (take (i + 1) xs)
counted-more xs i x old more n counts within is below size before one counted k small = ⊎_elim
    (λ same.
    let there : x < length counts = omega (arith, below, size) in
    let yes : nat_eq (get_or xs i x) k ≡ true = ap (λ y. nat_eq y k) (sym is) ∙ here k same in
    let was : old ≡ get_or counts k 0 = before ∙ (get_or_default_zero counts x old there ∙ ap (λ j. get_or counts j 0) same) in
    let now : get_or (set counts x more) k 0 ≡ old + 1 = ap (λ j. get_or (set counts x more) j 0) (sym same) ∙ get_or-set_same counts x more 0 there ∙ one in
    now ∙ (ap (λ m. m + 1) (was ∙ counted k small) ∙ sym (count_by_more_yes (λ y. nat_eq y k) xs i x within yes)))
    (λ other.
    let back : k ≢ x = λ e. other (sym e) in
    let apart_here : nat_eq (get_or xs i x) k ≡ false = ap (λ y. nat_eq y k) (sym is) ∙ apart x k other in
    get_or-set_other counts x k more 0 back ∙ (counted k small ∙ sym (count_by_more_no (λ y. nat_eq y k) xs i x within apart_here)))
    (cases_eq x k)
  where
    here : (k : ℕ) → x ≡ k → nat_eq x k ≡ true
    here k e = grind (arith, nat_tests)

    apart : (a b : ℕ) → a ≢ b → nat_eq a b ≡ false
    apart a b h = grind (arith, nat_tests)

-- all are counted
pub counted-all : (numbers counts : List ℕ) (n : ℕ) → length counts ≡ n → ((k : ℕ) → k < n → get_or counts k 0 ≡ count_by (λ y. nat_eq y k) numbers) → counts ≡ map (λ j. count_by (λ y. nat_eq y j) numbers) (places n)
counted-all numbers counts n size at =
    sym (map-places counts 0)
    ∙ map-agree_places (λ j. get_or counts j 0) (λ j. count_by (λ y. nat_eq y j) numbers) (length counts) (λ j less. at j (omega (arith, less, size)))
    ∙ ap (λ m. map (λ j. count_by (λ y. nat_eq y j) numbers) (places m)) size

-- the rows that are kept have numbers below the count
pub kept-below : (numbers : List ℕ) (count rows : ℕ) (keep : ℕ → Bool) (fs : List ℕ) → length numbers ≡ rows → All (λ n. n < count) numbers → All (λ f. f < rows) fs → All (λ n. n < count) (map (λ f. get_or numbers f 0) (filter keep fs))
kept-below numbers count rows keep fs size below within =
    All-map (λ n. n < count) (λ f. get_or numbers f 0) (filter keep fs)
    (All-filter keep (λ f. get_or numbers f 0 < count) fs (All-weaker (λ f. f < rows) (λ f. get_or numbers f 0 < count) (λ f less. All-get_or (λ n. n < count) numbers f 0 (omega (arith, less, size)) below) fs within))
