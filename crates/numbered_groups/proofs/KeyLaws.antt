-- Rows that are numbered by their key lists are in the groups of these.
use Rattle.std.proofs.Common.{◌≡◌, ◌∙◌, ℕ, zero, suc, ◌+◌, ◌-◌, ◌<◌, ◌≤◌, Bool, true, false, cond, ◌&&◌, List, [], ◌∷◌, add-one, length, get_or, map, filter, take, refl, sym, ap, subst, arith}
use Rattle.std.specs.Prelude.{All, nat_eq}
use Rattle.std.specs.Cmp.{unsigned_Decides}
use Rattle.std.proofs.lemmas.Bool.{true≢false}
use Rattle.std.proofs.lemmas.List.{ext_get_or, get_or-map, length-map, take_all, take_more}
use Rattle.std.proofs.lemmas.List.Elements.{All-head, All-tail, All-weaker}
use Rattle.std.proofs.lemmas.Option.{unwrap_or-slice_get}
use Rattle.std.proofs.lemmas.Simd.{map-map}
use Rattle.edm_values.specs.declared.Value.{Value}
use Rattle.edm_values.specs.Lists.{places}
use Rattle.edm_values.specs.Values.{same_value, value_in}
use Rattle.apply_meaning.specs.Meaning.{same_keys}
use Rattle.apply_meaning.proofs.InstanceOrders.{same_keys_tests}
use Rattle.par_stages.specs.Placed.{placed}
use Rattle.par_stages.proofs.Passing.{passing}
use Rattle.value_codes.specs.Codes.{CodeList}
use Rattle.aggregate_ops.specs.KeyTables.{groups_of}
use Rattle.aggregate_ops.proofs.KeyGroups.{groups-of_images}
use Rattle.numbered_groups.specs.Found.{same_code}
use Rattle.numbered_groups.specs.Levels.{AreLevelsDown, IsNumberingBy, same_at}
use Rattle.numbered_groups.specs.Numbered.{AreKeyCodes, AreNumbered, AreNumberedLevels, Numbering, no_codes, no_numbering, numbered_group, places_with}
use Rattle.numbered_groups.proofs.ImageLemmas.{below-places, distinct-of_images}
use Rattle.numbered_groups.proofs.LevelLemmas.{by_other, same_at-more}

-- ---- the groups of rows

-- tests that say the same of the items
passing-same : (q r : ℕ → Bool) (n : ℕ) (xs : List ℕ) → All (λ x. q x ≡ r x) xs → passing q n xs ≡ passing r n xs
passing-same q r n [] a = refl
passing-same q r n (x ∷ xs) a = go (q x) (r x) (All-head (λ x. q x ≡ r x) x xs a) (passing-same q r (n + 1) xs (All-tail (λ x. q x ≡ r x) x xs a))
  where
    left : List (ℕ × ℕ)
    left = filter (λ y. q y.0) (placed (n + 1) xs)

    right : List (ℕ × ℕ)
    right = filter (λ y. r y.0) (placed (n + 1) xs)

    go : (b c : Bool) → b ≡ c → passing q (n + 1) xs ≡ passing r (n + 1) xs → map (λ y. y.1) (cond b ((x, n) ∷ left) left) ≡ map (λ y. y.1) (cond c ((x, n) ∷ right) right)
    go true true e h = ap (λ l. n ∷ l) h
    go true false e h = absurd (true≢false e)
    go false true e h = absurd (true≢false (sym e))
    go false false e h = h

images-where : {X : Type 0} (f g : ℕ → X) (m : ℕ) → ((j : ℕ) → j < m → f j ≡ g j) → (xs : List ℕ) → All (λ j. j < m) xs → map f xs ≡ map g xs
images-where f g m same [] a = refl
images-where f g m same (x ∷ xs) a = λ i. same x (All-head (λ j. j < m) x xs a) i ∷ images-where f g m same xs (All-tail (λ j. j < m) x xs a) i

-- two rows have one key list
abbrev pub same_key : List (List Value) → ℕ → ℕ → Bool
same_key keys i j = same_keys (get_or keys i []) (get_or keys j [])

module _ (keys : List (List Value)) (n : Numbering) (h : IsNumberingBy (same_key keys) (length keys) n) where
  abbrev many : ℕ
  many = length n.firsts

  abbrev key_of : ℕ → List Value
  key_of j = get_or keys (get_or n.firsts j 0) []

  first-there : (j : ℕ) → j < many → get_or n.firsts j 0 < length keys
  first-there j less = let e = h.firsts_are.there j less in let s = h.numbers_are.size in omega (arith, e, s)

  keys-tell : (a b : ℕ) → a < many → b < many → same_keys (key_of a) (key_of b) ≡ nat_eq a b
  keys-tell a b la lb =
      sym (h.numbers_are.told (get_or n.firsts a 0) (get_or n.firsts b 0) (first-there a la) (first-there b lb))
      ∙ (λ i. nat_eq (h.firsts_are.are a la i) (h.firsts_are.are b lb i))

  -- a row has the key list of the first row of its number
  key-is : (i : ℕ) → i < length keys → get_or keys i [] ≡ key_of (get_or n.numbers i 0)
  key-is i less =
      let x = get_or n.numbers i 0 in
      let within : i < length n.numbers = let s = h.numbers_are.size in omega (arith, s, less) in
      let lx : x < many = h.numbers_are.there i 0 within in
      same_keys_tests.same (get_or keys i []) (key_of x)
      (sym (h.numbers_are.told i (get_or n.firsts x 0) less (first-there x lx)) ∙ ap (nat_eq x) (h.firsts_are.are x lx) ∙ (unsigned_Decides x x).1 refl)

  keys-are : keys ≡ map key_of n.numbers
  keys-are = ext_get_or [] keys (map key_of n.numbers) (sym (length-map n.numbers key_of ∙ h.numbers_are.size))
      (λ i less. key-is i less ∙ sym (get_or-map key_of n.numbers i 0 [] (let s = h.numbers_are.size in omega (arith, s, less))))

  rows-of : (j : ℕ) → j < many → passing (λ x. same_keys (key_of x) (key_of j)) 0 n.numbers ≡ places_with n.numbers j
  rows-of j less = passing-same (λ x. same_keys (key_of x) (key_of j)) (λ x. nat_eq x j) 0 n.numbers (All-weaker (λ x. x < many) (λ x. same_keys (key_of x) (key_of j) ≡ nat_eq x j) (λ x lx. keys-tell x j lx less) n.numbers h.numbers_are.there)

  pub numbered-law : AreNumbered keys n
  numbered-law =
      let with_rows : List Value → List Value × List ℕ = λ k. (k, passing (λ x. same_keys (key_of x) k) 0 n.numbers) in
      record {
        size = h.numbers_are.size;
        groups =
            ap (λ ks. groups_of (placed 0 ks)) keys-are
            ∙ groups-of_images key_of n.numbers
            ∙ ap (map with_rows) (distinct-of_images same_keys key_of many keys-tell n.numbers h.numbers_are.there ∙ ap (map key_of) h.numbers_are.order)
            ∙ map-map with_rows key_of (places many)
            ∙ images-where (λ j. with_rows (key_of j)) (numbered_group keys n) many (λ j less. ap (λ rows. (key_of j, rows)) (rows-of j less)) (places many) (below-places many);
      }

-- ---- key lists whose values are told by codes

and-true : (b : Bool) → b ≡ (b && true)
and-true true = refl
and-true false = refl

and-apart : (a b c : Bool) → (a && (b && c)) ≡ ((a && b) && c)
and-apart true b c = refl
and-apart false b c = refl

same-longer : (n : ℕ) (k l : List Value) → n < length k → n < length l → same_keys (take (suc n) k) (take (suc n) l) ≡ (same_keys (take n k) (take n l) && same_value (get_or k n Value.Null) (get_or l n Value.Null))
same-longer n [] l h m = absurd (omega arith)
same-longer n (x ∷ k) [] h m = absurd (omega arith)
same-longer zero (x ∷ k) (y ∷ l) h m = sym (and-true (same_value x y))
same-longer (suc n) (x ∷ k) (y ∷ l) h m =
    ap (λ b. same_value x y && b) (same-longer n k l (omega arith) (omega arith))
    ∙ and-apart (same_value x y) (same_keys (take n k) (take n l)) (same_value (get_or k n Value.Null) (get_or l n Value.Null))

module _ (keys : List (List Value)) (columns : List CodeList) (codes : AreKeyCodes keys columns) where
  value-at : (c i : ℕ) → i < length keys → value_in (map (λ k. value_in k c) keys) i ≡ get_or (get_or keys i []) c Value.Null
  value-at c i less =
      unwrap_or-slice_get (map (λ k. value_in k c) keys) i Value.Null
      ∙ get_or-map (λ k. value_in k c) keys i [] Value.Null less
      ∙ unwrap_or-slice_get (get_or keys i []) c Value.Null

  column-tells : (c i j : ℕ) → c < length columns → i < length keys → j < length keys → same_code (get_or columns c no_codes).codes i j ≡ same_value (get_or (get_or keys i []) c Value.Null) (get_or (get_or keys j []) c Value.Null)
  column-tells c i j within li lj =
      let size = length-map keys (λ k. value_in k c) in
      sym ((codes.columns c within).same i j (omega (arith, size, li)) (omega (arith, size, lj)))
      ∙ (λ k. same_value (value-at c i li k) (value-at c j lj k))

  -- the codes of the first columns tell the first values of the key lists
  pub fronts-tell : (k i j : ℕ) → k ≤ length columns → i < length keys → j < length keys → same_at (take k columns) i j ≡ same_keys (take k (get_or keys i [])) (take k (get_or keys j []))
  fronts-tell zero i j within li lj = refl
  fronts-tell (suc k) i j within li lj =
      let wi = codes.wide i li in
      let wj = codes.wide j lj in
      ap (λ m. same_at (take m columns) i j) (sym (add-one k))
      ∙ ap (λ cs. same_at cs i j) (take_more columns k no_codes (omega arith))
      ∙ same_at-more (take k columns) (get_or columns k no_codes) i j
      ∙ (λ m. fronts-tell k i j (omega arith) li lj m && column-tells k i j (omega arith) li lj m)
      ∙ sym (same-longer k (get_or keys i []) (get_or keys j []) (omega (arith, wi)) (omega (arith, wj)))

  -- rows that are numbered by the first columns are in the groups by the first values
  pub front-numbered : (k rows : ℕ) (n : Numbering) → k ≤ length columns → length keys ≡ rows → IsNumberingBy (same_at (take k columns)) rows n → AreNumbered (map (take k) keys) n
  front-numbered k rows n within size h =
      let all : length (map (take k) keys) ≡ length keys = length-map keys (take k) in
      let front : (i : ℕ) → i < length keys → get_or (map (take k) keys) i [] ≡ take k (get_or keys i []) = λ i less. get_or-map (take k) keys i [] [] less in
      numbered-law (map (take k) keys) n
      (subst (λ m. IsNumberingBy (same_key (map (take k) keys)) m n) (sym (all ∙ size))
      (by_other (same_at (take k columns)) (same_key (map (take k) keys)) rows n
      (λ i j li lj.
      let ki : i < length keys = omega (arith, size, li) in
      let kj : j < length keys = omega (arith, size, lj) in
      fronts-tell k i j within ki kj ∙ sym (λ m. same_keys (front i ki m) (front j kj m)))
      h))

  -- those that are numbered by all columns are in the groups by all values
  pub all-numbered : (k rows : ℕ) (n : Numbering) → k ≡ length columns → length keys ≡ rows → IsNumberingBy (same_at (take k columns)) rows n → AreNumbered keys n
  all-numbered k rows n is size h =
      let whole : (i : ℕ) → i < length keys → take k (get_or keys i []) ≡ get_or keys i [] = λ i less. let w = codes.wide i less in take_all k (get_or keys i []) (omega (arith, w, is)) in
      numbered-law keys n
      (subst (λ m. IsNumberingBy (same_key keys) m n) (sym size)
      (by_other (same_at (take k columns)) (same_key keys) rows n
      (λ i j li lj.
      let ki : i < length keys = omega (arith, size, li) in
      let kj : j < length keys = omega (arith, size, lj) in
      fronts-tell k i j (omega (arith, is)) ki kj ∙ (λ m. same_keys (whole i ki m) (whole j kj m)))
      h))

  pub levels-numbered : (least rows : ℕ) (found : List Numbering) → length keys ≡ rows → AreLevelsDown least (length columns) columns rows found → AreNumberedLevels least (length columns) keys found
  levels-numbered least rows found size h = record {
    count = h.count;
    each = λ k less. front-numbered (length columns - k) rows (get_or found k no_numbering) (omega arith) size (h.each k less);
  }
