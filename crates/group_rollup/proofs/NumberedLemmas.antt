-- Groups by the first values of key lists, told by numbers, are those by the levels of a rollup.
use Rattle.std.proofs.Common.{◌≡◌, ◌∙◌, ℕ, zero, suc, ◌+◌, ◌-◌, ◌<◌, ◌≤◌, Bool, true, false, if◌then◌else◌, List, [], ◌∷◌, ◌++◌, ap, arith, length, length-append, map, reverse, subst, sym, take, Some}
use Rattle.std.specs.Prelude.{All, Option, get_or, slice_get}
use Rattle.std.specs.List.{range_with_len}
use Rattle.std.proofs.Math.Seq.{take-append-add}
use Rattle.std.proofs.lemmas.List.{append-nil, get_or_default, length-map, length-reverse, reverse-append}
use Rattle.std.proofs.lemmas.List.FromFn.{length-range_with_len}
use Rattle.std.proofs.lemmas.Option.{slice_get-get_or, slice_get_within}
use Rattle.edm_values.specs.declared.Value.{Value}
use Rattle.edm_values.specs.Names.{Path}
use Rattle.edm_values.specs.Values.{value_in}
use Rattle.edm_data.specs.Worlds.{World}
use Rattle.context_typing.specs.Typing.{RollupPart}
use Rattle.apply_meaning.specs.Instances.{Instance}
use Rattle.apply_meaning.specs.Meaning.{key_list, level_paths}
use Rattle.value_codes.specs.Codes.{CodeList}
use Rattle.numbered_groups.specs.Numbered.{AreKeyCodes, AreNumbered, AreNumberedLevels, Numbering, no_codes, no_numbering}
use Rattle.group_rollup.specs.NumberedBy.{AreNumberedByEach}
use Rattle.group_rollup.proofs.LevelLemmas.{fronts-of_rows, range-last, downward-next}

-- one number more in front
downward-step : {X : Type 0} (f : ℕ → X) (a n k : ℕ) → k < suc n → ((j : ℕ) → j < n → slice_get (map f (reverse (range_with_len a n))) j ≡ Some (f (a + (n - 1 - j))))
    → slice_get (f (a + n) ∷ map f (reverse (range_with_len a n))) k ≡ Some (f (a + (suc n - 1 - k)))
downward-step f a n zero h rest = let e : n ≡ suc n - 1 - zero = omega arith in ap (λ m. Some (f (a + m))) e
downward-step f a n (suc k) h rest =
    let e : n - 1 - k ≡ suc n - 1 - suc k = omega (arith, h) in
    rest k (omega (arith, h)) ∙ ap (λ m. Some (f (a + m))) e

-- the k-th of what a function gives on numbers in descending order
downward-get : {X : Type 0} (f : ℕ → X) (a n k : ℕ) → k < n → slice_get (map f (reverse (range_with_len a n))) k ≡ Some (f (a + (n - 1 - k)))
downward-get f a zero k h = absurd (omega (arith, h))
downward-get f a (suc n) k h =
    ap (λ l. slice_get (map f (reverse l)) k) (range-last a n)
    ∙ ap (λ l. slice_get (map f l) k) (reverse-append (range_with_len a n) ((a + n) ∷ []))
    ∙ downward-step f a n k h (λ j less. downward-get f a n j less)

-- as many as there are numbers
downward-long : {X : Type 0} (f : ℕ → X) (a n : ℕ) → length (map f (reverse (range_with_len a n))) ≡ n
downward-long f a n = length-map (reverse (range_with_len a n)) f ∙ length-reverse (range_with_len a n) ∙ length-range_with_len a n

-- what one look-up finds is one element
same : {X : Type 0} (o : Option X) (x y : X) → o ≡ Some x → o ≡ Some y → x ≡ y
same o x y p q = let r : Some x ≡ Some y = sym p ∙ q in let s : x ≡ y = cc in s

module _ (ks ps : List Path) where
  counted : (all : Bool) (least : ℕ) → least ≡ (if all then length ks else length ks + 1) → length (ks ++ ps) + 1 - least ≡ length ps + 1 - (if all then 0 else 1)
  counted true least e = omega (arith, e, length-append ks ps)
  counted false least e = omega (arith, e, length-append ks ps)

  abbrev front_of : ℕ → List Path
  front_of j = ks ++ take j ps

  -- how many of the last paths the coarsest level goes by
  abbrev first_of : Bool → ℕ
  first_of all = if all then 0 else 1

  levels-downward : (all : Bool) → level_paths ks (RollupPart.Levels all ps) ≡ map front_of (reverse (range_with_len (first_of all) (length ps + 1 - first_of all)))
  levels-downward true =
      let n : suc (length ps) ≡ length ps + 1 - 0 = omega arith in
      (λ i. map front_of (reverse (range_with_len 1 (length ps))) ++ sym (append-nil ks) i ∷ [])
      ∙ sym (downward-next front_of 0 (length ps))
      ∙ ap (λ m. map front_of (reverse (range_with_len 0 m))) n
  levels-downward false =
      let n : length ps ≡ length ps + 1 - 1 = omega arith in
      append-nil (map front_of (reverse (range_with_len 1 (length ps)))) ∙ ap (λ m. map front_of (reverse (range_with_len 1 m))) n

  small : (all : Bool) → first_of all ≤ 1
  small true = omega arith
  small false = omega arith

  -- the paths of level k are the first ones, but for the last k
  level-at : (all : Bool) (k : ℕ) → k < length ps + 1 - first_of all → slice_get (level_paths ks (RollupPart.Levels all ps)) k ≡ Some (take (length (ks ++ ps) - k) (ks ++ ps))
  level-at all k h =
      let b = first_of all in
      let n = length ps + 1 - b in
      let last : b + (n - 1 - k) ≡ length ps - k = omega (arith, h, small all) in
      let whole : length ks + (length ps - k) ≡ length (ks ++ ps) - k = omega (arith, h, small all, length-append ks ps) in
      ap (λ l. slice_get l k) (levels-downward all)
      ∙ downward-get front_of b n k h
      ∙ ap (λ m. Some (front_of m)) last
      ∙ ap Some (sym (take-append-add ks ps (length ps - k)))
      ∙ ap (λ m. Some (take m (ks ++ ps))) whole

  -- groups by the first values of the key lists are groups by the levels
  pub numbered-levels : (w : World) (l : List Instance) (all : Bool) (least : ℕ) (found : List Numbering) → least ≡ (if all then length ks else length ks + 1)
      → AreNumberedLevels least (length (ks ++ ps)) (map (key_list w (ks ++ ps)) l) found → AreNumberedByEach w (level_paths ks (RollupPart.Levels all ps)) l found
  numbered-levels w l all least found e a =
      let size : length found ≡ length ps + 1 - first_of all = a.count ∙ counted all least e in
      let long : length (level_paths ks (RollupPart.Levels all ps)) ≡ length ps + 1 - first_of all = ap length (levels-downward all) ∙ downward-long front_of (first_of all) (length ps + 1 - first_of all) in
      record {
        count = size ∙ sym long;
        each = λ k level n there at.
            let less : k < length found = slice_get_within found k n at in
            let own : level ≡ take (length (ks ++ ps) - k) (ks ++ ps) = same (slice_get (level_paths ks (RollupPart.Levels all ps)) k) level (take (length (ks ++ ps) - k) (ks ++ ps)) there (level-at all k (omega (arith, less, size))) in
            let numbering : get_or found k no_numbering ≡ n = same (slice_get found k) (get_or found k no_numbering) n (slice_get-get_or found k no_numbering less) at in
            subst (λ p. AreNumbered (map (key_list w p) l) n) (sym own)
            (subst (λ keys. AreNumbered keys n) (fronts-of_rows w (ks ++ ps) (length (ks ++ ps) - k) l)
            (subst (λ m. AreNumbered (map (take (length (ks ++ ps) - k)) (map (key_list w (ks ++ ps)) l)) m) numbering (a.each k less)));
      }

  -- no level where there are fewer values than the coarsest goes by
  pub no-levels : (w : World) (l : List Instance) (all : Bool) (least : ℕ) (found : List Numbering) → least ≡ (if all then length ks else length ks + 1)
      → length (ks ++ ps) < least → found ≡ [] → AreNumberedByEach w (level_paths ks (RollupPart.Levels all ps)) l found
  no-levels w l all least found e past none =
      numbered-levels w l all least found e (record {
        count = ap length none ∙ (let z : 0 ≡ length (ks ++ ps) + 1 - least = omega (arith, past) in z);
        each = λ k h. absurd (omega (arith, h, ap length none));
      })

-- the numbers of a column are as many as the key lists
codes-at : (keys : List (List Value)) (codes : List CodeList) → AreKeyCodes keys codes → (c : ℕ) → c < length codes → length (get_or codes c no_codes).codes ≡ length keys
codes-at keys codes a c h = (a.columns c h).size ∙ length-map keys (λ k. value_in k c)

pub codes-long : (w : World) (paths : List Path) (l : List Instance) (codes : List CodeList) (rows : ℕ) → AreKeyCodes (map (key_list w paths) l) codes → rows ≡ length l → All (λ c. length c.codes ≡ rows) codes
codes-long w paths l codes rows a e i d h =
    ap (λ c. length c.codes) (get_or_default codes i d no_codes h) ∙ codes-at (map (key_list w paths) l) codes a i h ∙ length-map l (key_list w paths) ∙ sym e
