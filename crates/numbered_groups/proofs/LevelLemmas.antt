-- Numbers of rows by the first columns: one column more, and the levels from the last to the first.
use Rattle.std.proofs.Common.{◌≡◌, ℕ, suc, ◌+◌, ◌-◌, ◌<◌, ◌≤◌, Bool, true, false, ◌&&◌, List, [], ◌∷◌, ◌++◌, length, get_or, take, reverse, refl, sym, ap, subst, ◌∙◌, arith}
use Rattle.std.specs.Prelude.{◌⊎◌}
use Rattle.std.proofs.lemmas.List.{get_or-reverse, get_or_append_left, get_or_push, length-reverse, length_push, take_more}
use Rattle.value_codes.specs.Codes.{CodeList}
use Rattle.numbered_groups.specs.Found.{same_code, same_pair}
use Rattle.numbered_groups.specs.Levels.{AreLevelsDown, AreLevelsTo, IsNumberingBy, same_at}
use Rattle.numbered_groups.specs.Numbered.{Numbering, no_codes, no_numbering}
use Rattle.numbered_groups.proofs.IndexLemmas.{either}
use Rattle.numbered_groups.proofs.PairLemmas.{by_test}

and-true : (b : Bool) → (b && true) ≡ b
and-true true = refl
and-true false = refl

and-apart : (a b c : Bool) → (a && (b && c)) ≡ ((a && b) && c)
and-apart true b c = refl
and-apart false b c = refl

pub same_at-more : (cs : List CodeList) (c : CodeList) (i j : ℕ) → same_at (cs ++ c ∷ []) i j ≡ (same_at cs i j && same_code c.codes i j)
same_at-more [] c i j = and-true (same_code c.codes i j)
same_at-more (b ∷ cs) c i j = ap (λ t. same_code b.codes i j && t) (same_at-more cs c i j) ∙ and-apart (same_code b.codes i j) (same_at cs i j) (same_code c.codes i j)

pub by_other : (same other : ℕ → ℕ → Bool) (rows : ℕ) (n : Numbering) → ((i j : ℕ) → i < rows → j < rows → same i j ≡ other i j) → IsNumberingBy same rows n → IsNumberingBy other rows n
by_other same other rows n tells h = record { numbers_are = by_test same other rows n.numbers (length n.firsts) tells h.numbers_are; firsts_are = h.firsts_are }

-- one column more
pub column-more : (columns : List CodeList) (rows at : ℕ) (c : CodeList) (before n : Numbering) → at < length columns → c ≡ get_or columns at no_codes → length c.codes ≡ rows → IsNumberingBy (same_at (take at columns)) rows before → IsNumberingBy (same_pair before.numbers c.codes) (length c.codes) n
    → IsNumberingBy (same_at (take (at + 1) columns)) rows n
column-more columns rows at c before n within is long h k =
    by_other (same_pair before.numbers c.codes) (same_at (take (at + 1) columns)) rows n
    (λ i j li lj.
    ap (λ t. t && same_code c.codes i j) (h.numbers_are.told i j li lj)
    ∙ sym (same_at-more (take at columns) c i j)
    ∙ ap (λ cs. same_at cs i j) (ap (λ d. take at columns ++ d ∷ []) is ∙ sym (take_more columns at no_codes within)))
    (subst (λ m. IsNumberingBy (same_pair before.numbers c.codes) m n) long k)

pub levels-none : (least : ℕ) (columns : List CodeList) (rows : ℕ) (found : List Numbering) → found ≡ [] → AreLevelsTo least 0 columns rows found
levels-none least columns rows found none = subst (AreLevelsTo least 0 columns rows) (sym none) (record { count = let e : 0 ≡ 0 - least = omega arith in e; each = λ k h. absurd (omega arith) })

push-level : (least end : ℕ) (columns : List CodeList) (rows : ℕ) (found : List Numbering) (level : Numbering) → least ≤ end → IsNumberingBy (same_at (take end columns)) rows level → AreLevelsTo least end columns rows found
    → AreLevelsTo least (end + 1) columns rows (found ++ level ∷ [])
push-level least end columns rows found level asked is h =
    let size = length_push found level in
    let count = h.count in
    record {
      count = omega (arith, size, count, asked);
      each = λ k less. either (split k (length found) (omega (arith, less, size)))
          (λ old. subst (IsNumberingBy (same_at (take (least + k) columns)) rows) (sym (get_or_append_left found (level ∷ []) no_numbering k old)) (h.each k old))
          (λ last.
          let at : end ≡ least + k = omega (arith, last, count, asked) in
          subst (IsNumberingBy (same_at (take (least + k) columns)) rows) (sym (get_or_push found level no_numbering k (sym last)))
          (subst (λ e. IsNumberingBy (same_at (take e columns)) rows level) at is));
    }
  where
    split : (a b : ℕ) → a < suc b → (a < b) ⊎ (a ≡ b)
    split a b h = search arith

-- one level more, where it is asked for
pub levels-more : (least end : ℕ) (columns : List CodeList) (rows : ℕ) (found new : List Numbering) (level : Numbering) → (least ≤ end → new ≡ found ++ level ∷ []) → (end < least → new ≡ found) → IsNumberingBy (same_at (take end columns)) rows level → AreLevelsTo least end columns rows found
    → AreLevelsTo least (end + 1) columns rows new
levels-more least end columns rows found new level asked other is h = either (cases least end)
    (λ le. subst (AreLevelsTo least (end + 1) columns rows) (sym (asked le)) (push-level least end columns rows found level le is h))
    (λ less. subst (AreLevelsTo least (end + 1) columns rows) (sym (other less)) (let count = h.count in record { count = omega (arith, count, less); each = h.each }))
  where
    cases : (a b : ℕ) → (a ≤ b) ⊎ (b < a)
    cases a b = search arith

-- all levels, from the last
pub levels-down : (least width : ℕ) (columns : List CodeList) (rows : ℕ) (found : List Numbering) (level : Numbering) (all : List Numbering) → least ≤ width → IsNumberingBy (same_at (take width columns)) rows level → AreLevelsTo least width columns rows found
    → all ≡ reverse (found ++ level ∷ []) → AreLevelsDown least width columns rows all
levels-down least width columns rows found level all within is h turned =
    let up = push-level least width columns rows found level within is h in
    let count = up.count in
    let size : length all ≡ length (found ++ level ∷ []) = ap length turned ∙ length-reverse (found ++ level ∷ []) in
    record {
      count = omega (arith, size, count);
      each = λ k less.
          let other = length (found ++ level ∷ []) - 1 - k in
          let inside : k < length (found ++ level ∷ []) = omega (arith, less, size) in
          let at : least + other ≡ width - k = omega (arith, count, inside, within) in
          let read : get_or all k no_numbering ≡ get_or (found ++ level ∷ []) other no_numbering = ap (λ l. get_or l k no_numbering) turned ∙ get_or-reverse (found ++ level ∷ []) k no_numbering inside in
          subst (IsNumberingBy (same_at (take (width - k) columns)) rows) (sym read)
          (subst (λ e. IsNumberingBy (same_at (take e columns)) rows (get_or (found ++ level ∷ []) other no_numbering)) at (up.each other (omega (arith, inside))));
    }
