-- Numbers of key lists in columns: one more, those of a later part, and those of all places.
use Rattle.std.proofs.Common.{◌≡◌, ℕ, List, [], ◌∷◌, ◌++◌, length, map, sym, ap, ◌∙◌}
use Rattle.std.specs.Global.{Vec}
use Rattle.std.proofs.lemmas.List.{length-map, map-append}
use Rattle.std.proofs.lemmas.Simd.{map-map}
use Rattle.edm_values.specs.declared.Seen.{Seen}
use Rattle.par_stages.specs.Placed.{placed}
use Rattle.par_stages.proofs.Places.{items-placed}
use Rattle.aggregate_ops.specs.ColumnNumbers.{AreNumbersAt, NumbersState}
use Rattle.aggregate_ops.specs.Columns.{key_at}
use Rattle.aggregate_ops.specs.Numbers.{key_number}

-- the number of the key list of an item's place
abbrev of_item : List (Vec Seen) → ℕ × ℕ → ℕ
of_item columns x = key_number (key_at columns x.0)

are-at : (s : NumbersState) (xs : List (ℕ × ℕ)) → s.numbers ≡ map (of_item s.columns) xs → AreNumbersAt s xs
are-at s xs e = record { count_is = ap length e ∙ length-map xs (of_item s.columns); are = e }

-- one number more
pub numbers-next : (s : NumbersState) (numbers : List ℕ) (x at place : ℕ) (xs : List (ℕ × ℕ)) → numbers ≡ s.numbers ++ x ∷ [] → x ≡ key_number (key_at s.columns at) → AreNumbersAt s xs
    → AreNumbersAt (record { columns = s.columns; numbers = numbers }) (xs ++ (at, place) ∷ [])
numbers-next s numbers x at place xs more is h =
    are-at (record { columns = s.columns; numbers = numbers }) (xs ++ (at, place) ∷ [])
    (more ∙ (λ i. h.are i ++ is i ∷ []) ∙ sym (map-append (of_item s.columns) xs ((at, place) ∷ [])))

-- those of a later part
pub numbers-behind : (s t : NumbersState) (numbers : List ℕ) (xs ys : List (ℕ × ℕ)) → t.columns ≡ s.columns → numbers ≡ s.numbers ++ t.numbers → AreNumbersAt s xs → AreNumbersAt t ys
    → AreNumbersAt (record { columns = s.columns; numbers = numbers }) (xs ++ ys)
numbers-behind s t numbers xs ys same more h k =
    are-at (record { columns = s.columns; numbers = numbers }) (xs ++ ys)
    (more ∙ (λ i. h.are i ++ k.are i) ∙ ap (λ cs. map (of_item s.columns) xs ++ map (of_item cs) ys) same ∙ sym (map-append (of_item s.columns) xs ys))

-- those of all places
pub numbers-all : (columns : List (Vec Seen)) (s : NumbersState) (ps : List ℕ) → s.columns ≡ columns → AreNumbersAt s (placed 0 ps) → s.numbers ≡ map (λ at. key_number (key_at columns at)) ps
numbers-all columns s ps same h =
    h.are ∙ ap (λ cs. map (of_item cs) (placed 0 ps)) same
    ∙ sym (map-map (λ at. key_number (key_at columns at)) (λ (x : ℕ × ℕ). x.0) (placed 0 ps))
    ∙ ap (map (λ at. key_number (key_at columns at))) (items-placed 0 ps)
