-- Digits at the end of a row of zeros.
use Rattle.std.proofs.Common.{◌≡◌, ℕ, zero, suc, ◌+◌, ◌-◌, ◌≤◌, List, [], ◌++◌, length, take, drop, replicate, min, sym, ◌∙◌, ap, arith}
use Rattle.std.specs.Prelude.{decimal}
use Rattle.std.proofs.lemmas.List.{append-nil, take-append-drop, drop_all, length-replicate}
use Rattle.edm_values.proofs.DigitLaws.{take_zeros}
use Rattle.edm_values.specs.Literals.{padded_decimal}

-- without some of the zeros in front
drop_zeros : (k m : ℕ) (ds : List ℕ) → k ≤ m → drop k (replicate m 48 ++ ds) ≡ replicate (m - k) 48 ++ ds
drop_zeros zero m ds h = let e : m - 0 ≡ m = omega arith in ap (λ n. replicate n 48 ++ ds) (sym e)
drop_zeros (suc k) zero ds h = absurd (omega arith)
drop_zeros (suc k) (suc m) ds h = let e : suc m - suc k ≡ m - k = omega arith in drop_zeros k m ds (omega arith) ∙ ap (λ n. replicate n 48 ++ ds) (sym e)

-- a row of zeros, in whose end digits were written
pub padded_end : (r w n start at : ℕ) (row old : List ℕ) → start + length (decimal n) ≡ r → drop start row ≡ decimal n ++ drop r old → take start row ≡ take start old → old ≡ replicate r 48 → w ≤ r → at ≡ min start (r - w)
    → drop at row ≡ padded_decimal w n
padded_end r w n start at row old sum written before zeros h place =
    let none : drop r old ≡ [] = ap (drop r) zeros ∙ drop_all r (replicate r 48) (let e = length-replicate {A = ℕ} r 48 in omega arith) in
    let front : take start row ≡ replicate start 48 = before ∙ ap (take start) zeros ∙ take_zeros start r (omega arith) in
    let digits : drop start row ≡ decimal n = written ∙ ap (λ ds. decimal n ++ ds) none ∙ append-nil (decimal n) in
    let whole : row ≡ replicate start 48 ++ decimal n = sym (take-append-drop start row) ∙ (λ i. front i ++ digits i) in
    let few : start - at ≡ w - length (decimal n) = omega arith in
    ap (drop at) whole ∙ drop_zeros at start (decimal n) (omega arith) ∙ ap (λ k. replicate k 48 ++ decimal n) few
