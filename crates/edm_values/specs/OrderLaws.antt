-- Numbers, and all values, are in a total order, and values that it does not tell apart are the same.
use Rattle.std.proofs.Common.{◌≡◌, ℕ, zero, suc, pred, ◌*◌, ◌^◌, ◌<◌, true, false, cond, List, [], ◌∷◌, refl, sym, ◌∙◌, ap, subst, arith, pos, negsuc, ℤ, neg_ℤ, ltb}
use Rattle.std.specs.Prelude.{int_lt, ◌*ℤ◌}
use Rattle.std.specs.declared.cmp.Ordering.{Ordering}
use Rattle.std.specs.declared.cmp.Ordering.TheVariants.{Less, Equal, Greater}
use Rattle.std.specs.Ordering.{int_cmp, nat_cmp, ordering_then, is_lt, is_eq, is_gt}
use Rattle.std.specs.Cmp.{IsTotalOrder, both_ways, Equal-is, unsigned_tied, signed_Decides}
use Rattle.std.specs.Cmp.Lexicographic.{slice_cmp}
use Rattle.std.proofs.lemmas.Cmp.{int_cmp_total, nat_cmp_total, nat_list_cmp_total, on_total, then_total, tied_itself}
use Rattle.std.proofs.lemmas.Bool.{ltb-true, lt-ltb, true≢false, eqb-true}
use Rattle.std.proofs.Math.IntN.{pos-*ℤ-pos, negsuc-*ℤ-pos}
use Rattle.std.proofs.Math.Nat.{mul-lt-mul_of_pos_right, lt_of_mul-lt-mul_right, mul_assoc, mul_comm, pow-zero, pow-suc, suc-pred-eq_of_pos, zero-lt-suc, zero-mul}
use Rattle.edm_values.specs.declared.Value.{Value}
use Rattle.edm_values.specs.PartLaws.{same_decimal, same_day}
use Rattle.edm_values.specs.Values.{Number, same_value, number_cmp, value_cmp, kind_place, number_part, scale_place, parts_of}

-- ---- an integer times q + 1

abbrev times : ℕ → ℤ → ℤ
times q (pos a) = pos (a * suc q)
times q (negsuc a) = negsuc (pred (suc a * suc q))

positive : (a q : ℕ) → 0 < suc a * suc q
positive a q = let h : 0 * suc q < suc a * suc q = mul-lt-mul_of_pos_right (zero-lt-suc a) (zero-lt-suc q) in rw zero-mul at h

times_is : (z : ℤ) (q : ℕ) → z *ℤ pos (suc q) ≡ times q z
times_is (pos a) q = pos-*ℤ-pos a (suc q)
times_is (negsuc a) q = negsuc-*ℤ-pos a (suc q) ∙ ap (λ n. neg_ℤ (pos n)) (sym (suc-pred-eq_of_pos (positive a q)))

product_less : (a b q : ℕ) → ltb (a * suc q) (b * suc q) ≡ ltb a b
product_less a b q = both_ways _ _ (λ h. lt-ltb a b (lt_of_mul-lt-mul_right (suc q) (ltb-true _ _ h))) (λ h. lt-ltb _ _ (mul-lt-mul_of_pos_right (ltb-true a b h) (zero-lt-suc q)))

pred_less : (m n : ℕ) → 0 < m → 0 < n → ltb (pred m) (pred n) ≡ ltb m n
pred_less zero n h g = absurd (omega arith)
pred_less (suc m) zero h g = absurd (omega arith)
pred_less (suc m) (suc n) h g = both_ways _ _ (λ e. let l = ltb-true m n e in lt-ltb _ _ (omega arith)) (λ e. let l = ltb-true (suc m) (suc n) e in lt-ltb _ _ (omega arith))

suc_less : (m n : ℕ) → ltb (suc m) (suc n) ≡ ltb m n
suc_less m n = both_ways _ _ (λ e. let l = ltb-true (suc m) (suc n) e in lt-ltb _ _ (omega arith)) (λ e. let l = ltb-true m n e in lt-ltb _ _ (omega arith))

times_less : (x y : ℤ) (q : ℕ) → int_lt (times q x) (times q y) ≡ int_lt x y
times_less (pos a) (pos b) q = product_less a b q
times_less (pos a) (negsuc b) q = refl
times_less (negsuc a) (pos b) q = refl
times_less (negsuc a) (negsuc b) q = pred_less (suc b * suc q) (suc a * suc q) (positive b q) (positive a q) ∙ product_less (suc b) (suc a) q ∙ suc_less b a

times_cmp : (x y : ℤ) (q : ℕ) → int_cmp (times q x) (times q y) ≡ int_cmp x y
times_cmp x y q = λ i. cond (times_less x y q i) Less (cond (times_less y x q i) Greater Equal)

swapped : (a b c : ℕ) → a * b * c ≡ a * c * b
swapped a b c = mul_assoc a b c ∙ ap (λ n. a * n) (mul_comm b c) ∙ sym (mul_assoc a c b)

times_swapped : (x : ℤ) (p q : ℕ) → times q (times p x) ≡ times p (times q x)
times_swapped (pos a) p q = ap pos (swapped a (suc p) (suc q))
times_swapped (negsuc a) p q =
    ap (λ n. negsuc (pred (n * suc q))) (suc-pred-eq_of_pos (positive a p)) ∙ ap (λ n. negsuc (pred n)) (swapped (suc a) (suc p) (suc q))
    ∙ sym (ap (λ n. negsuc (pred (n * suc p))) (suc-pred-eq_of_pos (positive a q)))

-- ---- numbers

pub power_positive : (s : ℕ) → 0 < 10 ^ s
power_positive zero = rw pow-zero (omega arith)
power_positive (suc s) = let h = power_positive s in rw pow-suc (omega arith)

-- the power of ten, less one
abbrev nines : ℕ → ℕ
nines s = pred (10 ^ s)

raised : (z : ℤ) (s : ℕ) → z *ℤ pos (10 ^ s) ≡ times (nines s) z
raised z s = ap (λ n. z *ℤ pos n) (sym (suc-pred-eq_of_pos (power_positive s))) ∙ times_is z (nines s)

abbrev raised_cmp : Number → Number → Ordering
raised_cmp a b = int_cmp (times (nines b.1) a.0) (times (nines a.1) b.0)

number_cmp_is : (a b : Number) → number_cmp a b ≡ raised_cmp a b
number_cmp_is a b = λ i. int_cmp (raised a.0 b.1 i) (raised b.0 a.1 i)

-- a by b's and c's powers, and so on: the three numbers at one scale
at_one_scale : (a b c : Number) → raised_cmp a b ≡ int_cmp (times (nines b.1) (times (nines c.1) a.0)) (times (nines a.1) (times (nines c.1) b.0))
at_one_scale a b c =
    sym (times_cmp (times (nines b.1) a.0) (times (nines a.1) b.0) (nines c.1))
    ∙ (λ i. int_cmp (times_swapped a.0 (nines b.1) (nines c.1) i) (times_swapped b.0 (nines a.1) (nines c.1) i))

raised_total : IsTotalOrder raised_cmp
raised_total = record {
  antisymm = λ a b. int_cmp_total.antisymm (times (nines b.1) a.0) (times (nines a.1) b.0);
  trans = λ a b c h g.
      at_one_scale a c b
      ∙ int_cmp_total.trans (times (nines c.1) (times (nines b.1) a.0)) (times (nines a.1) (times (nines c.1) b.0)) (times (nines a.1) (times (nines b.1) c.0))
      (ap (λ z. int_cmp z (times (nines a.1) (times (nines c.1) b.0))) (times_swapped a.0 (nines b.1) (nines c.1)) ∙ sym (at_one_scale a b c) ∙ h)
      ((λ i. int_cmp (times_swapped b.0 (nines c.1) (nines a.1) i) (times_swapped c.0 (nines b.1) (nines a.1) i)) ∙ sym (at_one_scale b c a) ∙ g);
  congr = λ a b c h.
      at_one_scale a c b
      ∙ int_cmp_total.congr (times (nines c.1) (times (nines b.1) a.0)) (times (nines a.1) (times (nines c.1) b.0)) (times (nines a.1) (times (nines b.1) c.0))
      (ap (λ z. int_cmp z (times (nines a.1) (times (nines c.1) b.0))) (times_swapped a.0 (nines b.1) (nines c.1)) ∙ sym (at_one_scale a b c) ∙ h)
      ∙ (λ i. int_cmp (times_swapped b.0 (nines c.1) (nines a.1) i) (times_swapped c.0 (nines b.1) (nines a.1) i)) ∙ sym (at_one_scale b c a);
}

-- numbers of any scales are in a total order
pub number_cmp_total : IsTotalOrder number_cmp
number_cmp_total = let e : number_cmp ≡ raised_cmp = λ i a b. number_cmp_is a b i in subst IsTotalOrder (sym e) raised_total

-- numbers of one scale compare by their mantissas
pub same_scale_cmp : (m n : ℤ) (s : ℕ) → number_cmp (m, s) (n, s) ≡ int_cmp m n
same_scale_cmp m n s = number_cmp_is (m, s) (n, s) ∙ times_cmp m n (nines s)

-- ---- values

-- all values are in a total order
pub value_cmp_total : IsTotalOrder value_cmp
value_cmp_total = then_total (on_total kind_place nat_cmp_total) (then_total (on_total number_part number_cmp_total) (then_total (on_total scale_place nat_cmp_total) (on_total parts_of nat_list_cmp_total)))

-- ---- values that the order does not tell apart are the same

-- two orders, one after the other, find equal what both do
pub both_equal : (r s : Ordering) → ordering_then r s ≡ Equal → (r ≡ Equal) × (s ≡ Equal)
both_equal Less s h = (h, absurd (true≢false (ap is_lt h)))
both_equal Equal s h = (refl, h)
both_equal Greater s h = (h, absurd (true≢false (ap is_gt h)))

equal_numbers : (m n : ℕ) → nat_cmp m n ≡ Equal → m ≡ n
equal_numbers m n h = eqb-true m n (sym (unsigned_tied m n) ∙ ap is_eq h)

equal_integers : (x y : ℤ) → int_cmp x y ≡ Equal → x ≡ y
equal_integers x y h = (signed_Decides x y).0 (ap is_eq h)

pub equal_lists : (xs ys : List ℕ) → slice_cmp nat_cmp xs ys ≡ Equal → xs ≡ ys
equal_lists [] [] h = refl
equal_lists [] (y ∷ ys) h = absurd (true≢false (ap is_lt h))
equal_lists (x ∷ xs) [] h = absurd (true≢false (ap is_gt h))
equal_lists (x ∷ xs) (y ∷ ys) h = let both = both_equal (nat_cmp x y) (slice_cmp nat_cmp xs ys) h in λ i. equal_numbers x y both.0 i ∷ equal_lists xs ys both.1 i

-- values of one kind, number, scale and list are the same
same_from_parts : (a b : Value) → kind_place a ≡ kind_place b → number_cmp (number_part a) (number_part b) ≡ Equal → scale_place a ≡ scale_place b → parts_of a ≡ parts_of b → a ≡ b
same_from_parts Value.Null Value.Null k n s p = refl
same_from_parts (Value.Bool true) (Value.Bool true) k n s p = refl
same_from_parts (Value.Bool true) (Value.Bool false) k n s p = cc
same_from_parts (Value.Bool false) (Value.Bool true) k n s p = cc
same_from_parts (Value.Bool false) (Value.Bool false) k n s p = refl
same_from_parts (Value.Int x) (Value.Int y) k n s p = ap Value.Int (equal_integers x y (sym (same_scale_cmp x y 0) ∙ n))
same_from_parts (Value.Int x) (Value.Dec e) k n s p = absurd (omega arith)
same_from_parts (Value.Dec d) (Value.Int y) k n s p = absurd (omega arith)
same_from_parts (Value.Dec d) (Value.Dec e) k n s p =
    let scales : d.scale ≡ e.scale = omega arith in
    let mantissas = sym (same_scale_cmp d.mantissa e.mantissa d.scale) ∙ ap (λ t. number_cmp (d.mantissa, d.scale) (e.mantissa, t)) scales ∙ n in
    ap Value.Dec (same_decimal d e (equal_integers d.mantissa e.mantissa mantissas) scales)
same_from_parts (Value.Text t) (Value.Text u) k n s p = ap Value.Text p
same_from_parts (Value.Day d) (Value.Day e) k n s p = ap Value.Day (let year : d.year ≡ e.year = cc in let month : d.month ≡ e.month = cc in let day : d.day ≡ e.day = cc in same_day d e year month day)
same_from_parts Value.Beyond Value.Beyond k n s p = refl
same_from_parts _ _ k n s p = absurd (omega arith)

-- values that the order finds equal are the same
pub same_value_is : (a b : Value) → same_value a b ≡ true → a ≡ b
same_value_is a b h =
    let scales_and_lists = ordering_then (nat_cmp (scale_place a) (scale_place b)) (slice_cmp nat_cmp (parts_of a) (parts_of b)) in
    let all = (Equal-is (value_cmp a b)).0 h in
    let kinds = both_equal (nat_cmp (kind_place a) (kind_place b)) (ordering_then (number_cmp (number_part a) (number_part b)) scales_and_lists) all in
    let numbers = both_equal (number_cmp (number_part a) (number_part b)) scales_and_lists kinds.1 in
    let scales = both_equal (nat_cmp (scale_place a) (scale_place b)) (slice_cmp nat_cmp (parts_of a) (parts_of b)) numbers.1 in
    same_from_parts a b (equal_numbers _ _ kinds.0) numbers.0 (equal_numbers _ _ scales.0) (equal_lists _ _ scales.1)

-- a value is the same as itself
pub same_value_itself : (a : Value) → same_value a a ≡ true
same_value_itself a = ap is_eq (tied_itself value_cmp_total a)
