-- Products that fit 128 bits.
use Rattle.std.proofs.Common.{◌≡◌, ℕ, ◌*◌, ◌^◌, ◌<◌, ◌≤◌, ◌∙◌, ap, sym, subst, arith, ℤ, pos, ◌+ℤ◌, ◌<ℤ◌, ◌≤ℤ◌, ◌+◌, nat_abs, to_z, of_z, FitsSigned, lit<}
use Rattle.std.specs.Prelude.{◌*ℤ◌, int_le}
use Rattle.std.specs.Int.{w128, int_div_euclid, int_rem_euclid}
use Rattle.std.proofs.lemmas.Int.{ints, fits_signed_mul, to_z-of_z, unsigned_abs-mul}
use Rattle.std.proofs.lemmas.Nat.{mul-le}
use Rattle.edm_values.specs.OrderLaws.{power_positive}
use Rattle.edm_values.specs.Parts.{scale_max}
use Rattle.edm_values.proofs.NumberLaws.{power_most, product_wide, wide}
use Rattle.top_family.proofs.Quotients.{euclid, hundredth_small, hundredths, percentage_small, rest_below}

-- a product that fits, of numbers that are read from their bits
pub product_fits : (a b : ℤ) (m n : ℕ) → nat_abs a ≤ m → nat_abs b ≤ n → m < 2 ^ 127 → n < 2 ^ 127 → m * n < 2 ^ 127 → FitsSigned w128 (to_z w128 (of_z w128 a) *ℤ to_z w128 (of_z w128 b))
product_fits a b m n h k p q r =
    let left = wide a (omega arith) in
    let right = wide b (omega arith) in
    subst (FitsSigned w128) (sym (λ i. left i *ℤ right i)) (fits_signed_mul w128 a b m n h k r)

-- a power of ten is small
power_size : (p : ℤ) (by : ℕ) → p ≡ pos (10 ^ by) → by ≤ scale_max → nat_abs p ≤ 10 ^ scale_max
power_size p by e h = let same = ap nat_abs e in let most = power_most by h in omega (arith, same, most)

pub raised_fits : (z p : ℤ) (by : ℕ) → nat_abs z ≤ 2 ^ 63 → p ≡ pos (10 ^ by) → by ≤ scale_max → FitsSigned w128 (to_z w128 (of_z w128 z) *ℤ to_z w128 (of_z w128 p))
raised_fits z p by h e k = product_fits z p (2 ^ 63) (10 ^ scale_max) h (power_size p by e k) (lit< tt) (lit< tt) (lit< tt)

pub raised_is : (z p : ℤ) (by : ℕ) → nat_abs z ≤ 2 ^ 63 → p ≡ pos (10 ^ by) → by ≤ scale_max → to_z w128 (of_z w128 (to_z w128 (of_z w128 z) *ℤ to_z w128 (of_z w128 p))) ≡ z *ℤ pos (10 ^ by)
raised_is z p by h e k = product_wide z p (2 ^ 63) (10 ^ scale_max) h (power_size p by e k) (lit< tt) (lit< tt) (lit< tt) ∙ ap (λ q. z *ℤ q) e

-- a power of ten is read from its bits, and is above zero
pub power_is : (p : ℤ) (by : ℕ) → p ≡ pos (10 ^ by) → by ≤ scale_max → to_z w128 (of_z w128 p) ≡ pos (10 ^ by)
power_is p by e h = let size = power_size p by e h in let most : 10 ^ scale_max < 2 ^ 127 = lit< tt in wide p (omega (arith, size, most)) ∙ e

pub power_above : (p : ℤ) (by : ℕ) → p ≡ pos (10 ^ by) → by ≤ scale_max → pos 0 <ℤ to_z w128 (of_z w128 p)
power_above p by e h = let some = power_positive by in let is = power_is p by e h in omega (arith, ints, some, is)

-- ---- a percentage, from its quotient and rest by 100

sum_fits : (a b : ℤ) → nat_abs a ≤ (2 ^ 126 + 100) → nat_abs b ≤ 100 → FitsSigned w128 (a +ℤ b)
sum_fits a b h k = omega (arith, ints)

-- the code's sum
abbrev pub percent_sum : ℤ → ℤ → ℤ → ℤ
percent_sum p q u = to_z w128 (of_z w128 (to_z w128 (of_z w128 p) *ℤ to_z w128 (of_z w128 q))) +ℤ to_z w128 (of_z w128 u)

-- it fits, and is the least whole number that is no less than the percentage
pub percent_is : (p : ℕ) (a p' q r u : ℤ) → p ≤ 100 → nat_abs a ≤ 2 ^ 126 → p' ≡ pos p → q ≡ int_div_euclid a (pos 100) → r ≡ int_rem_euclid a (pos 100)
    → ((x : ℤ) → int_le (to_z w128 (of_z w128 (to_z w128 (of_z w128 p') *ℤ to_z w128 (of_z w128 r)))) (x *ℤ pos 100) ≡ int_le u x)
    → FitsSigned w128 (percent_sum p' q u) × ((x : ℤ) → int_le (pos p *ℤ a) (pos 100 *ℤ x) ≡ int_le (to_z w128 (of_z w128 (percent_sum p' q u))) x)
percent_is p a p' q r u most size p-is q-is r-is up =
    let whole = int_div_euclid a (pos 100) in
    let rest = int_rem_euclid a (pos 100) in
    let small = hundredth_small a size in
    let percent : nat_abs p' ≤ 100 = subst (λ z. nat_abs z ≤ 100) (sym p-is) most in
    let quotient : nat_abs q ≤ 2 ^ 120 = subst (λ z. nat_abs z ≤ 2 ^ 120) (sym q-is) (omega arith) in
    let range = rest_below a 100 (lit< tt) in
    let below : nat_abs r ≤ 100 = subst (λ z. nat_abs z ≤ 100) (sym r-is) (below_hundred rest range.0 range.1) in
    let first : to_z w128 (of_z w128 (to_z w128 (of_z w128 p') *ℤ to_z w128 (of_z w128 q))) ≡ pos p *ℤ whole = product_wide p' q 100 (2 ^ 120) percent quotient (lit< tt) (lit< tt) (lit< tt) ∙ (λ i. p-is i *ℤ q-is i) in
    let second : to_z w128 (of_z w128 (to_z w128 (of_z w128 p') *ℤ to_z w128 (of_z w128 r))) ≡ pos p *ℤ rest = product_wide p' r 100 100 percent below (lit< tt) (lit< tt) (lit< tt) ∙ (λ i. p-is i *ℤ r-is i) in
    let rounded : (x : ℤ) → int_le (pos p *ℤ rest) (x *ℤ pos 100) ≡ int_le u x = λ x. ap (λ z. int_le z (x *ℤ pos 100)) (sym second) ∙ up x in
    let little = percentage_small p rest u most range rounded in
    let size_of : nat_abs (pos p *ℤ whole) ≤ (2 ^ 126 + 100) = let e = unsigned_abs-mul (pos p) whole in let m = mul-le p (nat_abs whole) 100 (nat_abs whole) most (omega arith) in omega (arith, e, m, small) in
    let exact : percent_sum p' q u ≡ pos p *ℤ whole +ℤ u = λ i. first i +ℤ wide u (omega (arith, little)) i in
    let fits : FitsSigned w128 (percent_sum p' q u) = subst (FitsSigned w128) (sym exact) (sum_fits (pos p *ℤ whole) u size_of little) in
    (fits, λ x. hundredths p a whole rest u (euclid a 100 (lit< tt)) rounded x ∙ ap (λ z. int_le z x) (sym (to_z-of_z w128 (percent_sum p' q u) fits ∙ exact)))
  where
    below_hundred : (r : ℤ) → pos 0 ≤ℤ r → r <ℤ pos 100 → nat_abs r ≤ 100
    below_hundred r h k = omega (arith, ints)
