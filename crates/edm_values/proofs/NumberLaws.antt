-- Exact numbers in 128 bits, and sums of numbers of one scale.
use Rattle.std.proofs.Common.{◌≡◌, ℕ, ◌-◌, ◌*◌, ◌^◌, ◌<◌, ◌≤◌, max, ◌∙◌, ap, arith, ℤ, pos, ◌+ℤ◌, nat_abs, to_z, of_z, FitsSigned, lit<}
use Rattle.std.specs.Prelude.{◌*ℤ◌}
use Rattle.std.specs.Int.{w128}
use Rattle.std.proofs.lemmas.Int.{ints, to_z-of_z, fits_signed_from_abs, fits_signed_mul, unsigned_abs-mul}
use Rattle.std.proofs.lemmas.Nat.{mul-le}
use Rattle.std.proofs.Math.IntN.{zero-*ℤ}
use Rattle.std.proofs.Math.Nat.{pow-le-pow_right, sub_self, zero-max}
use Rattle.edm_values.specs.Parts.{scale_max}
use Rattle.edm_values.specs.Values.{number_plus}

-- a number that fits is what its bits say
pub wide : (z : ℤ) → nat_abs z < 2 ^ 127 → to_z w128 (of_z w128 z) ≡ z
wide z h = to_z-of_z w128 z (fits_signed_from_abs w128 z h)

-- a product that fits
pub product_wide : (a b : ℤ) (m n : ℕ) → nat_abs a ≤ m → nat_abs b ≤ n → m < 2 ^ 127 → n < 2 ^ 127 → m * n < 2 ^ 127 → to_z w128 (of_z w128 (to_z w128 (of_z w128 a) *ℤ to_z w128 (of_z w128 b))) ≡ a *ℤ b
product_wide a b m n h k p q r =
    let left = wide a (omega arith) in
    let right = wide b (omega arith) in
    ap (λ z. to_z w128 (of_z w128 z)) (λ i. left i *ℤ right i) ∙ to_z-of_z w128 (a *ℤ b) (fits_signed_mul w128 a b m n h k r)

-- a sum that fits
pub sum_wide : (a b : ℤ) → nat_abs a < 2 ^ 126 → nat_abs b < 2 ^ 126 → to_z w128 (of_z w128 (to_z w128 (of_z w128 a) +ℤ to_z w128 (of_z w128 b))) ≡ a +ℤ b
sum_wide a b h k =
    let left = wide a (omega arith) in
    let right = wide b (omega arith) in
    let fits : FitsSigned w128 (a +ℤ b) = omega (arith, ints) in
    ap (λ z. to_z w128 (of_z w128 z)) (λ i. left i +ℤ right i) ∙ to_z-of_z w128 (a +ℤ b) fits

-- the greatest number at the greatest scale has room in 128 bits
pub power_most : (by : ℕ) → by ≤ scale_max → 10 ^ by ≤ 10 ^ scale_max
power_most by h = pow-le-pow_right (lit< tt) h

pub raised_size : (m : ℤ) (by : ℕ) → nat_abs m ≤ 2 ^ 63 → by ≤ scale_max → nat_abs (m *ℤ pos (10 ^ by)) < 2 ^ 126
raised_size m by h k =
    let most : nat_abs m * 10 ^ by ≤ 2 ^ 63 * 10 ^ scale_max = mul-le (nat_abs m) (10 ^ by) (2 ^ 63) (10 ^ scale_max) h (power_most by k) in
    let size : nat_abs (m *ℤ pos (10 ^ by)) ≡ nat_abs m * 10 ^ by = unsigned_abs-mul m (pos (10 ^ by)) in
    omega (arith, most, size)

pub raised_wide : (m p : ℤ) (by : ℕ) → p ≡ pos (10 ^ by) → nat_abs m ≤ 2 ^ 63 → by ≤ scale_max → nat_abs (to_z w128 (of_z w128 (to_z w128 (of_z w128 m) *ℤ to_z w128 (of_z w128 p)))) < 2 ^ 126
raised_wide m p by e h k =
    let power : nat_abs p ≤ 10 ^ scale_max = let same = ap nat_abs e in let most = power_most by k in omega (arith, same, most) in
    let product = ap nat_abs (product_wide m p (2 ^ 63) (10 ^ scale_max) h power (lit< tt) (lit< tt) (lit< tt) ∙ ap (λ z. m *ℤ z) e) in
    let small = raised_size m by h k in
    omega (arith, product, small)

-- ---- sums of numbers of one scale

at_own_scale : (z : ℤ) (s : ℕ) → z *ℤ pos (10 ^ (s - s)) ≡ z
at_own_scale z s = ap (λ k. z *ℤ pos (10 ^ k)) (sub_self s) ∙ omega (arith, ints)

max-same : (s : ℕ) → max s s ≡ s
max-same s = omega arith

pub number_plus-same : (a m : ℤ) (s : ℕ) → number_plus (a, s) (m, s) ≡ (a +ℤ m, s)
number_plus-same a m s =
    ap (λ t. (a *ℤ pos (10 ^ (t - s)) +ℤ m *ℤ pos (10 ^ (t - s)), t)) (max-same s) ∙ (λ i. (at_own_scale a s i +ℤ at_own_scale m s i, s))

pub number_plus-zero : (m : ℤ) (s : ℕ) → number_plus (pos 0, 0) (m, s) ≡ (pos 0 +ℤ m, s)
number_plus-zero m s =
    ap (λ t. (pos 0 *ℤ pos (10 ^ (t - 0)) +ℤ m *ℤ pos (10 ^ (t - s)), t)) (zero-max s) ∙ (λ i. (zero-*ℤ (pos (10 ^ (s - 0))) i +ℤ at_own_scale m s i, s))

pub plus_nothing : (a : ℤ) → a ≡ a +ℤ pos 0
plus_nothing a = omega (arith, ints)
