-- Whole numbers, and quotients of them that are rounded up.
use Rattle.std.proofs.Common.{◌≡◌, ℕ, zero, suc, ◌+◌, ◌-◌, ◌*◌, ◌<◌, ◌≤◌, ◌/◌, ◌%◌, Bool, true, refl, sym, ◌∙◌, ap, arith, ℤ, pos, negsuc, ◌+ℤ◌, ◌-ℤ◌, ◌*ℤ◌, ◌≤ℤ◌, ◌<ℤ◌, ◌^◌, nat_abs, FitsSigned}
use Rattle.std.specs.Prelude.{int_le, int_lt}
use Rattle.std.specs.Cmp.{both_ways}
use Rattle.std.specs.Int.{w128, int_div_euclid, int_rem_euclid}
use Rattle.std.specs.Ordering.{int_cmp, is_ge}
use Rattle.std.proofs.lemmas.Int.{ints, by_lt_z}
use Rattle.std.proofs.lemmas.Nat.{div-add-mod', mod_below, mul-le}
use Rattle.std.proofs.Math.Nat.{div-le_self, div-mul-le_self}
use Rattle.std.proofs.Math.IntN.{*ℤ_comm, *ℤ-zero, zero-*ℤ, pos-*ℤ-pos, negsuc-*ℤ-pos}
use Rattle.edm_values.proofs.ValueOrders.{times-suc, plus-times}

-- ---- tests of whole numbers

pub le_from : (a b : ℤ) → a ≤ℤ b → int_le a b ≡ true
le_from a b h = grind (arith, ints)

pub le_gives : (a b : ℤ) → int_le a b ≡ true → a ≤ℤ b
le_gives a b h = grind (arith, ints)

pub le_same : (a b c d : ℤ) → (a ≤ℤ b → c ≤ℤ d) → (c ≤ℤ d → a ≤ℤ b) → int_le a b ≡ int_le c d
le_same a b c d f g = both_ways (int_le a b) (int_le c d) (λ e. le_from c d (f (le_gives a b e))) (λ e. le_from a b (g (le_gives c d e)))

-- no less, by the order and by the test
pub ge_is : (a b : ℤ) → is_ge (int_cmp a b) ≡ int_le b a
ge_is a b = go (int_lt a b) (int_lt b a) refl refl
  where
    go : (x y : Bool) → int_lt a b ≡ x → int_lt b a ≡ y → is_ge (int_cmp a b) ≡ int_le b a
    go x y e f = grind (arith, ints)

-- ---- products

pub times_swapped : (z : ℤ) (m n : ℕ) → z *ℤ pos m *ℤ pos n ≡ z *ℤ pos n *ℤ pos m
times_swapped z m zero = *ℤ-zero (z *ℤ pos m) ∙ sym (ap (λ k. k *ℤ pos m) (*ℤ-zero z) ∙ zero-*ℤ (pos m))
times_swapped z m (suc n) =
    times-suc (z *ℤ pos m) n ∙ ap (λ k. k +ℤ z *ℤ pos m) (times_swapped z m n) ∙ sym (plus-times (z *ℤ pos n) z m) ∙ ap (λ k. k *ℤ pos m) (sym (times-suc z n))

-- how far a number is above another
apart : (x y : ℤ) → x ≤ℤ y → (d : ℕ) × (y ≡ x +ℤ pos d)
apart x y h = go (y -ℤ x) refl
  where
    go : (z : ℤ) → y -ℤ x ≡ z → (d : ℕ) × (y ≡ x +ℤ pos d)
    go (pos d) e = (d, omega (arith, ints))
    go (negsuc d) e = absurd (omega (arith, ints))

times_mono : (x y : ℤ) (n : ℕ) → x ≤ℤ y → (x *ℤ pos n) ≤ℤ (y *ℤ pos n)
times_mono x y n h =
    let t = apart x y h in
    let e = ap (λ z. z *ℤ pos n) t.1 ∙ plus-times x (pos t.0) n ∙ ap (λ z. x *ℤ pos n +ℤ z) (pos-*ℤ-pos t.0 n) in
    omega (arith, ints, e)

times_less : (x y : ℤ) (n : ℕ) → x <ℤ y → (x *ℤ pos n +ℤ pos n) ≤ℤ (y *ℤ pos n)
times_less x y n h =
    let up : (x +ℤ pos 1) ≤ℤ y = omega (arith, ints) in
    let more = times_mono (x +ℤ pos 1) y n up in
    let one : 1 * n ≡ n = omega arith in
    let e = plus-times x (pos 1) n ∙ ap (λ z. x *ℤ pos n +ℤ z) (pos-*ℤ-pos 1 n ∙ ap pos one) in
    omega (arith, ints, e, more)

-- ---- quotients

below_zero : (a n : ℕ) → 0 < n → negsuc (a / n) *ℤ pos n +ℤ pos (n - 1 - a % n) ≡ negsuc a
below_zero a n h =
    let product = negsuc-*ℤ-pos (a / n) n in
    let next : suc (a / n) * n ≡ n + a / n * n = grind arith in
    let whole = div-add-mod' a n in
    let small = mod_below a n h in
    omega (arith, ints, product, next, whole, small)

pub euclid : (a : ℤ) (n : ℕ) → 0 < n → int_div_euclid a (pos n) *ℤ pos n +ℤ int_rem_euclid a (pos n) ≡ a
euclid (pos a) n h = ap (λ z. z +ℤ pos (a % n)) (pos-*ℤ-pos (a / n) n) ∙ ap pos (div-add-mod' a n)
euclid (negsuc a) n h = below_zero a n h

pub rest_below : (a : ℤ) (n : ℕ) → 0 < n → (pos 0 ≤ℤ int_rem_euclid a (pos n)) × (int_rem_euclid a (pos n) <ℤ pos n)
rest_below (pos a) n h = let small = mod_below a n h in (omega (arith, ints), omega (arith, ints))
rest_below (negsuc a) n h = let small = mod_below a n h in (omega (arith, ints), omega (arith, ints))

-- a quotient without a rest, and one with a rest, against which whole numbers are no less
exact : (a q r x : ℤ) (n : ℕ) → 0 < n → q *ℤ pos n +ℤ r ≡ a → r ≡ pos 0 → int_le a (x *ℤ pos n) ≡ int_le q x
exact a q r x n h e z = le_same a (x *ℤ pos n) q x
    (λ up. by_lt_z x q (λ l. absurd (let m = times_less x q n l in omega (arith, ints, m))) (λ le. le))
    (λ up. let m = times_mono q x n up in omega (arith, ints, m))

more : (a q r x : ℤ) (n : ℕ) → 0 < n → q *ℤ pos n +ℤ r ≡ a → pos 0 <ℤ r → r <ℤ pos n → int_le a (x *ℤ pos n) ≡ int_le (q +ℤ pos 1) x
more a q r x n h e low high = le_same a (x *ℤ pos n) (q +ℤ pos 1) x
    (λ up. by_lt_z x (q +ℤ pos 1) (λ l. absurd (let le : x ≤ℤ q = omega (arith, ints) in let m = times_mono x q n le in omega (arith, ints, m))) (λ le. le))
    (λ up. let l : q <ℤ x = omega (arith, ints) in let m = times_less q x n l in omega (arith, ints, m))

pub exact_quotient : (a b : ℤ) → pos 0 <ℤ b → int_rem_euclid a b ≡ pos 0 → (x : ℤ) → int_le a (x *ℤ b) ≡ int_le (int_div_euclid a b) x
exact_quotient a (pos n) h e x = let l : 0 < n = omega (arith, ints) in exact a (int_div_euclid a (pos n)) (int_rem_euclid a (pos n)) x n l (euclid a n l) e
exact_quotient a (negsuc n) h e x = absurd (omega (arith, ints))

pub next_quotient : (a b : ℤ) → pos 0 <ℤ b → (int_rem_euclid a b ≡ pos 0 → ⊥) → (x : ℤ) → int_le a (x *ℤ b) ≡ int_le (int_div_euclid a b +ℤ pos 1) x
next_quotient a (pos n) h e x =
    let l : 0 < n = omega (arith, ints) in
    let t = rest_below a n l in
    more a (int_div_euclid a (pos n)) (int_rem_euclid a (pos n)) x n l (euclid a n l) (positive (int_rem_euclid a (pos n)) t.0 e) t.1
  where
    positive : (r : ℤ) → pos 0 ≤ℤ r → (r ≡ pos 0 → ⊥) → pos 0 <ℤ r
    positive (pos zero) g f = absurd (f refl)
    positive (pos (suc r)) g f = omega (arith, ints)
    positive (negsuc r) g f = absurd (omega (arith, ints))
next_quotient a (negsuc n) h e x = absurd (omega (arith, ints))

-- it fits where the number fits
pub next_fits : (a b : ℤ) → FitsSigned w128 a → pos 0 <ℤ b → (int_rem_euclid a b ≡ pos 0 → ⊥) → FitsSigned w128 (int_div_euclid a b +ℤ pos 1)
next_fits (pos a) (pos n) f h e =
    let l : 0 < n = omega (arith, ints) in
    let whole = div-add-mod' a n in
    let some : 0 < a % n = positive (a % n) e in
    let less : (a / n * 1) ≤ (a / n * n) = mul-le (a / n) 1 (a / n) n (omega arith) l in
    small (a / n) a (omega arith) f
  where
    positive : (r : ℕ) → (pos r ≡ pos 0 → ⊥) → 0 < r
    positive zero g = absurd (g refl)
    positive (suc r) g = omega arith

    small : (q a : ℕ) → q < a → FitsSigned w128 (pos a) → FitsSigned w128 (pos q +ℤ pos 1)
    small q a l f = omega (arith, ints)
next_fits (negsuc a) (pos n) f h e = small (a / n) a (div-le_self a n) f
  where
    small : (q a : ℕ) → q ≤ a → FitsSigned w128 (negsuc a) → FitsSigned w128 (negsuc q +ℤ pos 1)
    small q a l f = omega (arith, ints)
next_fits a (negsuc n) f h e = absurd (omega (arith, ints))

-- ---- hundredths

-- a hundredth is small
pub hundredth_small : (a : ℤ) → nat_abs a ≤ 2 ^ 126 → (nat_abs (int_div_euclid a (pos 100)) * 100) ≤ (2 ^ 126 + 100)
hundredth_small (pos a) h = let whole = div-mul-le_self a 100 in omega arith
hundredth_small (negsuc a) h = let whole = div-mul-le_self a 100 in omega arith

-- a percentage of a rest, rounded up, is small
pub percentage_small : (p : ℕ) (r u : ℤ) → p ≤ 100 → (pos 0 ≤ℤ r) × (r <ℤ pos 100) → ((x : ℤ) → int_le (pos p *ℤ r) (x *ℤ pos 100) ≡ int_le u x) → nat_abs u ≤ 100
percentage_small p (pos r) u h t f =
    let product = pos-*ℤ-pos p r in
    let below : r ≤ 100 = let small = t.1 in omega (arith, ints) in
    let most = mul-le p r 100 100 h below in
    let up : u ≤ℤ pos 100 = le_gives u (pos 100) (sym (f (pos 100)) ∙ le_from (pos p *ℤ pos r) (pos 10000) (omega (arith, ints, product, most))) in
    let down : negsuc 100 <ℤ u = by_lt_z (negsuc 100) u (λ l. l) (λ le. absurd (let under = le_gives (pos p *ℤ pos r) (negsuc 10099) (f (negsuc 100) ∙ le_from u (negsuc 100) le) in omega (arith, ints, product, under))) in
    omega (arith, ints)
percentage_small p (negsuc r) u h t f = absurd (let low = t.0 in omega (arith, ints))

-- p hundredths of q * 100 + r: the least whole number that is no less
pub hundredths : (p : ℕ) (a q r u : ℤ) → q *ℤ pos 100 +ℤ r ≡ a → ((x : ℤ) → int_le (pos p *ℤ r) (x *ℤ pos 100) ≡ int_le u x) → (x : ℤ) → int_le (pos p *ℤ a) (pos 100 *ℤ x) ≡ int_le (pos p *ℤ q +ℤ u) x
hundredths p a q r u e f x =
    let y = x -ℤ pos p *ℤ q in
    let whole : pos p *ℤ a ≡ pos p *ℤ q *ℤ pos 100 +ℤ pos p *ℤ r =
    ap (λ z. pos p *ℤ z) (sym e) ∙ *ℤ_comm (pos p) (q *ℤ pos 100 +ℤ r) ∙ plus-times (q *ℤ pos 100) r p
    ∙ (λ i. (times_swapped q 100 p ∙ ap (λ z. z *ℤ pos 100) (*ℤ_comm q (pos p))) i +ℤ *ℤ_comm r (pos p) i) in
    let back : y +ℤ pos p *ℤ q ≡ x = linear x (pos p *ℤ q) in
    let parts : pos 100 *ℤ x ≡ y *ℤ pos 100 +ℤ pos p *ℤ q *ℤ pos 100 = *ℤ_comm (pos 100) x ∙ ap (λ z. z *ℤ pos 100) (sym back) ∙ plus-times y (pos p *ℤ q) 100 in
    shifted (pos p *ℤ a) (pos 100 *ℤ x) (pos p *ℤ r) (y *ℤ pos 100) (pos p *ℤ q *ℤ pos 100) whole parts
    ∙ f y
    ∙ le_same u y (pos p *ℤ q +ℤ u) x (λ g. under u x (pos p *ℤ q) g) (λ g. over u x (pos p *ℤ q) g)
  where
    linear : (x z : ℤ) → x -ℤ z +ℤ z ≡ x
    linear x z = omega (arith, ints)

    shifted : (a b c d z : ℤ) → a ≡ z +ℤ c → b ≡ d +ℤ z → int_le a b ≡ int_le c d
    shifted a b c d z g h = le_same a b c d (λ k. omega (arith, ints)) (λ k. omega (arith, ints))

    under : (u x z : ℤ) → u ≤ℤ (x -ℤ z) → (z +ℤ u) ≤ℤ x
    under u x z h = omega (arith, ints)

    over : (u x z : ℤ) → (z +ℤ u) ≤ℤ x → u ≤ℤ (x -ℤ z)
    over u x z h = omega (arith, ints)
