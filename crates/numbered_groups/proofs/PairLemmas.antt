-- Rows that are told by pairs: by numbers of two digits, and by codes that are cut into two digits.
use Rattle.std.proofs.Common.{◌≡◌, ℕ, suc, ◌+◌, ◌*◌, ◌/◌, ◌%◌, ◌<◌, ◌≤◌, Bool, true, false, ◌&&◌, List, length, get_or, map, refl, sym, ap, subst, ◌∙◌, arith}
use Rattle.std.specs.Prelude.{All, nat_eq}
use Rattle.std.specs.Cmp.{unsigned_Decides}
use Rattle.std.proofs.Math.Nat.{div-lt_iff_lt-mul, div-mul-le_self, lt-div-mul-add, mul-le-mul_left, mul-le-mul_right, mul_comm, suc-mul}
use Rattle.std.proofs.lemmas.Bool.{and_from, and_parts}
use Rattle.std.proofs.lemmas.List.{get_or-map, length-map}
use Rattle.std.proofs.lemmas.List.Elements.{All-map, All-weaker}
use Rattle.std.proofs.lemmas.Nat.{div-add-mod', div-mul-add, mod-mul-add, mod_below}
use Rattle.numbered_groups.specs.Found.{AreNumbersBy, ArePairs, same_code, same_pair}
use Rattle.numbered_groups.proofs.ImageLemmas.{alike}

-- ---- tests that say the same of the rows

pub by_test : (same other : ℕ → ℕ → Bool) (rows : ℕ) (numbers : List ℕ) (count : ℕ) → ((i j : ℕ) → i < rows → j < rows → same i j ≡ other i j) → AreNumbersBy same rows numbers count → AreNumbersBy other rows numbers count
by_test same other rows numbers count tells h = record { size = h.size; there = h.there; order = h.order; told = λ i j li lj. h.told i j li lj ∙ tells i j li lj }

equal : (a b : ℕ) → nat_eq a b ≡ true → a ≡ b
equal a b h = (unsigned_Decides a b).0 h

told : (a b : ℕ) → a ≡ b → nat_eq a b ≡ true
told a b h = (unsigned_Decides a b).1 h

and-apart : (a b c : Bool) → ((a && b) && c) ≡ (a && (b && c))
and-apart true b c = refl
and-apart false b c = refl

-- ---- numbers of two digits

-- one that is below the number of all
pub pair-below : (a c count bound : ℕ) → a < count → c < bound → a * bound + c < count * bound
pair-below a c count bound la lc =
    let less : suc a ≤ count = omega arith in
    let wide : suc a * bound ≤ count * bound = mul-le-mul_right bound less in
    let more : suc a * bound ≡ a * bound + bound = suc-mul a bound in
    omega (arith, wide, more, lc)

pairs-tell : (a b c d w : ℕ) → c < w → d < w → nat_eq (a * w + c) (b * w + d) ≡ (nat_eq a b && nat_eq c d)
pairs-tell a b c d w lc ld =
    alike (nat_eq (a * w + c) (b * w + d)) (nat_eq a b && nat_eq c d)
    (λ e.
    let one : a * w + c ≡ b * w + d = equal (a * w + c) (b * w + d) e in
    and_from (nat_eq a b) (nat_eq c d)
    (told a b (sym (div-mul-add a w c lc) ∙ ap (λ n. n / w) one ∙ div-mul-add b w d ld))
    (told c d (sym (mod-mul-add a w c lc) ∙ ap (λ n. n % w) one ∙ mod-mul-add b w d ld)))
    (λ e.
    let both = and_parts (nat_eq a b) (nat_eq c d) e in
    told (a * w + c) (b * w + d) (λ i. equal a b both.0 i * w + equal c d both.1 i))

pub by_pairs : (before codes pairs numbers : List ℕ) (bound count : ℕ) → All (λ c. c < bound) codes → ArePairs before codes bound pairs → AreNumbersBy (same_code pairs) (length pairs) numbers count → AreNumbersBy (same_pair before codes) (length codes) numbers count
by_pairs before codes pairs numbers bound count below are h =
    by_test (same_code pairs) (same_pair before codes) (length codes) numbers count
    (λ i j li lj.
    (λ k. nat_eq (are.are i li k) (are.are j lj k))
    ∙ pairs-tell (get_or before i 0) (get_or before j 0) (get_or codes i 0) (get_or codes j 0) bound (below i 0 li) (below j 0 lj))
    (subst (λ rows. AreNumbersBy (same_code pairs) rows numbers count) are.size h)

-- ---- one number

pub by_one : (before codes numbers : List ℕ) (many count : ℕ) → many ≤ 1 → length before ≡ length codes → All (λ n. n < many) before → AreNumbersBy (same_code codes) (length codes) numbers count → AreNumbersBy (same_pair before codes) (length codes) numbers count
by_one before codes numbers many count few size there h =
    by_test (same_code codes) (same_pair before codes) (length codes) numbers count
    (λ i j li lj.
    let a : get_or before i 0 < many = there i 0 (omega arith) in
    let b : get_or before j 0 < many = there j 0 (omega arith) in
    let same : get_or before i 0 ≡ get_or before j 0 = omega (arith, a, b, few) in
    sym (ap (λ t. t && same_code codes i j) (told (get_or before i 0) (get_or before j 0) same)))
    h

-- ---- codes that are cut

digits-tell : (c d w : ℕ) → (nat_eq (c / w) (d / w) && nat_eq (c % w) (d % w)) ≡ nat_eq c d
digits-tell c d w =
    alike (nat_eq (c / w) (d / w) && nat_eq (c % w) (d % w)) (nat_eq c d)
    (λ e.
    let both = and_parts (nat_eq (c / w) (d / w)) (nat_eq (c % w) (d % w)) e in
    told c d (sym (div-add-mod' c w) ∙ (λ i. equal (c / w) (d / w) both.0 i * w + equal (c % w) (d % w) both.1 i) ∙ div-add-mod' d w))
    (λ e.
    let one : c ≡ d = equal c d e in
    and_from (nat_eq (c / w) (d / w)) (nat_eq (c % w) (d % w)) (told (c / w) (d / w) (ap (λ n. n / w) one)) (told (c % w) (d % w) (ap (λ n. n % w) one)))

pub by_digits : (before codes high low next numbers : List ℕ) (w many count : ℕ) → high ≡ map (λ c. c / w) codes → low ≡ map (λ c. c % w) codes
    → AreNumbersBy (same_pair before high) (length high) next many → AreNumbersBy (same_pair next low) (length low) numbers count → AreNumbersBy (same_pair before codes) (length codes) numbers count
by_digits before codes high low next numbers w many count highs lows h k =
    let many-high : length high ≡ length codes = ap length highs ∙ length-map codes (λ c. c / w) in
    let many-low : length low ≡ length codes = ap length lows ∙ length-map codes (λ c. c % w) in
    let first = subst (λ rows. AreNumbersBy (same_pair before high) rows next many) many-high h in
    by_test (same_pair next low) (same_pair before codes) (length codes) numbers count
    (λ i j li lj.
    let hi : (n : ℕ) → n < length codes → get_or high n 0 ≡ get_or codes n 0 / w = λ n ln. ap (λ l. get_or l n 0) highs ∙ get_or-map (λ c. c / w) codes n 0 0 ln in
    let lo : (n : ℕ) → n < length codes → get_or low n 0 ≡ get_or codes n 0 % w = λ n ln. ap (λ l. get_or l n 0) lows ∙ get_or-map (λ c. c % w) codes n 0 0 ln in
    ap (λ b. b && same_code low i j) (first.told i j li lj)
    ∙ and-apart (same_code before i j) (same_code high i j) (same_code low i j)
    ∙ ap (λ b. same_code before i j && b)
    ((λ k. nat_eq (hi i li k) (hi j lj k) && nat_eq (lo i li k) (lo j lj k)) ∙ digits-tell (get_or codes i 0) (get_or codes j 0) w))
    (subst (λ rows. AreNumbersBy (same_pair next low) rows numbers count) many-low k)

-- the higher digits are below the number of these
pub high-below : (codes high : List ℕ) (bound room : ℕ) → 0 < room → high ≡ map (λ c. c / (bound / room + 1)) codes → All (λ c. c < bound) codes → All (λ c. c < room) high
high-below codes high bound room some are below =
    subst (All (λ c. c < room)) (sym are)
    (All-map (λ c. c < room) (λ c. c / (bound / room + 1)) codes
    (All-weaker (λ c. c < bound) (λ c. c / (bound / room + 1) < room)
    (λ c less.
    let w = bound / room + 1 in
    let reach : bound < bound / room * room + room = lt-div-mul-add some in
    let wide : w * room ≡ bound / room * room + room = suc-of (bound / room) room in
    let turned : room * w ≡ w * room = mul_comm room w in
    (div-lt_iff_lt-mul (positive (bound / room))).1 (omega (arith, reach, wide, turned, less)))
    codes below))
  where
    positive : (n : ℕ) → 0 < n + 1
    positive n = omega arith

    suc-of : (n m : ℕ) → (n + 1) * m ≡ n * m + m
    suc-of n m = let e : n + 1 ≡ suc n = omega arith in ap (λ k. k * m) e ∙ suc-mul n m

pub low-below : (codes low : List ℕ) (w : ℕ) → 0 < w → low ≡ map (λ c. c % w) codes → All (λ c. c < w) low
low-below codes low w some are = subst (All (λ c. c < w)) (sym are) (All-map (λ c. c < w) (λ c. c % w) codes (λ i d h. mod_below (get_or codes i d) w some))

-- the width of the lower digit is less than the bound
pub width-less : (bound room : ℕ) → 4 ≤ room → room < bound → bound / room + 1 < bound
width-less bound room some more =
    let whole : bound / room * room ≤ bound = div-mul-le_self bound room in
    let four : bound / room * 4 ≤ bound / room * room = mul-le-mul_left (bound / room) some in
    omega (arith, whole, four, more, some)
