-- A text that is cut at its last point.
use Rattle.std.proofs.Common.{◌≡◌, ◌≢◌, ℕ, ◌+◌, ◌-◌, ◌<◌, ◌≤◌, ◌==◌, true, not, List, [], length, get_or, take, drop, ◌∙◌, ap, subst, arith, lit<, get_or-drop, length-drop}
use Rattle.std.specs.List.{before_last, after_last, suffix_len}
use Rattle.std.specs.Str.{NoCharPasses}
use Rattle.std.specs.Str.Pattern.{RFindsChar, SplitsAroundMatch}
use Rattle.std.proofs.lemmas.Str.Pattern.{NoCharPasses-char}
use Rattle.std.proofs.lemmas.List.Sums.{suffix_len_is}
use Rattle.std.proofs.lemmas.Bool.Decides.{nat_tests}
use Rattle.edm_values.specs.Literals.{is_point}

other : (b : ℕ) → b ≢ 46 → not (is_point b) ≡ true
other b h = grind (arith, nat_tests)

-- without a point, nothing stands before the last one
pub no_point : (s : List ℕ) → NoCharPasses (λ d. d == 46) s → suffix_len (λ b. not (is_point b)) s ≡ length s
no_point s h = suffix_len_is (λ b. not (is_point b)) s 0 0 (omega arith) (λ k _ below. other (get_or s k 0) (NoCharPasses-char 46 s k h (lit< tt) below)) (λ none. absurd (omega arith)) ∙ omega arith

-- the part behind the last point has none
pub last_point : (s : List ℕ) (j : ℕ) → 0 < j → j ≤ length s → get_or s (j - 1) 0 ≡ 46 → NoCharPasses (λ d. d == 46) (drop j s) → suffix_len (λ b. not (is_point b)) s ≡ length s - j
last_point s j some within here h =
    suffix_len_is (λ b. not (is_point b)) s j 0 within
    (λ k from below. let there : k - j < length (drop j s) = omega (arith, length-drop j s) in
    let same : get_or (drop j s) (k - j) 0 ≡ get_or s k 0 = get_or-drop j s (k - j) 0 ∙ ap (λ i. get_or s i 0) (omega arith) in
    other (get_or s k 0) (subst (λ b. b ≢ 46) same (NoCharPasses-char 46 (drop j s) (k - j) h (lit< tt) there)))
    (λ _. ap (λ b. not (is_point b)) here)

-- the parts round the last point
pub cut_at_point : (s front back : List ℕ) → SplitsAroundMatch (RFindsChar 46) s front back → (front ≡ before_last is_point s) × (back ≡ after_last is_point s)
cut_at_point s front back cut =
    let i = cut.0 in
    let j = cut.1 in
    let found = cut.2 in
    let ends : j ≡ i + 1 = found.1.ends in
    let within : j ≤ length s = omega arith in
    let here : get_or s (j - 1) 0 ≡ 46 = ap (λ k. get_or s k 0) (omega arith) ∙ found.1.byte (lit< tt) in
    let size = last_point s j (omega arith) within here found.0 in
    (cut.3 ∙ ap (λ n. take n s) (omega arith), cut.4 ∙ ap (λ n. drop n s) (omega arith))

-- where there is no point
pub cut_without_point : (s : List ℕ) → NoCharPasses (λ d. d == 46) s → ([] ≡ before_last is_point s) × (s ≡ after_last is_point s)
cut_without_point s none =
    let size = no_point s none in
    (ap (λ n. take n s) {x = 0} (omega arith), ap (λ n. drop n s) {x = 0} (omega arith))
