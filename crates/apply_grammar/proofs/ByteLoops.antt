-- Runs of bytes by index, as a loop finds them.
use Rattle.std.proofs.Common.{◌≡◌, ℕ, zero, suc, ◌+◌, ◌-◌, ◌*◌, ◌<◌, ◌≤◌, Bool, true, false, not, List, [], ◌∷◌, length, take, drop, get_or, nat_le, Some, None, refl, sym, ap, subst, ◌∙◌, arith, take-append-drop, drop-cons, eq-eqb}
use Rattle.std.proofs.lemmas.Bool.{ne_eqb, leb-true, le-leb, lt-leb, le-ltb, lt-ltb, and_parts}
use Rattle.std.specs.Str.Parse.{digits_value_after}
use Rattle.std.proofs.lemmas.List.{append-nil}
use Rattle.std.specs.Char.{digit_value, is_ascii_digit}
use Rattle.std.specs.List.{list_all}
use Rattle.edm_values.proofs.DigitLaws.{value_front}
use Rattle.apply_grammar.specs.Reading.{run, after, value_behind}
use Rattle.apply_grammar.proofs.Runs.{stops, run_front, run_is}

stop_at : (p : ℕ → Bool) (t : List ℕ) (i : ℕ) → i < length t → p (get_or t i 0) ≡ false → stops p (drop i t) ≡ true
stop_at p t i h e = rw (drop-cons t i 0 h) (ap not e)

pub run_at : (p : ℕ → Bool) (t : List ℕ) (i : ℕ) → i < length t → list_all p (take i t) ≡ true → p (get_or t i 0) ≡ false → run p t ≡ (take i t, drop i t)
run_at p t i h k e = ap (run p) (sym (take-append-drop i t)) ∙ run_front p (take i t) (drop i t) k (stop_at p t i h e)

pub run_all : (p : ℕ → Bool) (t : List ℕ) → list_all p t ≡ true → run p t ≡ (t, [])
run_all p t h = ap (run p) (sym (append-nil t)) ∙ run_front p t [] h refl

pub after_nothing : (a : ℕ) (t : List ℕ) → length t ≡ 0 → None ≡ after a t
unfolding after
after_nothing a [] h = refl
after_nothing a (b ∷ t) h = absurd (omega arith)

pub after_it : (a b : ℕ) (t r : List ℕ) → t ≡ b ∷ r → b ≡ a → Some r ≡ after a t
unfolding after
after_it a b t r h e = rw (h, eq-eqb b a e) refl

pub after_other : (a b : ℕ) (t r : List ℕ) → t ≡ b ∷ r → (b ≡ a → ⊥) → None ≡ after a t
unfolding after
after_other a b t r h e = rw (h, ne_eqb b a e) refl

take_all : (i : ℕ) (t : List ℕ) → length t ≤ i → take i t ≡ t
take_all zero [] h = refl
take_all zero (b ∷ t) h = absurd (omega arith)
take_all (suc i) [] h = refl
take_all (suc i) (b ∷ t) h = ap (λ l. b ∷ l) (take_all i t (omega arith))

pub run_whole : (p : ℕ → Bool) (t : List ℕ) (i : ℕ) → length t ≤ i → list_all p (take i t) ≡ true → run p t ≡ (t, [])
run_whole p t i h k = run_all p t (subst (λ l. list_all p l ≡ true) (take_all i t h) k)

pub run_passes : (p : ℕ → Bool) (t a r : List ℕ) → run p t ≡ (a, r) → list_all p a ≡ true
run_passes p t a r e = let x = run_is p t in subst (λ (y : List ℕ × List ℕ). list_all p y.0 ≡ true) e x.pass

-- ---- numbers

pub digit_is : (b : ℕ) → is_ascii_digit b ≡ true → (48 ≤ b) × (b ≤ 57) × (digit_value b ≡ b - 48)
digit_is b h =
    let q = and_parts (nat_le 48 b) (nat_le b 57) h in
    let l : 48 ≤ b = leb-true 48 b q.0 in
    let u : b ≤ 57 = leb-true b 57 q.1 in
    (l, u, rw (le-ltb b 48 (omega arith), lt-ltb b 58 (omega arith)) refl)

pub passes_at : (p : ℕ → Bool) (t : List ℕ) (i : ℕ) → list_all p t ≡ true → i < length t → p (get_or t i 0) ≡ true
passes_at p [] i h k = absurd (omega arith)
passes_at p (b ∷ t) zero h k = (and_parts (p b) (list_all p t) h).0
passes_at p (b ∷ t) (suc i) h k = passes_at p t i (and_parts (p b) (list_all p t) h).1 (omega arith)

pub value_step : (n : ℕ) (t : List ℕ) (i : ℕ) → i < length t → digits_value_after 10 n (take (i + 1) t) ≡ digits_value_after 10 n (take i t) * 10 + digit_value (get_or t i 0)
value_step n [] i h = absurd (omega arith)
value_step n (b ∷ t) zero h = refl
value_step n (b ∷ t) (suc i) h =
    let e : suc i + 1 ≡ suc (i + 1) = omega arith in
    rw e (value_step (n * 10 + digit_value b) t i (omega arith))

-- one more digit
pub value_digit : (n : ℕ) (t : List ℕ) (i : ℕ) → list_all is_ascii_digit t ≡ true → i < length t → digits_value_after 10 n (take (i + 1) t) ≡ digits_value_after 10 n (take i t) * 10 + (get_or t i 0 - 48)
value_digit n t i h k =
    let d = digit_is (get_or t i 0) (passes_at is_ascii_digit t i h k) in
    value_step n t i k ∙ ap (λ x. digits_value_after 10 n (take i t) * 10 + x) d.2

-- a number past the limit before the end
pub value_past : (most n : ℕ) (t : List ℕ) (i v : ℕ) → list_all is_ascii_digit t ≡ true → i < length t → v ≡ digits_value_after 10 n (take i t) → most < v * 10 + (get_or t i 0 - 48) → None ≡ value_behind most n t
unfolding value_behind
value_past most n t i v h k e g =
    let l : most < digits_value_after 10 n t = omega (arith, value_front n t (i + 1), value_digit n t i h k) in
    rw (lt-leb (digits_value_after 10 n t) most l) refl

pub value_done : (most n : ℕ) (t : List ℕ) (i : ℕ) → length t ≤ i → digits_value_after 10 n (take i t) ≤ most → Some (digits_value_after 10 n (take i t)) ≡ value_behind most n t
unfolding value_behind
value_done most n t i h k = rw (take_all i t h) (rw (le-leb (digits_value_after 10 n t) most (subst (λ l. digits_value_after 10 n l ≤ most) (take_all i t h) k)) refl)
