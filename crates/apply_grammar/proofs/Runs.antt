-- Runs of bytes, blanks and single bytes.
use Rattle.std.proofs.Common.{◌≡◌, ℕ, ◌+◌, ◌==◌, Bool, true, false, not, cond, List, [], ◌∷◌, ◌++◌, length, Option, Some, None, refl, sym, ap, subst, ◌∙◌, append_assoc, eqb-true, eq-eqb}
use Rattle.std.proofs.lemmas.Bool.{and_from, not-true, and_parts}
use Rattle.std.proofs.lemmas.List.{length-append}
use Rattle.std.specs.List.{list_all}
use Rattle.apply_ast.specs.Grammar.{Language, is_blank, bws, rws, word, ◌·◌}
use Rattle.apply_grammar.specs.Reading.{◌>>=◌, branch, run, skip_blanks, blanks_at, after}

-- ---- tests

-- what follows from a part that did not fail
pub bind_then : {A B P : Type 0} (o : Option A) (f : A → Option B) {y : B} → (o >>= f) ≡ Some y → ((x : A) → o ≡ Some x → f x ≡ Some y → P) → P
bind_then None f {y} e k = absurd cc
bind_then (Some x) f e k = k x refl e

pub branch_then : {A B P : Type 0} (o : Option A) (f : A → B) (b : B) {y : B} → branch o f b ≡ y → ((x : A) → o ≡ Some x → f x ≡ y → P) → (o ≡ None → b ≡ y → P) → P
branch_then None f b e k l = l refl e
branch_then (Some x) f b e k l = k x refl e

pub cond_then : {B P : Type 0} (c : Bool) (a b : B) {y : B} → cond c a b ≡ y → (c ≡ true → a ≡ y → P) → (c ≡ false → b ≡ y → P) → P
cond_then true a b e k l = k refl e
cond_then false a b e k l = l refl e

pub guard_then : {B P : Type 0} (c : Bool) (a : B) {y : B} → cond c (Some a) None ≡ Some y → (c ≡ true → a ≡ y → P) → P
guard_then true a e k = k refl cc
guard_then false a e k = absurd cc

pub is_none : {A : Type 0} (o : Option A) → ((x : A) → o ≡ Some x → ⊥) → o ≡ None
is_none None k = refl
is_none (Some x) k = absurd (k x refl)

pub none_some : {A P : Type 0} {o : Option A} {x : A} → o ≡ None → o ≡ Some x → P
none_some e h = absurd cc

pub branch_agree : {A B : Type 0} (o : Option A) (f g : A → B) (b : B) → ((x : A) → o ≡ Some x → f x ≡ g x) → branch o f b ≡ branch o g b
branch_agree None f g b h = refl
branch_agree (Some x) f g b h = h x refl

pub bind_agree : {A B : Type 0} (o : Option A) (f g : A → Option B) → ((x : A) → o ≡ Some x → f x ≡ g x) → (o >>= f) ≡ (o >>= g)
bind_agree None f g h = refl
bind_agree (Some x) f g h = h x refl

-- a cut of a text is one of the text with more behind it
pub recut : (l m r : List ℕ) {a : List ℕ} → a ≡ l ++ m → a ++ r ≡ l ++ (m ++ r)
recut l m r h = ap (λ x. x ++ r) h ∙ append_assoc l m r

-- ---- runs

-- the text does not go on with a byte that passes
abbrev pub stops : (ℕ → Bool) → List ℕ → Bool
stops p [] = true
stops p (b ∷ t) = not (p b)

-- the text begins with a byte that is no blank
abbrev pub solid : List ℕ → Bool
solid [] = false
solid (b ∷ t) = not (is_blank b)

pub solid_stops : (a r : List ℕ) → solid a ≡ true → stops is_blank (a ++ r) ≡ true
solid_stops [] r h = absurd cc
solid_stops (b ∷ a) r h = h

pub solid_on : (a r : List ℕ) → solid a ≡ true → solid (a ++ r) ≡ true
solid_on [] r h = absurd cc
solid_on (b ∷ a) r h = h

pub run_front : (p : ℕ → Bool) (a r : List ℕ) → list_all p a ≡ true → stops p r ≡ true → run p (a ++ r) ≡ (a, r)
unfolding run
run_front p [] [] h s = refl
run_front p [] (b ∷ r) h s = rw (not-true (p b) s) refl
run_front p (b ∷ a) r h s =
    let q = and_parts (p b) (list_all p a) h in
    rw (q.0, run_front p a r q.1 s) refl

pub record IsRun (p : ℕ → Bool) (t a r : List ℕ) : Type 0 where
  pub cut : t ≡ a ++ r
  pub pass : list_all p a ≡ true
  pub stop : stops p r ≡ true

run_step : (p : ℕ → Bool) (b : ℕ) (t : List ℕ) (c : Bool) → p b ≡ c → IsRun p t (run p t).0 (run p t).1 → IsRun p (b ∷ t) (run p (b ∷ t)).0 (run p (b ∷ t)).1
unfolding run
run_step p b t true e x = rw e (record { cut = ap (λ l. b ∷ l) x.cut; pass = and_from (p b) _ e x.pass; stop = x.stop })
run_step p b t false e x = rw e (record { cut = refl; pass = refl; stop = ap not e })

pub run_is : (p : ℕ → Bool) (t : List ℕ) → IsRun p t (run p t).0 (run p t).1
unfolding run
run_is p [] = record { cut = refl; pass = refl; stop = refl }
run_is p (b ∷ t) = run_step p b t (p b) refl (run_is p t)

-- ---- what stands in front

-- the text begins with one of the language, and goes on with the rest
pub record Front (A : Language) (t r : List ℕ) : Type 0 where
  pub front : List ℕ
  pub of : A front
  pub cut : t ≡ front ++ r

pub then_front : {A B : Language} {t r s : List ℕ} → Front A t r → Front B r s → Front (A · B) t s
then_front {A} {B} {t} {r} {s} x y = record {
  front = x.front ++ y.front;
  of = record { left = x.front; right = y.front; first = x.of; second = y.of; cut = refl };
  cut = x.cut ∙ ap (λ l. x.front ++ l) y.cut ∙ sym (append_assoc x.front y.front s);
}

pub map_front : {A B : Language} {t r : List ℕ} → ((a : List ℕ) → A a → B a) → Front A t r → Front B t r
map_front f x = record { front = x.front; of = f x.front x.of; cut = x.cut }

pub word_front : (w t r : List ℕ) → t ≡ w ++ r → Front (word w) t r
word_front w t r e = record { front = w; of = refl; cut = e }

-- ---- blanks and single bytes

pub skip_is : (t : List ℕ) → Front bws t (skip_blanks t)
skip_is t = let x = run_is is_blank t in record { front = (run is_blank t).0; of = x.pass; cut = x.cut }

pub skip_stops : (t : List ℕ) → stops is_blank (skip_blanks t) ≡ true
skip_stops t = let x = run_is is_blank t in x.stop

pub skip_front : (a r : List ℕ) → bws a → stops is_blank r ≡ true → skip_blanks (a ++ r) ≡ r
skip_front a r h s = ap (λ (x : List ℕ × List ℕ). x.1) (run_front is_blank a r h s)

pub blanks_front : (a r : List ℕ) → rws a → stops is_blank r ≡ true → blanks_at (a ++ r) ≡ Some r
unfolding blanks_at
blanks_front [] r h s = absurd (let e : false ≡ true = h.1 in cc)
blanks_front (b ∷ a) r h s =
    let q = and_parts (is_blank b) (list_all is_blank a) h.0 in
    rw q.0 (ap Some (skip_front a r q.1 s))

pub blanks_is : (t : List ℕ) {r : List ℕ} → blanks_at t ≡ Some r → Front rws t r × (stops is_blank r ≡ true)
unfolding blanks_at
blanks_is [] h = absurd cc
blanks_is (b ∷ t) {r} h =
    guard_then (is_blank b) (skip_blanks t) h (λ e k.
    let x = run_is is_blank t in
    subst (λ l. Front rws (b ∷ t) l × (stops is_blank l ≡ true)) k
    (record { front = b ∷ (run is_blank t).0; of = (and_from (is_blank b) _ e x.pass, refl); cut = ap (λ l. b ∷ l) x.cut }, x.stop))

pub blanks_none : (t : List ℕ) → stops is_blank t ≡ true → blanks_at t ≡ None
unfolding blanks_at
blanks_none [] h = refl
blanks_none (b ∷ t) h = rw (not-true (is_blank b) h) refl

pub after_is : (a : ℕ) (t : List ℕ) {r : List ℕ} → after a t ≡ Some r → t ≡ a ∷ r
unfolding after
after_is a [] h = absurd cc
after_is a (b ∷ t) {r} h = guard_then (b == a) t h (λ e k. let l : b ≡ a = eqb-true b a e in cc)

pub after_front : (a : ℕ) (r : List ℕ) → after a (a ∷ r) ≡ Some r
unfolding after
after_front a r = rw (eq-eqb a a refl) refl

pub front_length : {A : Language} {t r : List ℕ} (x : Front A t r) → length t ≡ length x.front + length r
front_length {r = r} x = ap length x.cut ∙ length-append x.front r
