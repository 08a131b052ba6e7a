-- Operators, names, paths and literals: what is read is in front, and what is in front is read.
use Rattle.std.proofs.Common.{◌≡◌, ℕ, ◌<◌, ◌≤◌, ◌==◌, nat_le, Bool, true, false, not, ◌&&◌, ◌||◌, cond, List, [], ◌∷◌, ◌++◌, length, Some, None, refl, sym, ap, subst, ◌∙◌, append_assoc, arith, eqb-true, inl, inr}
use Rattle.std.proofs.Math.Dec.{leb-zero}
use Rattle.std.proofs.lemmas.Bool.{le-leb, leb-true, cases_lt, and_from, or_left, false_from_ne_true, not-true, or_cases, and_parts}
use Rattle.std.specs.Str.Parse.{digits_value_after}
use Rattle.std.specs.Prelude.{codes, slice_index, ℤ, pos, Bool, if◌then◌else◌}
use Rattle.std.specs.List.{list_all, flat_map}
use Rattle.std.specs.Int.{is_in_range}
use Rattle.std.specs.Char.{is_ascii_digit}
use Rattle.apply_grammar.specs.Limits.{Bounds}
use Rattle.apply_grammar.proofs.ByteLoops.{digit_is}
use Rattle.std.proofs.lemmas.Int.Digits.{digits_value-lt}
use Rattle.std.specs.Str.Parse.{digits_value, AllDigits}
use Rattle.std.proofs.Common.{suc, ◌^◌, eq-eqb, append-nil}
use Rattle.edm_values.specs.Lists.{same_text}
use Rattle.edm_values.specs.Names.{goes_on_name, begins_name, is_name, is_reserved}
use Rattle.edm_values.specs.Values.{integer_max}
use Rattle.edm_values.specs.Parts.{mantissa_max, scale_max, is_day}
use Rattle.edm_values.proofs.SameTexts.{same_texts}
use Rattle.edm_values.proofs.DigitLaws.{value_append, value_grows}
use Rattle.edm_values.proofs.OptionFacts.{some_value}
use Rattle.apply_ast.specs.declared.expressions.UnOp.{UnOp}
use Rattle.apply_ast.specs.declared.expressions.BinOp.{BinOp}
use Rattle.apply_ast.specs.declared.expressions.Fun1.{Fun1}
use Rattle.apply_ast.specs.declared.expressions.Fun2.{Fun2}
use Rattle.apply_ast.specs.Trees.{Expr}
use Rattle.apply_ast.specs.Printing.{binop_word, binop_level, fun1_word, fun2_word, quoted}
use Rattle.apply_ast.specs.Grammar.{Language, is_blank, bws, rws, word, ◌·◌, comma, nothing, name_text, path_text, sign_text}
use Rattle.apply_grammar.specs.Reading.{◌>>=◌, run, skip_blanks, blanks_at, after, open_at, close_at, comma_at, with_word, binop_of, op_at, not_at, sign_at, name_at, path_at, value_behind, digits_at, decimal_at, two_digits_at, date_at, number_behind, quote_at, text_at, fun1_of, fun2_of, word_at, atom_at, is_literal}
use Rattle.apply_grammar.proofs.Nested.{Digits, IntText, Fraction, DecText, Wide, DateText}
use Rattle.apply_grammar.proofs.Lists.{Items, list_is, list_front}
use Rattle.apply_grammar.proofs.Runs.{bind_then, branch_then, cond_then, guard_then, is_none, none_some, recut, solid_on, stops, solid, solid_stops, run_front, run_is, Front, then_front, map_front, word_front, skip_is, skip_stops, skip_front, blanks_front, blanks_is, blanks_none, after_is, after_front}

pub false_true : false ≡ true → ⊥
false_true e = absurd cc

-- ---- what may follow an atom: the end, a blank, a comma or a closing parenthesis

abbrev pub ends : List ℕ → Bool
ends [] = true
ends (b ∷ t) = is_blank b || (b == 44) || (b == 41)

eq_not : (p : ℕ → Bool) (a b : ℕ) → (b == a) ≡ true → p a ≡ false → not (p b) ≡ true
eq_not p a b e h = rw (eqb-true b a e, h) refl

pub ends_stops : (p : ℕ → Bool) (r : List ℕ) → ends r ≡ true → p 32 ≡ false → p 9 ≡ false → p 44 ≡ false → p 41 ≡ false → stops p r ≡ true
ends_stops p [] h s t c d = refl
ends_stops p (b ∷ r) h s t c d =
    elim (or_cases (is_blank b || (b == 44)) (b == 41) h) [
      | inl g ↦ elim (or_cases (is_blank b) (b == 44) g) [
        | inl k ↦ elim (or_cases (b == 32) (b == 9) k) [
          | inl e ↦ eq_not p 32 b e s
          | inr e ↦ eq_not p 9 b e t
        ]
        | inr e ↦ eq_not p 44 b e c
      ]
      | inr e ↦ eq_not p 41 b e d
    ]

pub after_none : (a : ℕ) (t : List ℕ) → stops (λ b. b == a) t ≡ true → after a t ≡ None
unfolding after
after_none a [] h = refl
after_none a (b ∷ t) h = rw (not-true (b == a) h) refl

pub open_none : (t : List ℕ) → stops (λ b. b == 40) t ≡ true → open_at t ≡ None
unfolding open_at
open_none t h = rw (after_none 40 t h) refl

-- a blank stands first
pub rws_ends : (w r : List ℕ) → rws w → ends (w ++ r) ≡ true
rws_ends [] r h = absurd (false_true h.1)
rws_ends (b ∷ w) r h = rw (and_parts (is_blank b) (list_all is_blank w) h.0).0 refl

-- blanks or none, and then one of the bytes that end
pub bws_ends : (w r : List ℕ) → bws w → ends r ≡ true → ends (w ++ r) ≡ true
bws_ends [] r h e = e
bws_ends (b ∷ w) r h e = rw (and_parts (is_blank b) (list_all is_blank w) h).0 refl

-- ---- parentheses and commas

pub record Opened (t r : List ℕ) : Type 0 where
  pub behind : List ℕ
  pub sign : Front (word (codes "(")) t behind
  pub blanks : Front bws behind r

pub open_is : (t : List ℕ) {r : List ℕ} → open_at t ≡ Some r → Opened t r
unfolding open_at
open_is t h =
    bind_then (after 40 t) _ h (λ x e k.
    subst (λ l. Opened t l) (some_value k)
    (record { behind = x; sign = word_front (codes "(") t x (after_is 40 t e); blanks = skip_is x }))

pub open_front : (w r : List ℕ) → bws w → stops is_blank r ≡ true → open_at (40 ∷ (w ++ r)) ≡ Some r
unfolding open_at
open_front w r h s = rw (after_front 40 (w ++ r)) (ap Some (skip_front w r h s))

pub close_is : (t : List ℕ) {r : List ℕ} → close_at t ≡ Some r → Front (bws · word (codes ")")) t r
unfolding close_at
close_is t {r} h = then_front (skip_is t) (word_front (codes ")") (skip_blanks t) r (after_is 41 (skip_blanks t) h))

pub close_front : (w r : List ℕ) → bws w → close_at (w ++ (41 ∷ r)) ≡ Some r
unfolding close_at
close_front w r h = ap (after 41) (skip_front w (41 ∷ r) h refl) ∙ after_front 41 r

pub comma_is : (t : List ℕ) {r : List ℕ} → comma_at t ≡ Some r → Front comma t r × (stops is_blank r ≡ true)
unfolding comma_at
comma_is t h =
    bind_then (after 44 (skip_blanks t)) _ h (λ x e k.
    subst (λ l. Front comma t l × (stops is_blank l ≡ true)) (some_value k)
    (then_front (skip_is t) (then_front (word_front (codes ",") (skip_blanks t) x (after_is 44 (skip_blanks t) e)) (skip_is x)), skip_stops x))

pub comma_front : (w v r : List ℕ) → bws w → bws v → stops is_blank r ≡ true → comma_at (w ++ (44 ∷ (v ++ r))) ≡ Some r
unfolding comma_at
comma_front w v r h k s = rw (skip_front w (44 ∷ (v ++ r)) h refl, after_front 44 (v ++ r)) (ap Some (skip_front v r k s))

-- ---- words

pub word_is : {A : Type 0} (f : A → List ℕ) (xs : List A) (w : List ℕ) {x : A} → with_word f xs w ≡ Some x → w ≡ f x
word_is f [] w h = absurd cc
word_is f (y ∷ ys) w h = cond_then (same_text w (f y)) (Some y) (with_word f ys w) h (λ e k. same_texts w (f y) e ∙ ap f (some_value k)) (λ e k. word_is f ys w k)

-- ---- operators

pub binop_again : (o : BinOp) → binop_of (binop_word o) ≡ Some o
unfolding binop_of
binop_again BinOp.Or = refl
binop_again BinOp.And = refl
binop_again BinOp.Eq = refl
binop_again BinOp.Ne = refl
binop_again BinOp.Gt = refl
binop_again BinOp.Ge = refl
binop_again BinOp.Lt = refl
binop_again BinOp.Le = refl
binop_again BinOp.Add = refl
binop_again BinOp.Sub = refl
binop_again BinOp.Mul = refl

pub binop_is : (w : List ℕ) {o : BinOp} → binop_of w ≡ Some o → w ≡ binop_word o
unfolding binop_of
binop_is w h = word_is binop_word (BinOp.Or ∷ BinOp.And ∷ BinOp.Eq ∷ BinOp.Ne ∷ BinOp.Gt ∷ BinOp.Ge ∷ BinOp.Lt ∷ BinOp.Le ∷ BinOp.Add ∷ BinOp.Sub ∷ BinOp.Mul ∷ []) w h

-- a word that is no expression's beginning, with letters alone
pub record IsWord (w : List ℕ) : Type 0 where
  pub solid_word : solid w ≡ true
  pub letters : list_all goes_on_name w ≡ true

pub binop_letters : (o : BinOp) → IsWord (binop_word o)
binop_letters BinOp.Or = record { solid_word = refl; letters = refl }
binop_letters BinOp.And = record { solid_word = refl; letters = refl }
binop_letters BinOp.Eq = record { solid_word = refl; letters = refl }
binop_letters BinOp.Ne = record { solid_word = refl; letters = refl }
binop_letters BinOp.Gt = record { solid_word = refl; letters = refl }
binop_letters BinOp.Ge = record { solid_word = refl; letters = refl }
binop_letters BinOp.Lt = record { solid_word = refl; letters = refl }
binop_letters BinOp.Le = record { solid_word = refl; letters = refl }
binop_letters BinOp.Add = record { solid_word = refl; letters = refl }
binop_letters BinOp.Sub = record { solid_word = refl; letters = refl }
binop_letters BinOp.Mul = record { solid_word = refl; letters = refl }

pub record FoundOp (m : ℕ) (t : List ℕ) (o : BinOp) (r : List ℕ) : Type 0 where
  pub binds : nat_le m (binop_level o) ≡ true
  pub from_word : List ℕ
  pub behind_word : List ℕ
  pub blanks : Front rws t from_word
  pub the_word : Front (word (binop_word o)) from_word behind_word
  pub blanks_behind : Front rws behind_word r
  pub stop : stops is_blank r ≡ true

pub op_is : (m : ℕ) (t : List ℕ) {x : BinOp × List ℕ} → op_at m t ≡ Some x → FoundOp m t x.0 x.1
unfolding op_at
op_is m t h =
    bind_then (blanks_at t) _ h (λ w e h.
    bind_then (binop_of (run goes_on_name w).0) _ h (λ o f h.
    bind_then (blanks_at (run goes_on_name w).1) _ h (λ r g h.
    guard_then (nat_le m (binop_level o)) (o, r) h (λ l i.
    subst (λ x. FoundOp m t x.0 x.1) i
    (record {
      binds = l;
      from_word = w;
      behind_word = (run goes_on_name w).1;
      blanks = (blanks_is t e).0;
      the_word = record { front = (run goes_on_name w).0; of = binop_is _ f; cut = (run_is goes_on_name w).cut };
      blanks_behind = (blanks_is (run goes_on_name w).1 g).0;
      stop = (blanks_is (run goes_on_name w).1 g).1;
    })))))

-- a word of letters before something else
pub word_run : (w r : List ℕ) → list_all goes_on_name w ≡ true → stops goes_on_name r ≡ true → run goes_on_name (w ++ r) ≡ (w, r)
word_run w r h s = run_front goes_on_name w r h s

pub rws_stop : (w r : List ℕ) → rws w → stops goes_on_name (w ++ r) ≡ true
rws_stop w r h = ends_stops goes_on_name (w ++ r) (rws_ends w r h) refl refl refl refl

pub op_front : (m : ℕ) (o : BinOp) (w v r : List ℕ) → rws w → rws v → stops is_blank r ≡ true → nat_le m (binop_level o) ≡ true → op_at m (w ++ (binop_word o ++ (v ++ r))) ≡ Some (o, r)
unfolding op_at
op_front m o w v r h k s l =
    let g = binop_letters o in
    rw (
      blanks_front w (binop_word o ++ (v ++ r)) h (solid_stops (binop_word o) (v ++ r) g.solid_word),
      word_run (binop_word o) (v ++ r) g.letters (rws_stop v r k),
      binop_again o,
      blanks_front v r k s,
      l,
    )
    refl

-- no operator stands behind these blanks
pub op_none : (m : ℕ) (w s : List ℕ) → bws w → stops is_blank s ≡ true → binop_of (run goes_on_name s).0 ≡ None → op_at m (w ++ s) ≡ None
unfolding op_at blanks_at
op_none m [] s h k e = rw (blanks_none s k) refl
op_none m (b ∷ w) s h k e =
    let q = and_parts (is_blank b) (list_all is_blank w) h in
    rw (q.0, skip_front w s q.1 k, e) refl

-- an operator that binds as tightly as another demand asks is found by it too
pub op_other : (m k : ℕ) (t : List ℕ) {x : BinOp × List ℕ} → op_at k t ≡ Some x → m ≤ binop_level x.0 → op_at m t ≡ Some x
unfolding op_at
op_other m k t {x} h =
    bind_then (blanks_at t) _ h (λ w e h.
    bind_then (binop_of (run goes_on_name w).0) _ h (λ o f h.
    bind_then (blanks_at (run goes_on_name w).1) _ h (λ r g h.
    guard_then (nat_le k (binop_level o)) (o, r) h (λ l i le.
    let j : nat_le m (binop_level o) ≡ true = le-leb m (binop_level o) (subst (λ (y : BinOp × List ℕ). m ≤ binop_level y.0) (sym i) le) in
    rw (e, f, g, j) (ap Some i)))))

pub op_tighter : (m k : ℕ) (t : List ℕ) → m ≤ k → op_at m t ≡ None → op_at k t ≡ None
op_tighter m k t le h =
    is_none (op_at k t) (λ x e.
    let l : m ≤ binop_level x.0 = omega (arith, leb-true k (binop_level x.0) (op_is k t e).binds) in
    none_some h (op_other m k t e l))

-- where no operator of level k follows, one that follows is looser
pub not_above : (k m : ℕ) (q : BinOp) (s r : List ℕ) → op_at k s ≡ None → op_at m s ≡ Some (q, r) → binop_level q < k
not_above k m q s r e h =
    elim (cases_lt (binop_level q) k) [
      | inl lt ↦ lt
      | inr le ↦ none_some e (op_other k m s h le)
    ]

pub op_above : (m : ℕ) (o : BinOp) (w v r : List ℕ) → rws w → rws v → stops is_blank r ≡ true → binop_level o < m → op_at m (w ++ (binop_word o ++ (v ++ r))) ≡ None
op_above m o w v r h k s l =
    let a = op_front 0 o w v r h k s (leb-zero (binop_level o)) in
    is_none (op_at m (w ++ (binop_word o ++ (v ++ r)))) (λ x e.
    let b = op_other 0 m (w ++ (binop_word o ++ (v ++ r))) e (omega arith) in
    let c : (o, r) ≡ x = some_value (sym a ∙ b) in
    let d : m ≤ binop_level x.0 = leb-true m (binop_level x.0) (op_is m (w ++ (binop_word o ++ (v ++ r))) e).binds in
    let f : binop_level o ≡ binop_level x.0 = ap (λ (y : BinOp × List ℕ). binop_level y.0) c in
    omega arith)

-- ---- signs

pub not_is : (t : List ℕ) {x : UnOp × List ℕ} → not_at t ≡ Some x → Front (sign_text x.0) t x.1 × (stops is_blank x.1 ≡ true)
unfolding not_at
not_is t h =
    cond_then (same_text (run goes_on_name t).0 (codes "not")) _ None h
    (λ e h. bind_then (blanks_at (run goes_on_name t).1) _ h (λ r f k.
    let i : Front (word (codes "not")) t (run goes_on_name t).1 = record { front = (run goes_on_name t).0; of = same_texts _ _ e; cut = (run_is goes_on_name t).cut } in
    subst (λ x. Front (sign_text x.0) t x.1 × (stops is_blank x.1 ≡ true)) (some_value k)
    (then_front i (blanks_is (run goes_on_name t).1 f).0, (blanks_is (run goes_on_name t).1 f).1)))
    (λ e h. absurd cc)

pub sign_is : (t : List ℕ) {x : UnOp × List ℕ} → sign_at t ≡ Some x → Front (sign_text x.0) t x.1 × (stops is_blank x.1 ≡ true)
unfolding sign_at
sign_is t h =
    branch_then (after 45 t) _ (not_at t) h
    (λ r e k.
    subst (λ x. Front (sign_text x.0) t x.1 × (stops is_blank x.1 ≡ true)) (some_value k)
    (then_front (word_front (codes "-") t r (after_is 45 t e)) (skip_is r), skip_stops r))
    (λ e k. not_is t k)

pub minus_front : (v r : List ℕ) → bws v → stops is_blank r ≡ true → sign_at (45 ∷ (v ++ r)) ≡ Some (UnOp.Neg, r)
unfolding sign_at
minus_front v r h s = rw (after_front 45 (v ++ r), skip_front v r h s) refl

pub not_front : (v r : List ℕ) → rws v → stops is_blank r ≡ true → sign_at (codes "not" ++ (v ++ r)) ≡ Some (UnOp.Not, r)
unfolding sign_at not_at after
not_front v r h s = rw (word_run (codes "not") (v ++ r) refl (rws_stop v r h), blanks_front v r h s) refl

-- ---- names and paths

-- the parts of the test
pub record NameParts (t : List ℕ) : Type 0 where
  pub begins : begins_name (slice_index t 0) ≡ true
  pub passes : list_all goes_on_name t ≡ true
  pub short : nat_le (length t) 128 ≡ true
  pub free : is_reserved t ≡ false

pub name_parts : (t : List ℕ) → is_name t ≡ true → NameParts t
name_parts t h =
    let a = and_parts _ _ h in
    let b = and_parts _ _ a.0 in
    let c = and_parts _ _ b.0 in
    record { begins = c.0; passes = c.1; short = b.1; free = not-true _ a.1 }

pub name_is : (t : List ℕ) {x : List ℕ × List ℕ} → name_at t ≡ Some x → Front (name_text x.0) t x.1 × (stops goes_on_name x.1 ≡ true)
unfolding name_at
name_is t h =
    guard_then (is_name (run goes_on_name t).0) ((run goes_on_name t).0, (run goes_on_name t).1) h (λ e k.
    let x = run_is goes_on_name t in
    subst (λ x. Front (name_text x.0) t x.1 × (stops goes_on_name x.1 ≡ true)) k
    (record { front = (run goes_on_name t).0; of = (e, refl); cut = x.cut }, x.stop))

pub name_front : (n r : List ℕ) → is_name n ≡ true → stops goes_on_name r ≡ true → name_at (n ++ r) ≡ Some (n, r)
unfolding name_at
name_front n r h s = rw (word_run n r (name_parts n h).passes s, h) refl

-- a path's names
pub names : Items (word (codes "/")) name_text (after 47) name_at (λ r. stops goes_on_name r ≡ true)
names = record {
  sep_is = λ t r e. word_front (codes "/") t r (after_is 47 t e);
  item_is = λ t x e. (name_is t e).0;
  item_front = λ n a r h s. rw h.1 (name_front n r h.0 s);
  sep_front = λ s x a r h k. rw h (after_front 47 (a ++ r));
  sep_follow = λ s b h. rw h refl;
  sep_some = λ s h. rw h (omega arith);
}

pub path_is : (t : List ℕ) {x : List (List ℕ) × List ℕ} → path_at t ≡ Some x → Front (path_text x.0) t x.1
path_is t h = list_is names t h

pub path_front : (p : List (List ℕ)) (a r : List ℕ) → path_text p a → ends r ≡ true → path_at (a ++ r) ≡ Some (p, r)
path_front p a r h e = list_front names p a r h (ends_stops goes_on_name r e refl refl refl refl) (after_none 47 r (ends_stops (λ b. b == 47) r e refl refl refl refl))

-- ---- numbers

pub value_is : (most k : ℕ) (ds : List ℕ) {n : ℕ} → value_behind most k ds ≡ Some n → (digits_value_after 10 k ds ≡ n) × (nat_le n most ≡ true)
unfolding value_behind
value_is most k ds h = guard_then (nat_le (digits_value_after 10 k ds) most) (digits_value_after 10 k ds) h (λ e i. (i, subst (λ n. nat_le n most ≡ true) i e))

pub value_front : (most k : ℕ) (ds : List ℕ) (n : ℕ) → digits_value_after 10 k ds ≡ n → nat_le n most ≡ true → value_behind most k ds ≡ Some n
unfolding value_behind
value_front most k ds n e h = let i : nat_le (digits_value_after 10 k ds) most ≡ true = rw e h in rw i (ap Some e)

pub record SomeDigits (ds : List ℕ) : Type 0 where
  pub some : 0 < length ds
  pub digits : list_all is_ascii_digit ds ≡ true

pub digits_is : (t : List ℕ) {x : List ℕ × List ℕ} → digits_at t ≡ Some x → SomeDigits x.0 × (t ≡ x.0 ++ x.1) × (stops is_ascii_digit x.1 ≡ true)
unfolding digits_at
digits_is t h =
    guard_then (nat_le 1 (length (run is_ascii_digit t).0)) ((run is_ascii_digit t).0, (run is_ascii_digit t).1) h (λ e k.
    let x = run_is is_ascii_digit t in
    subst (λ x. SomeDigits x.0 × (t ≡ x.0 ++ x.1) × (stops is_ascii_digit x.1 ≡ true)) k
    (record { some = omega (arith, leb-true 1 (length (run is_ascii_digit t).0) e); digits = x.pass }, x.cut, x.stop))

pub digits_front : (ds r : List ℕ) → SomeDigits ds → stops is_ascii_digit r ≡ true → digits_at (ds ++ r) ≡ Some (ds, r)
unfolding digits_at
digits_front ds r h s = rw (run_front is_ascii_digit ds r h.digits s, le-leb 1 (length ds) (omega (arith, h.some))) refl

-- what the number read is a text of
abbrev pub NumberText : Expr → Language
NumberText (Expr.Int n) = IntText n
NumberText (Expr.Dec m s) = DecText m s
NumberText (Expr.Day y m d) = DateText y m d
NumberText _ = nothing

-- a number that was read, with its text behind the first digits
pub record NumberBehind (ds t : List ℕ) (x : Expr × List ℕ) : Type 0 where
  pub more : List ℕ
  pub cut : t ≡ more ++ x.1
  pub of : NumberText x.0 (ds ++ more)

-- a decimal that was read behind its point
pub record DecimalBehind (ds t : List ℕ) (x : (ℤ × ℕ) × List ℕ) : Type 0 where
  pub more : List ℕ
  pub cut : t ≡ more ++ x.1
  pub of : DecText x.0.0 x.0.1 (ds ++ 46 ∷ more)

pub decimal_is : (ds t : List ℕ) → SomeDigits ds → {x : (ℤ × ℕ) × List ℕ} → decimal_at ds t ≡ Some x → DecimalBehind ds t x
unfolding decimal_at
decimal_is ds t g h =
    bind_then (digits_at t) _ h (λ fs f h.
    let c = digits_is t f in
    bind_then (value_behind mantissa_max 0 ds) _ h (λ w j h.
    bind_then (value_behind mantissa_max w fs.0) _ h (λ m i h.
    guard_then (nat_le (length fs.0) scale_max) _ h (λ l e.
    subst (λ x. DecimalBehind ds t x) e
    (record {
      more = fs.0;
      cut = c.1;
      of = record {
        whole = ds;
        fraction = fs.0;
        cut = refl;
        some = g.some;
        digits = g.digits;
        some_behind = c.0.some;
        digits_behind = c.0.digits;
        scale = refl;
        most = l;
        value = value_append 0 ds fs.0 ∙ ap (λ n. digits_value_after 10 n fs.0) (value_is mantissa_max 0 ds j).0 ∙ (value_is mantissa_max w fs.0 i).0;
        small = (value_is mantissa_max w fs.0 i).1;
      };
    })))))

pub decimal_front : (m s : ℕ) (a r : List ℕ) (h : Fraction m s a) → ends r ≡ true → decimal_at h.whole (h.fraction ++ r) ≡ Some ((pos m, s), r)
unfolding decimal_at
decimal_front m s a r h e =
    let l : nat_le (length h.fraction) scale_max ≡ true = rw h.scale h.most in
    let w = digits_value_after 10 0 h.whole in
    let v : digits_value_after 10 w h.fraction ≡ m = sym (value_append 0 h.whole h.fraction) ∙ h.value in
    let small : nat_le w mantissa_max ≡ true = le-leb w mantissa_max (omega (arith, leb-true m mantissa_max h.small, v, value_grows w h.fraction)) in
    rw (
      digits_front h.fraction r (record { some = h.some_behind; digits = h.digits_behind }) (ends_stops is_ascii_digit r e refl refl refl refl),
      value_front mantissa_max 0 h.whole w refl small,
      value_front mantissa_max w h.fraction m v h.small,
      l,
    )
    (ap (λ k. Some ((pos m, k), r)) h.scale)

-- ---- dates

pub two_digits_is : (t : List ℕ) {x : ℕ × List ℕ} → two_digits_at t ≡ Some x → Front (Wide 2 x.0) t x.1
unfolding two_digits_at
two_digits_is t h =
    bind_then (digits_at t) _ h (λ ds e h. bind_then (value_behind 99 0 ds.0) _ h (λ n f h. guard_then (length ds.0 == 2) (n, ds.1) h (λ l k.
    let d = digits_is t e in
    subst (λ x. Front (Wide 2 x.0) t x.1) k
    (record { front = ds.0; of = record { wide = eqb-true (length ds.0) 2 l; digits = d.0.digits; value = (value_is 99 0 ds.0 f).0 }; cut = d.1 }))))

pub all_digits : (t : List ℕ) → list_all is_ascii_digit t ≡ true → AllDigits 10 t
all_digits [] h = tt
all_digits (b ∷ t) h =
    let q = and_parts (is_ascii_digit b) (list_all is_ascii_digit t) h in
    let d = digit_is b q.0 in
    (omega (arith, d.0, d.1, d.2), all_digits t q.1)

-- digits of this width are a number below the power of ten
wide_less : (k n : ℕ) (t : List ℕ) → Wide k n t → n < 10 ^ k
wide_less k n t h = subst (λ m. m < 10 ^ k) h.value (subst (λ j. digits_value 10 t < 10 ^ j) h.wide (digits_value-lt 10 t (all_digits t h.digits)))

wide_some : (k n : ℕ) (t : List ℕ) → Wide (suc k) n t → SomeDigits t
wide_some k n t h = record { some = omega (arith, h.wide); digits = h.digits }

pub two_digits_front : (n : ℕ) (a r : List ℕ) → Wide 2 n a → stops is_ascii_digit r ≡ true → two_digits_at (a ++ r) ≡ Some (n, r)
unfolding two_digits_at
two_digits_front n a r h s =
    let small : nat_le n 99 ≡ true = le-leb n 99 (let l = wide_less 2 n a h in omega (arith, l)) in
    rw (digits_front a r (wide_some 1 n a h) s, value_front 99 0 a n h.value small, eq-eqb (length a) 2 h.wide) refl

-- a date that was read behind its year
pub date_is : (ds t : List ℕ) → SomeDigits ds → {x : Expr × List ℕ} → date_at ds t ≡ Some x → NumberBehind ds (45 ∷ t) x
unfolding date_at
date_is ds t g h =
    bind_then (value_behind 9999 0 ds) _ h (λ y j h.
    bind_then (two_digits_at t) _ h (λ m e h. bind_then (after 45 m.1) _ h (λ r f h. bind_then (two_digits_at r) _ h (λ d i h.
    guard_then (length ds == 4 && is_day y m.0 d.0) _ h (λ l k.
    let q = and_parts (length ds == 4) (is_day y m.0 d.0) l in
    subst (λ x. NumberBehind ds (45 ∷ t) x) k
    (date_behind ds t y m.0 d.0 m.1 r d.1 (record { wide = eqb-true (length ds) 4 q.0; digits = g.digits; value = (value_is 9999 0 ds j).0 }) (two_digits_is t e) (after_is 45 m.1 f) (two_digits_is r i) q.1))))))
  where
    date_behind : (ds t : List ℕ) (y m d : ℕ) (s r u : List ℕ) → Wide 4 y ds → Front (Wide 2 m) t s → s ≡ 45 ∷ r → Front (Wide 2 d) r u → is_day y m d ≡ true → NumberBehind ds (45 ∷ t) (Expr.Day y m d, u)
    date_behind ds t y m d s r u h a e b o = record {
      more = 45 ∷ (a.front ++ 45 ∷ b.front);
      cut = ap (λ l. 45 ∷ l) (a.cut ∙ ap (λ l. a.front ++ l) (e ∙ ap (λ l. 45 ∷ l) b.cut) ∙ sym (append_assoc a.front (45 ∷ b.front) u));
      of = record { year = ds; month = a.front; day = b.front; cut = refl; of_year = h; of_month = a.of; of_day = b.of; is_date = o };
    }

pub date_front : (y m d : ℕ) (a r : List ℕ) (h : DateText y m d a) → ends r ≡ true → date_at h.year (h.month ++ (45 ∷ (h.day ++ r))) ≡ Some (Expr.Day y m d, r)
unfolding date_at
date_front y m d a r h e =
    let small : nat_le y 9999 ≡ true = le-leb y 9999 (let l = wide_less 4 y h.year h.of_year in omega (arith, l)) in
    rw (
      value_front 9999 0 h.year y (let w = h.of_year in w.value) small,
      two_digits_front m h.month (45 ∷ (h.day ++ r)) h.of_month refl,
      after_front 45 (h.day ++ r),
      two_digits_front d h.day r h.of_day (ends_stops is_ascii_digit r e refl refl refl refl),
      eq-eqb (length h.year) 4 (let w = h.of_year in w.wide),
      h.is_date,
    )
    refl

-- ---- any number

pub number_is : (ds t : List ℕ) → SomeDigits ds → {x : Expr × List ℕ} → number_behind ds t ≡ Some x → NumberBehind ds t x
unfolding number_behind
number_is ds t g {x} h =
    branch_then (after 46 t) _ _ h
    (λ r e h. bind_then (decimal_at ds r) _ h (λ d f k.
    let c = decimal_is ds r g f in
    subst (λ x. NumberBehind ds t x) (some_value k)
    (record { more = 46 ∷ c.more; cut = after_is 46 t e ∙ ap (λ l. 46 ∷ l) c.cut; of = c.of })))
    (λ e h. branch_then (after 45 t) _ _ h
    (λ r f h. subst (λ l. NumberBehind ds l x) (sym (after_is 45 t f)) (date_is ds r g h))
    (λ f h. bind_then (value_behind integer_max 0 ds) _ h (λ n i k.
    subst (λ x. NumberBehind ds t x) (some_value k)
    (record { more = []; cut = refl; of = subst (λ l. Digits integer_max n l) (sym (append-nil ds)) (record { some = g.some; digits = g.digits; value = (value_is integer_max 0 ds i).0; small = (value_is integer_max 0 ds i).1 }) }))))

pub int_front : (n : ℕ) (a r : List ℕ) → Digits integer_max n a → ends r ≡ true → number_behind a r ≡ Some (Expr.Int (pos n), r)
unfolding number_behind
int_front n a r h e =
    rw (
      after_none 46 r (ends_stops (λ b. b == 46) r e refl refl refl refl),
      after_none 45 r (ends_stops (λ b. b == 45) r e refl refl refl refl),
      value_front integer_max 0 a n h.value h.small,
    )
    refl

pub dec_front : (m s : ℕ) (a r : List ℕ) (h : Fraction m s a) → ends r ≡ true → number_behind h.whole (46 ∷ (h.fraction ++ r)) ≡ Some (Expr.Dec (pos m) s, r)
unfolding number_behind
dec_front m s a r h e = rw (after_front 46 (h.fraction ++ r), decimal_front m s a r h e) refl

pub day_front : (y m d : ℕ) (a r : List ℕ) (h : DateText y m d a) → ends r ≡ true → number_behind h.year (45 ∷ (h.month ++ (45 ∷ (h.day ++ r)))) ≡ Some (Expr.Day y m d, r)
unfolding number_behind
day_front y m d a r h e =
    rw (after_none 46 (45 ∷ (h.month ++ (45 ∷ (h.day ++ r)))) refl, after_front 45 (h.month ++ (45 ∷ (h.day ++ r)))) (date_front y m d a r h e)

-- ---- text literals

-- the bytes of a text literal, with each quote doubled
abbrev pub doubled : List ℕ → List ℕ
doubled t = flat_map (λ b. if b == 39 then 39 ∷ 39 ∷ [] else b ∷ []) t

pub quote_plain : (b : ℕ) (t : List ℕ) → (b == 39) ≡ false → quote_at (b ∷ t) ≡ (quote_at t >>= λ x. Some (b ∷ x.0, x.1))
unfolding quote_at
quote_plain b [] e = rw e refl
quote_plain b (c ∷ t) e = rw e refl

-- what is read up to the closing quote
pub quote_is : (t : List ℕ) {x : List ℕ × List ℕ} → quote_at t ≡ Some x → t ≡ doubled x.0 ++ 39 ∷ x.1
unfolding quote_at
quote_is [] h = absurd cc
quote_is (b ∷ []) h =
    guard_then (b == 39) _ h (λ e k.
    subst (λ (x : List ℕ × List ℕ). b ∷ [] ≡ doubled x.0 ++ 39 ∷ x.1) k (ap (λ l. l ∷ []) (eqb-true b 39 e)))
quote_is (b ∷ (c ∷ t)) h =
    cond_then (b == 39) _ _ h
    (λ e h. cond_then (c == 39) _ _ h
    (λ f h. bind_then (quote_at t) _ h (λ x g k.
    subst (λ (x : List ℕ × List ℕ). b ∷ (c ∷ t) ≡ doubled x.0 ++ 39 ∷ x.1) (some_value k)
    (let i : b ≡ 39 = eqb-true b 39 e in let j : c ≡ 39 = eqb-true c 39 f in let l : t ≡ doubled x.0 ++ 39 ∷ x.1 = quote_is t g in cc)))
    (λ f k.
    subst (λ (x : List ℕ × List ℕ). b ∷ (c ∷ t) ≡ doubled x.0 ++ 39 ∷ x.1) (some_value k)
    (ap (λ l. l ∷ (c ∷ t)) (eqb-true b 39 e))))
    (λ e h. bind_then (quote_at (c ∷ t)) _ h (λ x g k.
    subst (λ (x : List ℕ × List ℕ). b ∷ (c ∷ t) ≡ doubled x.0 ++ 39 ∷ x.1) (some_value k)
    (rw e (ap (λ l. b ∷ l) (quote_is (c ∷ t) g)))))

quote_front_step : (b : ℕ) (s r : List ℕ) (c : Bool) → (b == 39) ≡ c → quote_at (doubled s ++ (39 ∷ r)) ≡ Some (s, r) → quote_at (doubled (b ∷ s) ++ (39 ∷ r)) ≡ Some (b ∷ s, r)
unfolding quote_at
quote_front_step b s r true e h = rw (e, h) (ap (λ l. Some (l ∷ s, r)) (sym (eqb-true b 39 e)))
quote_front_step b s r false e h = rw e (quote_plain b (doubled s ++ (39 ∷ r)) e ∙ ap (λ o. o >>= λ x. Some (b ∷ x.0, x.1)) h)

pub quote_front : (s r : List ℕ) → stops (λ b. b == 39) r ≡ true → quote_at (doubled s ++ (39 ∷ r)) ≡ Some (s, r)
unfolding quote_at
quote_front [] [] h = refl
quote_front [] (c ∷ r) h = rw (not-true (c == 39) h) refl
quote_front (b ∷ s) r h = quote_front_step b s r (b == 39) refl (quote_front s r h)

-- ---- words

pub fun1_again : (f : Fun1) → fun1_of (fun1_word f) ≡ Some f
unfolding fun1_of
fun1_again Fun1.Length = refl
fun1_again Fun1.Year = refl
fun1_again Fun1.Month = refl
fun1_again Fun1.Day = refl

pub fun2_again : (f : Fun2) → (fun1_of (fun2_word f) ≡ None) × (fun2_of (fun2_word f) ≡ Some f)
unfolding fun1_of fun2_of
fun2_again Fun2.StartsWith = (refl, refl)
fun2_again Fun2.EndsWith = (refl, refl)
fun2_again Fun2.Contains = (refl, refl)

pub fun1_letters : (f : Fun1) → IsWord (fun1_word f)
fun1_letters Fun1.Length = record { solid_word = refl; letters = refl }
fun1_letters Fun1.Year = record { solid_word = refl; letters = refl }
fun1_letters Fun1.Month = record { solid_word = refl; letters = refl }
fun1_letters Fun1.Day = record { solid_word = refl; letters = refl }

pub fun2_letters : (f : Fun2) → IsWord (fun2_word f)
fun2_letters Fun2.StartsWith = record { solid_word = refl; letters = refl }
fun2_letters Fun2.EndsWith = record { solid_word = refl; letters = refl }
fun2_letters Fun2.Contains = record { solid_word = refl; letters = refl }

pub fun1_is : (w : List ℕ) {f : Fun1} → fun1_of w ≡ Some f → w ≡ fun1_word f
unfolding fun1_of
fun1_is w h = word_is fun1_word (Fun1.Length ∷ Fun1.Year ∷ Fun1.Month ∷ Fun1.Day ∷ []) w h

pub fun2_is : (w : List ℕ) {f : Fun2} → fun2_of w ≡ Some f → w ≡ fun2_word f
unfolding fun2_of
fun2_is w h = word_is fun2_word (Fun2.StartsWith ∷ Fun2.EndsWith ∷ Fun2.Contains ∷ []) w h

abbrev pub WordText : Expr → Language
WordText Expr.Null = word (codes "null")
WordText (Expr.Bool' true) = word (codes "true")
WordText (Expr.Bool' false) = word (codes "false")
WordText (Expr.Path' p) = path_text p
WordText _ = λ t. ⊥

the_word : (w t : List ℕ) (e : Expr) → ((a : List ℕ) → a ≡ w → WordText e a) → same_text (run goes_on_name t).0 w ≡ true → {x : Expr × List ℕ} → Some (e, (run goes_on_name t).1) ≡ Some x → Front (WordText x.0) t x.1
the_word w t e f h {x} k =
    subst (λ x. Front (WordText x.0) t x.1) (some_value k)
    (record { front = (run goes_on_name t).0; of = f _ (same_texts _ w h); cut = (run_is goes_on_name t).cut })

pub word_at_is : (t : List ℕ) {x : Expr × List ℕ} → word_at t ≡ Some x → Front (WordText x.0) t x.1
unfolding word_at
word_at_is t h =
    cond_then (same_text (run goes_on_name t).0 (codes "null")) _ _ h (λ e k. the_word (codes "null") t Expr.Null (λ a i. i) e k) (λ e h.
    cond_then (same_text (run goes_on_name t).0 (codes "true")) _ _ h (λ e k. the_word (codes "true") t (Expr.Bool' true) (λ a i. i) e k) (λ e h.
    cond_then (same_text (run goes_on_name t).0 (codes "false")) _ _ h (λ e k. the_word (codes "false") t (Expr.Bool' false) (λ a i. i) e k) (λ e h.
    bind_then (path_at t) _ h (λ p f k.
    subst (λ x. Front (WordText x.0) t x.1) (some_value k) (path_is t f)))))

-- ---- first bytes

abbrev pub leads : (ℕ → Bool) → List ℕ → Bool
leads p [] = false
leads p (b ∷ t) = p b

differs : (p : ℕ → Bool) (a b : ℕ) → p b ≡ true → p a ≡ false → (b == a) ≡ false
differs p a b h k = false_from_ne_true (b == a) (λ e. false_true (sym (ap p (eqb-true b a e) ∙ k) ∙ h))

pub leads_after : (p : ℕ → Bool) (a : ℕ) (t r : List ℕ) → leads p t ≡ true → p a ≡ false → after a (t ++ r) ≡ None
unfolding after
leads_after p a [] r h k = absurd cc
leads_after p a (b ∷ t) r h k = rw (differs p a b h k) refl

pub leads_same : (p : ℕ → Bool) (a : ℕ) (w t : List ℕ) → leads p t ≡ true → p a ≡ false → same_text t (a ∷ w) ≡ false
leads_same p a w [] h k = refl
leads_same p a w (b ∷ t) h k = rw (differs p a b h k) refl

letter_no_digit : (b : ℕ) → begins_name b ≡ true → is_ascii_digit b ≡ false
letter_no_digit b h =
    false_from_ne_true (is_ascii_digit b) (λ e.
    let d = and_parts (nat_le 48 b) (nat_le b 57) e in
    elim (or_cases ((nat_le 65 b && nat_le b 90) || (nat_le 97 b && nat_le b 122)) (b == 95) h) [
      | inl g ↦ elim (or_cases (nat_le 65 b && nat_le b 90) (nat_le 97 b && nat_le b 122) g) [
        | inl k ↦ let q = and_parts (nat_le 65 b) (nat_le b 90) k in omega (arith, leb-true b 57 d.1, leb-true 65 b q.0)
        | inr k ↦ let q = and_parts (nat_le 97 b) (nat_le b 122) k in omega (arith, leb-true b 57 d.1, leb-true 97 b q.0)
      ]
      | inr g ↦ omega (arith, leb-true b 57 d.1, eqb-true b 95 g)
    ])

pub leads_digits : (t r : List ℕ) → leads begins_name t ≡ true → digits_at (t ++ r) ≡ None
unfolding digits_at run
leads_digits [] r h = absurd cc
leads_digits (b ∷ t) r h = rw (letter_no_digit b h) refl

digit_goes_on : (b : ℕ) → is_ascii_digit b ≡ true → goes_on_name b ≡ true
digit_goes_on b h = or_left _ (b == 95) (or_left _ (is_in_range 97 122 b) (or_left (is_in_range 48 57 b) (is_in_range 65 90 b) h))

digits_go_on : (t : List ℕ) → list_all is_ascii_digit t ≡ true → list_all goes_on_name t ≡ true
digits_go_on [] h = refl
digits_go_on (b ∷ t) h =
    let q = and_parts (is_ascii_digit b) (list_all is_ascii_digit t) h in
    and_from (goes_on_name b) (list_all goes_on_name t) (digit_goes_on b q.0) (digits_go_on t q.1)

pub digits_lead : (t : List ℕ) → SomeDigits t → leads is_ascii_digit t ≡ true
digits_lead [] h = absurd (omega (arith, h.some))
digits_lead (b ∷ t) h = (and_parts (is_ascii_digit b) (list_all is_ascii_digit t) h.digits).0

pub leads_on : (p : ℕ → Bool) (t r : List ℕ) → leads p t ≡ true → leads p (t ++ r) ≡ true
leads_on p [] r h = absurd cc
leads_on p (b ∷ t) r h = h

pub leads_solid : (p : ℕ → Bool) (t : List ℕ) → leads p t ≡ true → p 32 ≡ false → p 9 ≡ false → solid t ≡ true
leads_solid p [] h j k = absurd cc
leads_solid p (b ∷ t) h j k = rw (differs p 32 b h j, differs p 9 b h k) refl

-- ---- atoms

-- a text that is read as this atom, whatever comes before an atom being tried first
pub record IsAtom (limits : Bounds) (a r : List ℕ) (e : Expr) : Type 0 where
  pub no_sign : sign_at (a ++ r) ≡ None
  pub no_open : open_at (a ++ r) ≡ None
  pub no_call : open_at (run goes_on_name (a ++ r)).1 ≡ None
  pub atom : atom_at limits (a ++ r) ≡ Some (e, r)
  pub solid_atom : solid a ≡ true

ends_open : (r : List ℕ) → ends r ≡ true → open_at r ≡ None
ends_open r e = open_none r (ends_stops (λ b. b == 40) r e refl refl refl refl)

pub ends_go : (r : List ℕ) → ends r ≡ true → stops goes_on_name r ≡ true
ends_go r e = ends_stops goes_on_name r e refl refl refl refl

text_front : (limits : Bounds) (s r : List ℕ) → is_literal limits s ≡ true → ends r ≡ true → text_at limits (doubled s ++ (39 ∷ r)) ≡ Some (Expr.Text s, r)
unfolding text_at
text_front limits s r u e = rw (quote_front s r (ends_stops (λ b. b == 39) r e refl refl refl refl), u) refl

pub text_atom : (limits : Bounds) (t r : List ℕ) → is_literal limits t ≡ true → ends r ≡ true → IsAtom limits (quoted t) r (Expr.Text t)
unfolding sign_at not_at after open_at run atom_at
text_atom limits t r u e = record {
  no_sign = refl;
  no_open = refl;
  no_call = refl;
  atom = ap (text_at limits) (append_assoc (doubled t) (39 ∷ []) r) ∙ text_front limits t r u e;
  solid_atom = refl;
}

-- a number's digits, and what stops them
digits_atom : (limits : Bounds) (ds s : List ℕ) (e : Expr) (r : List ℕ) → SomeDigits ds → stops goes_on_name s ≡ true → open_at s ≡ None → stops is_ascii_digit s ≡ true → number_behind ds s ≡ Some (e, r) → (a : List ℕ) → a ++ r ≡ ds ++ s → solid a ≡ true → IsAtom limits a r e
unfolding sign_at not_at open_at atom_at
digits_atom limits ds s e r h g o d n a i j =
    let l = digits_lead ds h in
    let run_on : run goes_on_name (a ++ r) ≡ (ds, s) = rw i (word_run ds s (digits_go_on ds h.digits) g) in
    record {
      no_sign = rw (run_on, i, leads_after is_ascii_digit 45 ds s l refl, leads_same is_ascii_digit 110 (codes "ot") ds l refl) refl;
      no_open = rw (i, leads_after is_ascii_digit 40 ds s l refl) refl;
      no_call = rw run_on o;
      atom = rw (i, leads_after is_ascii_digit 39 ds s l refl, digits_front ds s h d, n) refl;
      solid_atom = j;
    }

pub int_atom : (limits : Bounds) (n : ℕ) (a r : List ℕ) → Digits integer_max n a → ends r ≡ true → IsAtom limits a r (Expr.Int (pos n))
int_atom limits n a r h e =
    let d : SomeDigits a = record { some = h.some; digits = h.digits } in
    digits_atom limits a r (Expr.Int (pos n)) r d (ends_go r e) (ends_open r e) (ends_stops is_ascii_digit r e refl refl refl refl) (int_front n a r h e) a refl (leads_solid is_ascii_digit a (digits_lead a d) refl refl)

pub dec_atom : (limits : Bounds) (m s : ℕ) (a r : List ℕ) → Fraction m s a → ends r ≡ true → IsAtom limits a r (Expr.Dec (pos m) s)
unfolding open_at after
dec_atom limits m s a r h e =
    let d : SomeDigits h.whole = record { some = h.some; digits = h.digits } in
    let i : a ++ r ≡ h.whole ++ (46 ∷ (h.fraction ++ r)) = recut _ _ r h.cut in
    let j : solid a ≡ true = subst (λ l. solid l ≡ true) (sym h.cut) (solid_on h.whole (46 ∷ h.fraction) (leads_solid is_ascii_digit h.whole (digits_lead h.whole d) refl refl)) in
    digits_atom limits h.whole (46 ∷ (h.fraction ++ r)) (Expr.Dec (pos m) s) r d refl refl refl (dec_front m s a r h e) a i j

pub date_atom : (limits : Bounds) (y m d : ℕ) (a r : List ℕ) → DateText y m d a → ends r ≡ true → IsAtom limits a r (Expr.Day y m d)
unfolding open_at after
date_atom limits y m d a r h e =
    let f = wide_some 3 y h.year h.of_year in
    let i : a ++ r ≡ h.year ++ (45 ∷ (h.month ++ (45 ∷ (h.day ++ r)))) = recut _ _ r h.cut ∙ ap (λ l. h.year ++ (45 ∷ l)) (append_assoc h.month (45 ∷ h.day) r) in
    let j : solid a ≡ true = subst (λ l. solid l ≡ true) (sym h.cut) (solid_on h.year (45 ∷ (h.month ++ (45 ∷ h.day))) (leads_solid is_ascii_digit h.year (digits_lead h.year f) refl refl)) in
    digits_atom limits h.year (45 ∷ (h.month ++ (45 ∷ (h.day ++ r)))) (Expr.Day y m d) r f refl refl refl (day_front y m d a r h e) a i j

-- a word of letters, and what stops it
word_atom : (limits : Bounds) (w s a r : List ℕ) (e : Expr) → leads begins_name w ≡ true → list_all goes_on_name w ≡ true → same_text w (codes "not") ≡ false → stops goes_on_name s ≡ true → open_at s ≡ None → a ++ r ≡ w ++ s → word_at (a ++ r) ≡ Some (e, r) → solid a ≡ true → IsAtom limits a r e
unfolding sign_at not_at open_at atom_at
word_atom limits w s a r e l h n g o i k j =
    let run_on : run goes_on_name (a ++ r) ≡ (w, s) = rw i (word_run w s h g) in
    record {
      no_sign = rw (run_on, i, leads_after begins_name 45 w s l refl, n) refl;
      no_open = rw (i, leads_after begins_name 40 w s l refl) refl;
      no_call = rw run_on o;
      atom = rw k (rw (i, leads_after begins_name 39 w s l refl, leads_digits w s l) refl);
      solid_atom = j;
    }

null_word : (r : List ℕ) → stops goes_on_name r ≡ true → word_at (codes "null" ++ r) ≡ Some (Expr.Null, r)
unfolding word_at
null_word r g = rw (word_run (codes "null") r refl g) refl

pub null_atom : (limits : Bounds) (r : List ℕ) → ends r ≡ true → IsAtom limits (codes "null") r Expr.Null
null_atom limits r e = word_atom limits (codes "null") r (codes "null") r Expr.Null refl refl refl (ends_go r e) (ends_open r e) refl (null_word r (ends_go r e)) refl

flag_word : (b : Bool) (r : List ℕ) → stops goes_on_name r ≡ true → word_at ((cond b (codes "true") (codes "false")) ++ r) ≡ Some (Expr.Bool' b, r)
unfolding word_at
flag_word true r g = rw (word_run (codes "true") r refl g) refl
flag_word false r g = rw (word_run (codes "false") r refl g) refl

pub flag_atom : (limits : Bounds) (b : Bool) (r : List ℕ) → ends r ≡ true → IsAtom limits (cond b (codes "true") (codes "false")) r (Expr.Bool' b)
flag_atom limits true r e = word_atom limits (codes "true") r (codes "true") r (Expr.Bool' true) refl refl refl (ends_go r e) (ends_open r e) refl (flag_word true r (ends_go r e)) refl
flag_atom limits false r e = word_atom limits (codes "false") r (codes "false") r (Expr.Bool' false) refl refl refl (ends_go r e) (ends_open r e) refl (flag_word false r (ends_go r e)) refl

-- a path's first name, and what stops it
pub record FirstName (a r : List ℕ) : Type 0 where
  pub name : List ℕ
  pub behind : List ℕ
  pub named : is_name name ≡ true
  pub cut : a ++ r ≡ name ++ behind
  pub stop : stops goes_on_name behind ≡ true
  pub no_open : open_at behind ≡ None
  pub solid_path : solid a ≡ true

pub name_leads : (n : List ℕ) → is_name n ≡ true → leads begins_name n ≡ true
name_leads [] h = (name_parts [] h).begins
name_leads (b ∷ n) h = (name_parts (b ∷ n) h).begins

pub first_name : (p : List (List ℕ)) (a r : List ℕ) → path_text p a → ends r ≡ true → FirstName a r
unfolding open_at after
first_name [] a r h e = absurd h
first_name (n ∷ []) a r h e = record {
  name = n;
  behind = r;
  named = h.0;
  cut = ap (λ l. l ++ r) h.1;
  stop = ends_go r e;
  no_open = ends_open r e;
  solid_path = rw h.1 (leads_solid begins_name n (name_leads n h.0) refl refl);
}
first_name (n ∷ (m ∷ p)) a r h e =
    let b = h.second.right in
    let c : a ≡ n ++ (47 ∷ b) = h.cut ∙ ap (λ l. l ++ h.right) h.first.1 ∙ ap (λ l. n ++ l) (h.second.cut ∙ ap (λ l. l ++ b) h.second.first) in
    record {
      name = n;
      behind = 47 ∷ (b ++ r);
      named = h.first.0;
      cut = recut _ _ r c;
      stop = refl;
      no_open = refl;
      solid_path = subst (λ l. solid l ≡ true) (sym c) (solid_on n (47 ∷ b) (leads_solid begins_name n (name_leads n h.first.0) refl refl));
    }

pub path_leads : (p : List (List ℕ)) (a : List ℕ) → path_text p a → leads begins_name a ≡ true
path_leads [] a h = absurd h
path_leads (n ∷ []) a h = subst (λ l. leads begins_name l ≡ true) (sym h.1) (name_leads n h.0)
path_leads (n ∷ (m ∷ p)) a h = subst (λ l. leads begins_name l ≡ true) (sym h.cut) (leads_on begins_name h.left h.right (let i = h.first in subst (λ l. leads begins_name l ≡ true) (sym i.1) (name_leads n i.0)))

-- a name is no keyword
no_keyword : (n w : List ℕ) → is_name n ≡ true → is_reserved w ≡ true → same_text n w ≡ false
no_keyword n w h k = false_from_ne_true (same_text n w) (λ e. false_true (sym (name_parts n h).free ∙ ap is_reserved (same_texts n w e) ∙ k))

path_word : (p : List (List ℕ)) (a r : List ℕ) → path_text p a → ends r ≡ true → (f : FirstName a r) → word_at (a ++ r) ≡ Some (Expr.Path' p, r)
unfolding word_at
path_word p a r h e f =
    let run_on : run goes_on_name (a ++ r) ≡ (f.name, f.behind) = rw f.cut (word_run f.name f.behind (name_parts f.name f.named).passes f.stop) in
    rw (
      run_on,
      no_keyword f.name (codes "null") f.named refl,
      no_keyword f.name (codes "true") f.named refl,
      no_keyword f.name (codes "false") f.named refl,
      path_front p a r h e,
    )
    refl

pub path_atom : (limits : Bounds) (p : List (List ℕ)) (a r : List ℕ) → path_text p a → ends r ≡ true → IsAtom limits a r (Expr.Path' p)
path_atom limits p a r h e =
    let f = first_name p a r h e in
    word_atom limits f.name f.behind a r (Expr.Path' p) (name_leads f.name f.named) (name_parts f.name f.named).passes (no_keyword f.name (codes "not") f.named refl) f.stop f.no_open f.cut (path_word p a r h e f) f.solid_path

-- what an atom that was read is a text of
pub data IsAtomText (limits : Bounds) : Expr → List ℕ → Type 0 where
  of_text : (s : List ℕ) {a : List ℕ} → is_literal limits s ≡ true → a ≡ quoted s → IsAtomText limits (Expr.Text s) a
  of_number : {e : Expr} {a : List ℕ} → NumberText e a → IsAtomText limits e a
  of_word : {e : Expr} {a : List ℕ} → WordText e a → IsAtomText limits e a

text_is : (limits : Bounds) (t r : List ℕ) → t ≡ 39 ∷ r → {x : Expr × List ℕ} → text_at limits r ≡ Some x → Front (IsAtomText limits x.0) t x.1
unfolding text_at
text_is limits t r c h =
    bind_then (quote_at r) _ h (λ q f h. guard_then (is_literal limits q.0) _ h (λ u k.
    subst (λ x. Front (IsAtomText limits x.0) t x.1) k
    (record {
      front = quoted q.0;
      of = of_text q.0 u refl;
      cut = c ∙ ap (λ l. 39 ∷ l) (quote_is r f ∙ sym (append_assoc (doubled q.0) (39 ∷ []) q.1));
    })))

pub atom_is : (limits : Bounds) (t : List ℕ) {x : Expr × List ℕ} → atom_at limits t ≡ Some x → Front (IsAtomText limits x.0) t x.1
unfolding atom_at
atom_is limits t {x} h =
    branch_then (after 39 t) _ _ h
    (λ r e h. text_is limits t r (after_is 39 t e) h)
    (λ e h. branch_then (digits_at t) _ _ h
    (λ ds f h.
    let d = digits_is t f in
    let n = number_is ds.0 ds.1 d.0 h in
    record { front = ds.0 ++ n.more; of = of_number n.of; cut = d.1 ∙ ap (λ l. ds.0 ++ l) n.cut ∙ sym (append_assoc ds.0 n.more x.1) })
    (λ f h. map_front (λ a g. of_word g) (word_at_is t h)))
