-- The texts that reading goes down into are those of the grammar that keep the limit on open parentheses: for each form, both ways.
use Rattle.std.proofs.Common.{◌≡◌, ℕ, zero, suc, ◌<◌, ◌≤◌, nat_le, ◌==◌, Bool, true, false, ◌||◌, List, [], ◌∷◌, ◌++◌, IsUtf8, refl, sym, ap, subst, ◌∙◌, append_assoc, arith, inl, inr, pos, negsuc, ℤ}
use Rattle.std.specs.Prelude.{codes, if◌then◌else◌}
use Rattle.std.specs.List.{list_all}
use Rattle.std.specs.Str.Parse.{digits_value, AllDigits}
use Rattle.std.specs.Char.{is_ascii_digit, digit_value}
use Rattle.std.specs.Int.{is_in_range}
use Rattle.std.proofs.lemmas.Bool.{leb-true, le-leb, and_from, or_cases, and_parts}
use Rattle.std.proofs.lemmas.Str.{is_utf8-from_IsUtf8}
use Rattle.edm_values.specs.Names.{Name, Path, goes_on_name}
use Rattle.edm_values.specs.Values.{integer_max}
use Rattle.apply_ast.specs.declared.expressions.UnOp.{UnOp}
use Rattle.apply_ast.specs.declared.expressions.BinOp.{BinOp}
use Rattle.apply_ast.specs.declared.expressions.Fun1.{Fun1}
use Rattle.apply_ast.specs.declared.expressions.Fun2.{Fun2}
use Rattle.apply_ast.specs.Trees.{Expr}
use Rattle.apply_ast.specs.Printing.{binop_word, binop_level, level, quoted, fun1_word, fun2_word}
use Rattle.apply_ast.specs.Grammar as grammar
use Rattle.apply_ast.specs.Grammar.{Language, word, ◌·◌, given, nothing, is_blank, bws, rws, comma, in_parentheses, listed, name_text, path_text, sign_text}
use Rattle.apply_grammar.specs.Limits.{IsShallow, operations, is_small, Bounds}
use Rattle.apply_grammar.specs.Reading.{is_literal}
use Rattle.apply_grammar.proofs.Nested as nested
use Rattle.apply_grammar.proofs.Nested.{inside, SmallExpr}
use Rattle.apply_grammar.proofs.Leaves.{name_parts, all_digits}
use Rattle.std.proofs.lemmas.Str.Parse.{digit_at}
use Rattle.std.proofs.Math.Dec.{leb-zero}
use Rattle.std.specs.Str.{is_utf8}
use Rattle.std.proofs.Common.{eqb-true, ne_eqb}
use Rattle.edm_values.specs.Parts.{scale_max, mantissa_max}
use Rattle.apply_ast.specs.Grammar.{bare as bare_text}
use Rattle.apply_grammar.proofs.Nested.{bare as nested_bare, Digits, IntText, DecText, Wide, DateText}
use Rattle.apply_grammar.proofs.Balance.{Whole, whole_join, shallow_front, shallow_rest, shallow_join, is_plain, plain_whole, plain_shallow, wrapped_whole, wrapped_shallow, inner_shallow, none_shallow, inner_utf8, quoted_text, quoted_whole, quoted_shallow}

-- the text is of characters, where it must be
abbrev pub InCharacters : Bounds → List ℕ → Type 0
InCharacters limits t = limits.any_bytes ≡ false → IsUtf8 t

literal_is : (limits : Bounds) (s : List ℕ) → InCharacters limits s → is_literal limits s ≡ true
literal_is limits s u = by limits.any_bytes refl
  where
    by : (b : Bool) → limits.any_bytes ≡ b → (limits.any_bytes || is_utf8 s) ≡ true
    by true e = rw e refl
    by false e = rw e (is_utf8-from_IsUtf8 s (u e))

-- a language of the grammar, and the same by depth: the texts of the one that go no deeper than d are those of the other at d. P is a
-- limit that the second has beside
pub record Tied (limits : Bounds) (P : Type 0) (A : Language) (L : ℕ → Language) : Type 0 where
  pub forget : (d : ℕ) (t : List ℕ) → L d t → A t
  pub shallow : (d : ℕ) (t : List ℕ) → L d t → IsShallow d t
  pub limit : (d : ℕ) (t : List ℕ) → L d t → P
  pub whole : (t : List ℕ) → A t → Whole t
  pub deep : P → (d : ℕ) (t : List ℕ) → A t → IsShallow d t → InCharacters limits t → L d t

-- the limit, said otherwise
pub limited : (limits : Bounds) {P Q : Type 0} {A : Language} {L : ℕ → Language} → (P → Q) → (Q → P) → Tied limits P A L → Tied limits Q A L
limited limits f g x = record { forget = x.forget; shallow = x.shallow; limit = λ d t h. f (x.limit d t h); whole = x.whole; deep = λ q d t h s u. x.deep (g q) d t h s u }

-- each text of the language is of plain bytes
abbrev pub Flat : Language → Type 0
Flat A = (t : List ℕ) → A t → list_all is_plain t ≡ true

pub flat : (limits : Bounds) {A : Language} → Flat A → Tied limits (Unit {0}) A (λ d. A)
flat limits f = record { forget = λ d t h. h; shallow = λ d t h. plain_shallow d t (f t h); limit = λ d t h. tt; whole = λ t h. plain_whole t (f t h); deep = λ p d t h s u. h }

-- the same language under another name
pub renamed : (limits : Bounds) {P : Type 0} {A B : Language} {L M : ℕ → Language} → ((t : List ℕ) → A t → B t) → ((t : List ℕ) → B t → A t) → ((d : ℕ) (t : List ℕ) → L d t → M d t) → ((d : ℕ) (t : List ℕ) → M d t → L d t) → Tied limits P A L → Tied limits P B M
renamed limits f g k l x = record {
  forget = λ d t h. f t (x.forget d t (l d t h));
  shallow = λ d t h. x.shallow d t (l d t h);
  limit = λ d t h. x.limit d t (l d t h);
  whole = λ t h. x.whole t (g t h);
  deep = λ p d t h s u. k d t (x.deep p d t (g t h) s u);
}

pub joined : (limits : Bounds) {P Q : Type 0} {A B : Language} {L M : ℕ → Language} → Tied limits P A L → Tied limits Q B M → Tied limits (P × Q) (A · B) (λ d. L d · M d)
joined limits {P} {Q} {A} {B} {L} {M} x y = record {
  forget = λ d t h. record { left = h.left; right = h.right; first = x.forget d h.left h.first; second = y.forget d h.right h.second; cut = h.cut };
  shallow = λ d t h. subst (IsShallow d) (sym h.cut) (shallow_join d h.left h.right (x.whole h.left (x.forget d h.left h.first)) (x.shallow d h.left h.first) (y.shallow d h.right h.second));
  limit = λ d t h. (x.limit d h.left h.first, y.limit d h.right h.second);
  whole = λ t h. subst Whole (sym h.cut) (whole_join h.left h.right (x.whole h.left h.first) (y.whole h.right h.second));
  deep = λ p d t h s u.
      let w = x.whole h.left h.first in
      let v : (limits.any_bytes ≡ false) → IsUtf8 h.left × IsUtf8 h.right = λ e. w.splits h.right (subst (λ l. IsUtf8 l) h.cut (u e)) in
      let i : IsShallow d (h.left ++ h.right) = subst (IsShallow d) h.cut s in
      record { left = h.left; right = h.right; first = x.deep p.0 d h.left h.first (shallow_front d h.left h.right i) (λ e. (v e).0); second = y.deep p.1 d h.right h.second (shallow_rest d h.left h.right w i) (λ e. (v e).1); cut = h.cut };
}

-- with a part of plain bytes before or behind
pub flat_then : (limits : Bounds) {P : Type 0} {A B : Language} {M : ℕ → Language} → Flat A → Tied limits P B M → Tied limits P (A · B) (λ d. A · M d)
flat_then limits f y = limited limits (λ p. p.1) (λ p. (tt, p)) (joined limits (flat limits f) y)

pub then_flat : (limits : Bounds) {P : Type 0} {A B : Language} {L : ℕ → Language} → Tied limits P A L → Flat B → Tied limits P (A · B) (λ d. L d · B)
then_flat limits x f = limited limits (λ p. p.0) (λ p. (p, tt)) (joined limits x (flat limits f))

pub flat_join : {A B : Language} → Flat A → Flat B → Flat (A · B)
flat_join f g t h = subst (λ l. list_all is_plain l ≡ true) (sym h.cut) (plain_append h.left h.right (f h.left h.first) (g h.right h.second))
  where
    plain_append : (a b : List ℕ) → list_all is_plain a ≡ true → list_all is_plain b ≡ true → list_all is_plain (a ++ b) ≡ true
    plain_append [] b h k = k
    plain_append (x ∷ a) b h k = let q = and_parts (is_plain x) (list_all is_plain a) h in and_from (is_plain x) (list_all is_plain (a ++ b)) q.0 (plain_append a b q.1 k)

pub flat_word : (w : List ℕ) → list_all is_plain w ≡ true → Flat (word w)
flat_word w h t e = subst (λ l. list_all is_plain l ≡ true) (sym e) h

pub no_text : (limits : Bounds) {P : Type 0} → P → Tied limits P nothing (λ d. nothing)
no_text limits p = record { forget = λ d t h. h; shallow = λ d t h. absurd h; limit = λ d t h. p; whole = λ t h. absurd h; deep = λ p d t h s u. h }

pub if_given : (limits : Bounds) {P : Type 0} {A : Language} {L : ℕ → Language} (b : Bool) → Tied limits P A L → Tied limits P (given b A) (λ d. given b (L d))
if_given limits b x = record {
  forget = λ d t h. (h.0, x.forget d t h.1);
  shallow = λ d t h. x.shallow d t h.1;
  limit = λ d t h. x.limit d t h.1;
  whole = λ t h. x.whole t h.1;
  deep = λ p d t h s u. (h.0, x.deep p d t h.1 s u);
}

-- ---- plain bytes

blank_plain : (b : ℕ) → is_blank b ≡ true → is_plain b ≡ true
blank_plain b h = elim (or_cases (b == 32) (b == 9) h) [ inl e ↦ ap is_plain (eqb-true b 32 e) | inr e ↦ ap is_plain (eqb-true b 9 e) ]

each_plain : (p : ℕ → Bool) → ((b : ℕ) → p b ≡ true → is_plain b ≡ true) → (t : List ℕ) → list_all p t ≡ true → list_all is_plain t ≡ true
each_plain p f [] h = refl
each_plain p f (b ∷ t) h = let q = and_parts (p b) (list_all p t) h in and_from (is_plain b) (list_all is_plain t) (f b q.0) (each_plain p f t q.1)

pub flat_bws : Flat bws
flat_bws t h = each_plain is_blank blank_plain t h

pub flat_rws : Flat rws
flat_rws t h = each_plain is_blank blank_plain t h.0

pub flat_comma : Flat comma
flat_comma = flat_join flat_bws (flat_join (flat_word (codes ",") refl) flat_bws)

above_plain : (b : ℕ) → 42 ≤ b → b ≤ 127 → is_plain b ≡ true
above_plain b l u = rw (le-leb b 127 u, ne_eqb b 39 (λ e. absurd (omega arith)), ne_eqb b 40 (λ e. absurd (omega arith)), ne_eqb b 41 (λ e. absurd (omega arith))) refl

range_plain : (lo hi b : ℕ) → 42 ≤ lo → hi ≤ 127 → is_in_range lo hi b ≡ true → is_plain b ≡ true
range_plain lo hi b l u h = let q = and_parts (nat_le lo b) (nat_le b hi) h in above_plain b (omega (arith, leb-true lo b q.0)) (omega (arith, leb-true b hi q.1))

letter_plain : (b : ℕ) → goes_on_name b ≡ true → is_plain b ≡ true
letter_plain b h =
    elim (or_cases _ (b == 95) h) [
      | inl g ↦ elim (or_cases _ (is_in_range 97 122 b) g) [
        | inl k ↦ elim (or_cases (is_in_range 48 57 b) (is_in_range 65 90 b) k) [
          | inl e ↦ range_plain 48 57 b (omega arith) (omega arith) e
          | inr e ↦ range_plain 65 90 b (omega arith) (omega arith) e
        ]
        | inr k ↦ range_plain 97 122 b (omega arith) (omega arith) k
      ]
      | inr g ↦ ap is_plain (eqb-true b 95 g)
    ]

digits_plain : (t : List ℕ) → list_all is_ascii_digit t ≡ true → list_all is_plain t ≡ true
digits_plain t h = each_plain is_ascii_digit (λ b e. range_plain 48 57 b (omega arith) (omega arith) e) t h

pub flat_name : (n : Name) → Flat (name_text n)
flat_name n t h = subst (λ l. list_all is_plain l ≡ true) (sym h.1) (each_plain goes_on_name letter_plain n (let p = name_parts n h.0 in p.passes))

pub flat_listed : {X : Type 0} {S : Language} {L : X → Language} → Flat S → ((x : X) → Flat (L x)) → (xs : List X) → Flat (listed S L xs)
flat_listed f g [] t h = absurd h
flat_listed f g (x ∷ []) t h = g x t h
flat_listed {S = S} {L = L} f g (x ∷ (y ∷ xs)) t h = flat_join (g x) (flat_join f (flat_listed f g (y ∷ xs))) t h

pub flat_path : (p : Path) → Flat (path_text p)
flat_path p = flat_listed (flat_word (codes "/") refl) flat_name p

-- ---- numbers

digit_back : (b : ℕ) → digit_value b < 10 → is_ascii_digit b ≡ true
digit_back b h = let r = digit_at (b ∷ []) 0 (h, tt) (omega arith) in and_from (nat_le 48 b) (nat_le b 57) (le-leb 48 b r.0) (le-leb b 57 r.1)

ascii_digits : (t : List ℕ) → AllDigits 10 t → list_all is_ascii_digit t ≡ true
ascii_digits [] h = refl
ascii_digits (b ∷ t) h = and_from (is_ascii_digit b) (list_all is_ascii_digit t) (digit_back b h.0) (ascii_digits t h.1)

-- a number within bounds, both ways
pub digits_to : (most n : ℕ) (t : List ℕ) → Digits most n t → grammar.number_text 0 most n t
digits_to most n t h = (and_from (nat_le 0 n) (nat_le n most) (leb-zero n) h.small, ((h.some, all_digits t h.digits), h.value))

pub digits_from : (most n : ℕ) (t : List ℕ) → grammar.number_text 0 most n t → Digits most n t
digits_from most n t h =
    let q = and_parts (nat_le 0 n) (nat_le n most) h.0 in
    let d = h.1 in
    let e = d.0 in
    record { some = e.0; digits = ascii_digits t e.1; value = d.1; small = q.1 }

pub flat_digits : (most n : ℕ) → Flat (Digits most n)
flat_digits most n t h = digits_plain t h.digits

-- a language of plain bytes that has two forms
pub both_flat : (limits : Bounds) {A B : Language} → ((t : List ℕ) → B t → A t) → ((t : List ℕ) → A t → B t) → Flat B → Tied limits (Unit {0}) A (λ d. B)
both_flat limits {A} {B} f g h = renamed limits {A = B} {B = A} {L = λ d. B} {M = λ d. B} f g (λ d t k. k) (λ d t k. k) (flat limits h)

pub int_to : (z : ℤ) (t : List ℕ) → IntText z t → grammar.int_text z t
int_to (pos n) t h = (n, refl, digits_to integer_max n t h)
int_to (negsuc n) t h = absurd h

pub int_from : (z : ℤ) (t : List ℕ) → grammar.int_text z t → IntText z t
int_from (pos n) t h = let e : h.0 ≡ n = cc in subst (λ k. Digits integer_max k t) e (digits_from integer_max h.0 t h.2)
int_from (negsuc n) t h = absurd (let e = h.1 in cc)

pub flat_int : (z : ℤ) → Flat (IntText z)
flat_int (pos n) t h = digits_plain t h.digits
flat_int (negsuc n) t h = absurd h

plain_three : (a b : List ℕ) (c : ℕ) → list_all is_plain a ≡ true → is_plain c ≡ true → list_all is_plain b ≡ true → list_all is_plain (a ++ c ∷ b) ≡ true
plain_three a b c h k l = flat_join (flat_word a h) (flat_word (c ∷ b) (and_from (is_plain c) (list_all is_plain b) k l)) (a ++ c ∷ b) (record { left = a; right = c ∷ b; first = refl; second = refl; cut = refl })

pub dec_to : (m : ℤ) (s : ℕ) (t : List ℕ) → DecText m s t → grammar.dec_text m s t
dec_to (pos m) s t h = (
  h.whole,
  h.fraction,
  h.cut,
  (h.some, all_digits h.whole h.digits),
  (h.some_behind, all_digits h.fraction h.digits_behind),
  h.scale,
  and_from (nat_le s scale_max) (nat_le (digits_value 10 (h.whole ++ h.fraction)) mantissa_max) h.most (subst (λ k. nat_le k mantissa_max ≡ true) (sym h.value) h.small),
  ap (λ (k : ℕ). pos k) (sym h.value),
)
dec_to (negsuc m) s t h = absurd h

pub dec_from : (m : ℤ) (s : ℕ) (t : List ℕ) → grammar.dec_text m s t → DecText m s t
dec_from (pos m) s t h =
    let a = h.3 in
    let b = h.4 in
    let q = and_parts (nat_le s scale_max) (nat_le (digits_value 10 (h.0 ++ h.1)) mantissa_max) h.6 in
    let v : digits_value 10 (h.0 ++ h.1) ≡ m = let e = h.7 in cc in
    record {
      whole = h.0;
      fraction = h.1;
      cut = h.2;
      some = a.0;
      digits = ascii_digits h.0 a.1;
      some_behind = b.0;
      digits_behind = ascii_digits h.1 b.1;
      scale = h.5;
      most = q.0;
      value = v;
      small = subst (λ k. nat_le k mantissa_max ≡ true) v q.1;
    }
dec_from (negsuc m) s t h = absurd (let e = h.7 in cc)

pub flat_dec : (m : ℤ) (s : ℕ) → Flat (DecText m s)
flat_dec (pos m) s t h = subst (λ l. list_all is_plain l ≡ true) (sym h.cut) (plain_three h.whole h.fraction 46 (digits_plain h.whole h.digits) refl (digits_plain h.fraction h.digits_behind))
flat_dec (negsuc m) s t h = absurd h

wide_to : (k n : ℕ) (t : List ℕ) → 0 < k → Wide k n t → grammar.digits_of_width k n t
wide_to k n t z h = (((omega (arith, h.wide), all_digits t h.digits), h.value), h.wide)

wide_from : (k n : ℕ) (t : List ℕ) → grammar.digits_of_width k n t → Wide k n t
wide_from k n t h = let d = h.0 in let e = d.0 in record { wide = h.1; digits = ascii_digits t e.1; value = d.1 }

date_to : (y m d : ℕ) (t : List ℕ) → DateText y m d t → grammar.date_text y m d t
date_to y m d t h = (
  h.is_date,
  record {
    left = h.year;
    right = 45 ∷ (h.month ++ 45 ∷ h.day);
    first = wide_to 4 y h.year (omega arith) h.of_year;
    second = record {
      left = codes "-";
      right = h.month ++ 45 ∷ h.day;
      first = refl;
      second = record {
        left = h.month;
        right = 45 ∷ h.day;
        first = wide_to 2 m h.month (omega arith) h.of_month;
        second = record { left = codes "-"; right = h.day; first = refl; second = wide_to 2 d h.day (omega arith) h.of_day; cut = refl };
        cut = refl;
      };
      cut = refl;
    };
    cut = h.cut;
  },
)

date_from : (y m d : ℕ) (t : List ℕ) → grammar.date_text y m d t → DateText y m d t
date_from y m d t h =
    let a = h.1 in
    let b = a.second in
    let c = b.second in
    let e = c.second in
    record {
      year = a.left;
      month = c.left;
      day = e.right;
      cut = a.cut ∙ ap (λ l. a.left ++ l) (b.cut ∙ ap (λ l. l ++ b.right) b.first ∙ ap (λ l. 45 ∷ l) (c.cut ∙ ap (λ l. c.left ++ l) (e.cut ∙ ap (λ l. l ++ e.right) e.first)));
      of_year = wide_from 4 y a.left a.first;
      of_month = wide_from 2 m c.left c.first;
      of_day = wide_from 2 d e.right e.second;
      is_date = h.0;
    }

flat_date : (y m d : ℕ) → Flat (DateText y m d)
flat_date y m d t h =
    let a = h.of_year in
    let b = h.of_month in
    let c = h.of_day in
    subst (λ l. list_all is_plain l ≡ true) (sym h.cut) (plain_three h.year (h.month ++ 45 ∷ h.day) 45 (digits_plain h.year a.digits) refl (plain_three h.month h.day 45 (digits_plain h.month b.digits) refl (digits_plain h.day c.digits)))

-- ---- parentheses

-- what stands between the parentheses, blanks included
paren_cut : (A : Language) (t : List ℕ) (h : in_parentheses A t) → t ≡ 40 ∷ ((h.first.right ++ (h.second.left ++ h.second.second.left)) ++ 41 ∷ [])
paren_cut A t h =
    let o = h.first in
    let b = h.second in
    let c = b.second in
    h.cut ∙ ap (λ l. l ++ h.right) (o.cut ∙ ap (λ l. l ++ o.right) o.first) ∙ ap (λ l. 40 ∷ (o.right ++ l)) (b.cut ∙ ap (λ l. b.left ++ l) (c.cut ∙ ap (λ l. c.left ++ l) c.second)) ∙ ap (λ l. 40 ∷ l) (simp append_assoc)

middle_whole : (b a e : List ℕ) → bws b → Whole a → bws e → Whole (b ++ (a ++ e))
middle_whole b a e h w k = whole_join b (a ++ e) (plain_whole b (flat_bws b h)) (whole_join a e w (plain_whole e (flat_bws e k)))

pub parentheses : (limits : Bounds) {P : Type 0} {A : Language} {L : ℕ → Language} → Tied limits P A L → Tied limits P (in_parentheses A) (λ d. inside d L)
parentheses limits {P} {A} {L} x = record {
  forget = forget;
  shallow = shallow;
  limit = limit;
  whole = λ t h. subst Whole (sym (paren_cut A t h)) (wrapped_whole _ (middle A (λ t g. x.whole t g) t h));
  deep = deep;
}
  where
    middle : (B : Language) → ((t : List ℕ) → B t → Whole t) → (t : List ℕ) (h : in_parentheses B t) → Whole (h.first.right ++ (h.second.left ++ h.second.second.left))
    middle B w t h = let o = h.first in let b = h.second in let c = b.second in middle_whole o.right b.left c.left o.second (w b.left b.first) c.first

    forget : (d : ℕ) (t : List ℕ) → inside d L t → in_parentheses A t
    forget zero t h = absurd h
    forget (suc d) t h = let b = h.second in record { left = h.left; right = h.right; first = h.first; second = record { left = b.left; right = b.right; first = x.forget d b.left b.first; second = b.second; cut = b.cut }; cut = h.cut }

    limit : (d : ℕ) (t : List ℕ) → inside d L t → P
    limit zero t h = absurd h
    limit (suc d) t h = let b = h.second in x.limit d b.left b.first

    shallow : (d : ℕ) (t : List ℕ) → inside d L t → IsShallow d t
    shallow zero t h = absurd h
    shallow (suc d) t h =
        let o = h.first in
        let b = h.second in
        let c = b.second in
        let w = x.whole b.left (x.forget d b.left b.first) in
        subst (IsShallow (suc d)) (sym (paren_cut (L d) t h))
        (wrapped_shallow d _ (middle (L d) (λ t g. x.whole t (x.forget d t g)) t h)
        (shallow_join d o.right (b.left ++ c.left) (plain_whole o.right (flat_bws o.right o.second)) (plain_shallow d o.right (flat_bws o.right o.second))
        (shallow_join d b.left c.left w (x.shallow d b.left b.first) (plain_shallow d c.left (flat_bws c.left c.first)))))

    deep : P → (d : ℕ) (t : List ℕ) → in_parentheses A t → IsShallow d t → InCharacters limits t → inside d L t
    deep p zero t h s u = absurd (none_shallow _ (subst (IsShallow 0) (paren_cut A t h) s))
    deep p (suc d) t h s u =
        let o = h.first in
        let b = h.second in
        let c = b.second in
        let w = x.whole b.left b.first in
        let v = plain_whole o.right (flat_bws o.right o.second) in
        let i = inner_shallow d _ (subst (IsShallow (suc d)) (paren_cut A t h) s) in
        let j = shallow_front d b.left c.left (shallow_rest d o.right (b.left ++ c.left) v i) in
        let m : InCharacters limits b.left = λ e.
        let k = inner_utf8 _ (middle A (λ t g. x.whole t g) t h) (subst (λ l. IsUtf8 l) (paren_cut A t h) (u e)) in
        let l = v.splits (b.left ++ c.left) k in
        (w.splits c.left l.1).0 in
        record { left = h.left; right = h.right; first = h.first; second = record { left = b.left; right = b.right; first = x.deep p d b.left b.first j m; second = b.second; cut = b.cut }; cut = h.cut }

-- ---- expressions

pairs_tied : (limits : Bounds) {A : Language} {L : ℕ → Language} → Tied limits (Unit {0}) A L → (k : ℕ) → Tied limits (Unit {0}) (grammar.wrapped k A) (nested.wrapped k L)
pairs_tied limits x zero = x
pairs_tied limits x (suc k) = parentheses limits (pairs_tied limits x k)

pub operand_tied : (limits : Bounds) {A : Language} {L : ℕ → Language} (least own : ℕ) → Tied limits (Unit {0}) A L → Tied limits (Unit {0}) (grammar.Operand least own A) (nested.Operand least own L)
operand_tied limits least own x = record {
  forget = λ d t h. record { pairs = h.pairs; of = (let y = pairs_tied limits x h.pairs in y.forget d t h.of); binds = h.binds };
  shallow = λ d t h. let y = pairs_tied limits x h.pairs in y.shallow d t h.of;
  limit = λ d t h. tt;
  whole = λ t h. let y = pairs_tied limits x h.pairs in y.whole t h.of;
  deep = λ p d t h s u. record { pairs = h.pairs; of = (let y = pairs_tied limits x h.pairs in y.deep tt d t h.of s u); binds = h.binds };
}

two : (limits : Bounds) {A B : Language} {L M : ℕ → Language} → Tied limits (Unit {0}) A L → Tied limits (Unit {0}) B M → Tied limits (Unit {0}) (A · B) (λ d. L d · M d)
two limits x y = limited limits (λ p. tt) (λ p. (tt, tt)) (joined limits x y)

text_tied : (limits : Bounds) (s : List ℕ) → Tied limits (Unit {0}) (word (quoted s)) (λ d. given (is_literal limits s) (word (quoted s)))
text_tied limits s = record {
  forget = λ d t h. h.1;
  shallow = λ d t h. subst (IsShallow d) (sym h.1) (quoted_shallow d s);
  limit = λ d t h. tt;
  whole = λ t h. subst Whole (sym h) (quoted_whole s);
  deep = λ p d t h i u. (literal_is limits s (λ e. quoted_text s (subst (λ l. IsUtf8 l) h (u e))), h);
}

flat_sign : (o : UnOp) → Flat (sign_text o)
flat_sign UnOp.Neg = flat_join (flat_word (codes "-") refl) flat_bws
flat_sign UnOp.Not = flat_join (flat_word (codes "not") refl) flat_rws

flat_binop : (o : BinOp) → Flat (word (binop_word o))
flat_binop BinOp.Or = flat_word (codes "or") refl
flat_binop BinOp.And = flat_word (codes "and") refl
flat_binop BinOp.Eq = flat_word (codes "eq") refl
flat_binop BinOp.Ne = flat_word (codes "ne") refl
flat_binop BinOp.Gt = flat_word (codes "gt") refl
flat_binop BinOp.Ge = flat_word (codes "ge") refl
flat_binop BinOp.Lt = flat_word (codes "lt") refl
flat_binop BinOp.Le = flat_word (codes "le") refl
flat_binop BinOp.Add = flat_word (codes "add") refl
flat_binop BinOp.Sub = flat_word (codes "sub") refl
flat_binop BinOp.Mul = flat_word (codes "mul") refl

flat_fun1 : (f : Fun1) → Flat (word (fun1_word f))
flat_fun1 Fun1.Length = flat_word (codes "length") refl
flat_fun1 Fun1.Year = flat_word (codes "year") refl
flat_fun1 Fun1.Month = flat_word (codes "month") refl
flat_fun1 Fun1.Day = flat_word (codes "day") refl

flat_fun2 : (f : Fun2) → Flat (word (fun2_word f))
flat_fun2 Fun2.StartsWith = flat_word (codes "startswith") refl
flat_fun2 Fun2.EndsWith = flat_word (codes "endswith") refl
flat_fun2 Fun2.Contains = flat_word (codes "contains") refl

flat_bool : (b : Bool) → Flat (word (if b then codes "true" else codes "false"))
flat_bool true = flat_word (codes "true") refl
flat_bool false = flat_word (codes "false") refl

pub bare_tied : (limits : Bounds) (e : Expr) → Tied limits (Unit {0}) (bare_text e) (nested_bare limits e)
unfolding bare_text nested_bare
bare_tied limits Expr.Null = flat limits (flat_word (codes "null") refl)
bare_tied limits (Expr.Bool' b) = flat limits (flat_bool b)
bare_tied limits (Expr.Int z) = both_flat limits (int_to z) (int_from z) (flat_int z)
bare_tied limits (Expr.Dec m s) = both_flat limits (dec_to m s) (dec_from m s) (flat_dec m s)
bare_tied limits (Expr.Text s) = text_tied limits s
bare_tied limits (Expr.Day y m d) = both_flat limits (date_to y m d) (date_from y m d) (flat_date y m d)
bare_tied limits (Expr.Path' p) = flat limits (flat_path p)
bare_tied limits (Expr.Unary o a) = flat_then limits (flat_sign o) (operand_tied limits 7 (level a) (bare_tied limits a))
bare_tied limits (Expr.Binary o a b) = two limits (operand_tied limits (binop_level o) (level a) (bare_tied limits a)) (flat_then limits flat_rws (flat_then limits (flat_binop o) (flat_then limits flat_rws (operand_tied limits (suc (binop_level o)) (level b) (bare_tied limits b)))))
bare_tied limits (Expr.Call1 f a) = flat_then limits (flat_fun1 f) (parentheses limits (operand_tied limits 1 (level a) (bare_tied limits a)))
bare_tied limits (Expr.Call2 f a b) = flat_then limits (flat_fun2 f) (parentheses limits (two limits (operand_tied limits 1 (level a) (bare_tied limits a)) (flat_then limits flat_comma (operand_tied limits 1 (level b) (bare_tied limits b)))))

-- an expression, with the limit on operators and calls
pub small_tied : (limits : Bounds) (e : Expr) → Tied limits (is_small limits.operations e ≡ true) (grammar.expr_text e) (SmallExpr limits e)
small_tied limits e =
    let x = operand_tied limits 1 (level e) (bare_tied limits e) in
    record {
      forget = λ d t h. x.forget d t h.of;
      shallow = λ d t h. x.shallow d t h.of;
      limit = λ d t h. le-leb (operations e) limits.operations h.small;
      whole = x.whole;
      deep = λ p d t h s u. record { of = x.deep tt d t h s u; small = leb-true (operations e) limits.operations p };
    }
