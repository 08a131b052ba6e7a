-- Texts whose parentheses match and whose string literals are closed, and how deep they go.
use Rattle.std.proofs.Common.{◌≡◌, ℕ, suc, ◌+◌, ◌<◌, ◌≤◌, ◌==◌, nat_le, Bool, true, false, not, cond, ◌&&◌, List, [], ◌∷◌, ◌++◌, length, take, drop, get_or, IsUtf8, refl, sym, ap, subst, ◌∙◌, append_assoc, append-nil, arith, eqb-true}
use Rattle.std.specs.Prelude.{count_by}
use Rattle.std.specs.List.{list_all}
use Rattle.std.proofs.lemmas.Bool.{leb-true, and_from, not-true, and_parts}
use Rattle.std.proofs.lemmas.List.{length-append}
use Rattle.std.proofs.lemmas.List.Sums.{sum_by-cons, sum_by-append}
use Rattle.std.proofs.Math.Seq.{take-append_seam}
use Rattle.std.proofs.lemmas.Str.{IsUtf8-append, IsUtf8-take, IsUtf8-drop, IsUtf8-past_char, IsCharBoundary-before_ascii, encode_ascii, IsUtf8-nil, IsUtf8-from_ascii}
use Rattle.std.proofs.lemmas.Str.Ascii.{IsAscii-nil, IsAscii-cons}
use Rattle.apply_ast.specs.Printing.{quoted}
use Rattle.apply_grammar.specs.Limits.{outside, IsShallow}
use Rattle.apply_grammar.proofs.Leaves.{doubled}

-- ---- parentheses outside of string literals

-- the number of opening and of closing parentheses
abbrev pub opens : List ℕ → ℕ
opens t = count_by (λ x. x == 40) (outside false t)

abbrev pub closes : List ℕ → ℕ
closes t = count_by (λ x. x == 41) (outside false t)

-- ---- UTF-8 texts, cut at ASCII bytes

pub peel : (b : ℕ) (r : List ℕ) → b < 128 → IsUtf8 (b ∷ r) → IsUtf8 r
peel b r h u = IsUtf8-past_char (b ∷ r) r b u (ap (λ l. l ++ r) (sym (encode_ascii b h)))

front_of : (l r : List ℕ) → take (length l) (l ++ r) ≡ l
front_of l r = take-append_seam l r

rest_of : (l r : List ℕ) → drop (length l) (l ++ r) ≡ r
rest_of [] r = refl
rest_of (x ∷ l) r = rest_of l r

byte_at : (l : List ℕ) (b : ℕ) (r : List ℕ) → get_or (l ++ b ∷ r) (length l) 0 ≡ b
byte_at [] b r = refl
byte_at (x ∷ l) b r = byte_at l b r

-- before an ASCII byte a text may be cut
pub cut_utf8 : (l : List ℕ) (b : ℕ) (r : List ℕ) → b < 128 → IsUtf8 (l ++ b ∷ r) → IsUtf8 l × IsUtf8 (b ∷ r)
cut_utf8 l b r h u =
    let small : get_or (l ++ b ∷ r) (length l) 0 < 128 = subst (λ x. x < 128) (sym (byte_at l b r)) h in
    let c = IsCharBoundary-before_ascii (l ++ b ∷ r) (length l) (omega (arith, length-append l (b ∷ r))) small in
    (subst (λ x. IsUtf8 x) (front_of l (b ∷ r)) (IsUtf8-take (l ++ b ∷ r) (length l) u c), subst (λ x. IsUtf8 x) (rest_of l (b ∷ r)) (IsUtf8-drop (l ++ b ∷ r) (length l) u c))

one_byte : (b : ℕ) → b < 128 → IsUtf8 (b ∷ [])
one_byte b h = IsUtf8-from_ascii (b ∷ []) (IsAscii-cons b [] h IsAscii-nil)

-- ---- whole texts

pub record Whole (t : List ℕ) : Type 0 where
  -- its string literals are closed
  pub closed : (r : List ℕ) → outside false (t ++ r) ≡ outside false t ++ outside false r
  -- its parentheses match
  pub balanced : opens t ≡ closes t
  -- and it ends between characters
  pub splits : (r : List ℕ) → IsUtf8 (t ++ r) → IsUtf8 t × IsUtf8 r

counts : (p : ℕ → Bool) (a b : List ℕ) → count_by p (a ++ b) ≡ count_by p a + count_by p b
counts p a b = sum_by-append (λ x. cond (p x) 1 0) a b

opens_after : (l r : List ℕ) → Whole l → opens (l ++ r) ≡ opens l + opens r
opens_after l r w = ap (λ x. count_by (λ b. b == 40) x) (w.closed r) ∙ counts (λ b. b == 40) (outside false l) (outside false r)

closes_after : (l r : List ℕ) → Whole l → closes (l ++ r) ≡ closes l + closes r
closes_after l r w = ap (λ x. count_by (λ b. b == 41) x) (w.closed r) ∙ counts (λ b. b == 41) (outside false l) (outside false r)

pub whole_join : (l r : List ℕ) → Whole l → Whole r → Whole (l ++ r)
whole_join l r w v = record {
  closed = λ s.
      ap (outside false) (append_assoc l r s) ∙ w.closed (r ++ s) ∙ ap (λ x. outside false l ++ x) (v.closed s)
      ∙ sym (append_assoc (outside false l) (outside false r) (outside false s)) ∙ ap (λ x. x ++ outside false s) (sym (w.closed r));
  balanced = omega (arith, opens_after l r w, closes_after l r w, w.balanced, v.balanced);
  splits = λ s u.
      let a = w.splits (r ++ s) (subst (λ x. IsUtf8 x) (append_assoc l r s) u) in
      let b = v.splits s a.1 in
      (IsUtf8-append l r a.0 b.0, b.1);
}

-- ---- depth

-- a cut of a text of two parts falls into the first or the second
data Cut (l r a b : List ℕ) : Type 0 where
  in_first : (c : List ℕ) → l ≡ a ++ c → Cut l r a b
  in_second : (c : List ℕ) → a ≡ l ++ c → r ≡ c ++ b → Cut l r a b

cut_of : (l r a b : List ℕ) → l ++ r ≡ a ++ b → Cut l r a b
cut_of [] r a b h = in_second a refl h
cut_of (x ∷ l) r [] b h = in_first (x ∷ l) refl
cut_of (x ∷ l) r (y ∷ a) b h =
    let e : x ≡ y = cc in
    let t : l ++ r ≡ a ++ b = cc in
    elim (cut_of l r a b t) [
      | in_first c i ↦ in_first c (ap (λ z. z ∷ l) e ∙ ap (λ z. y ∷ z) i)
      | in_second c i j ↦ in_second c (ap (λ z. y ∷ z) i ∙ ap (λ z. z ∷ (l ++ c)) (sym e)) j
    ]

-- the front of a text goes no deeper than the text
pub shallow_front : (d : ℕ) (l r : List ℕ) → IsShallow d (l ++ r) → IsShallow d l
shallow_front d l r h a b e = h a (b ++ r) (ap (λ x. x ++ r) e ∙ append_assoc a b r)

-- nor what stands behind a whole text
pub shallow_rest : (d : ℕ) (l r : List ℕ) → Whole l → IsShallow d (l ++ r) → IsShallow d r
shallow_rest d l r w h a b e =
    let k = h (l ++ a) b (ap (λ x. l ++ x) e ∙ sym (append_assoc l a b)) in
    omega (arith, k, opens_after l a w, closes_after l a w, w.balanced)

pub shallow_join : (d : ℕ) (l r : List ℕ) → Whole l → IsShallow d l → IsShallow d r → IsShallow d (l ++ r)
shallow_join d l r w h k a b e =
    elim (cut_of l r a b e) [
      | in_first c i ↦ h a c i
      | in_second c i j ↦
          let g = k c b j in
          subst (λ x. opens x ≤ d + closes x) (sym i) (omega (arith, g, opens_after l c w, closes_after l c w, w.balanced))
    ]

-- ---- texts without quotes and parentheses

-- an ASCII byte that is no quote and no parenthesis
abbrev pub is_plain : ℕ → Bool
is_plain b = nat_le b 127 && not (b == 39) && not (b == 40) && not (b == 41)

record PlainByte (b : ℕ) : Type 0 where
  pub small : b < 128
  pub no_quote : (b == 39) ≡ false
  pub no_open : (b == 40) ≡ false
  pub no_close : (b == 41) ≡ false

plain_byte : (b : ℕ) → is_plain b ≡ true → PlainByte b
plain_byte b h =
    let x = and_parts _ _ h in
    let y = and_parts _ _ x.0 in
    let z = and_parts _ _ y.0 in
    record { small = omega (arith, leb-true b 127 z.0); no_quote = not-true _ z.1; no_open = not-true _ y.1; no_close = not-true _ x.1 }

plain_outside : (t r : List ℕ) → list_all is_plain t ≡ true → outside false (t ++ r) ≡ t ++ outside false r
plain_outside [] r h = refl
plain_outside (b ∷ t) r h =
    let q = and_parts (is_plain b) (list_all is_plain t) h in
    let p = plain_byte b q.0 in
    rw p.no_quote (ap (λ l. b ∷ l) (plain_outside t r q.1))

plain_counts : (t : List ℕ) → list_all is_plain t ≡ true → (count_by (λ x. x == 40) t ≡ 0) × (count_by (λ x. x == 41) t ≡ 0)
plain_counts [] h = (refl, refl)
plain_counts (b ∷ t) h =
    let q = and_parts (is_plain b) (list_all is_plain t) h in
    let p = plain_byte b q.0 in
    let k = plain_counts t q.1 in
    let e = sum_by-cons (λ x. cond (x == 40) 1 0) b t in
    let f = sum_by-cons (λ x. cond (x == 41) 1 0) b t in
    (e ∙ ap (λ c. cond c 1 0 + count_by (λ x. x == 40) t) p.no_open ∙ omega (arith, k.0), f ∙ ap (λ c. cond c 1 0 + count_by (λ x. x == 41) t) p.no_close ∙ omega (arith, k.1))

plain_splits : (t r : List ℕ) → list_all is_plain t ≡ true → IsUtf8 (t ++ r) → IsUtf8 t × IsUtf8 r
plain_splits [] r h u = (IsUtf8-nil, u)
plain_splits (b ∷ t) r h u =
    let q = and_parts (is_plain b) (list_all is_plain t) h in
    let p = plain_byte b q.0 in
    let k = plain_splits t r q.1 (peel b (t ++ r) p.small u) in
    (IsUtf8-append (b ∷ []) t (one_byte b p.small) k.0, k.1)

plain_is : (t : List ℕ) → list_all is_plain t ≡ true → outside false t ≡ t
plain_is t h = ap (outside false) (sym (append-nil t)) ∙ plain_outside t [] h ∙ append-nil t

pub plain_whole : (t : List ℕ) → list_all is_plain t ≡ true → Whole t
plain_whole t h =
    let k = plain_counts t h in
    record {
      closed = λ r. plain_outside t r h ∙ ap (λ l. l ++ outside false r) (sym (plain_is t h));
      balanced = ap (λ l. count_by (λ x. x == 40) l) (plain_is t h) ∙ k.0 ∙ sym (ap (λ l. count_by (λ x. x == 41) l) (plain_is t h) ∙ k.1);
      splits = λ r u. plain_splits t r h u;
    }

list_all_front : (p : ℕ → Bool) (a b : List ℕ) → list_all p (a ++ b) ≡ true → list_all p a ≡ true
list_all_front p [] b h = refl
list_all_front p (x ∷ a) b h = let q = and_parts (p x) (list_all p (a ++ b)) h in and_from (p x) (list_all p a) q.0 (list_all_front p a b q.1)

pub plain_shallow : (d : ℕ) (t : List ℕ) → list_all is_plain t ≡ true → IsShallow d t
plain_shallow d t h a b e =
    let p = list_all_front is_plain a b (subst (λ l. list_all is_plain l ≡ true) e h) in
    let k = plain_counts a p in
    omega (arith, ap (λ l. count_by (λ x. x == 40) l) (plain_is a p), k.0)

-- ---- parentheses

opens_open : (r : List ℕ) → opens (40 ∷ r) ≡ suc (opens r)
opens_open r = sum_by-cons (λ x. cond (x == 40) 1 0) 40 (outside false r) ∙ omega arith

closes_open : (r : List ℕ) → closes (40 ∷ r) ≡ closes r
closes_open r = sum_by-cons (λ x. cond (x == 41) 1 0) 40 (outside false r) ∙ omega arith

opens_close : (r : List ℕ) → opens (41 ∷ r) ≡ opens r
opens_close r = sum_by-cons (λ x. cond (x == 40) 1 0) 41 (outside false r) ∙ omega arith

closes_close : (r : List ℕ) → closes (41 ∷ r) ≡ suc (closes r)
closes_close r = sum_by-cons (λ x. cond (x == 41) 1 0) 41 (outside false r) ∙ omega arith

none_open : opens [] ≡ 0
none_open = refl

none_closed : closes [] ≡ 0
none_closed = refl

pub wrapped_whole : (m : List ℕ) → Whole m → Whole (40 ∷ (m ++ 41 ∷ []))
wrapped_whole m w = record {
  closed = λ r.
      ap (λ l. 40 ∷ l) (ap (outside false) (append_assoc m (41 ∷ []) r) ∙ w.closed (41 ∷ r) ∙ sym (append_assoc (outside false m) (41 ∷ []) (outside false r)) ∙ ap (λ l. l ++ outside false r) (sym (w.closed (41 ∷ []))));
  balanced = omega (arith, opens_open (m ++ 41 ∷ []), closes_open (m ++ 41 ∷ []), opens_after m (41 ∷ []) w, closes_after m (41 ∷ []) w, opens_close [], closes_close [], none_open, none_closed, w.balanced);
  splits = λ r u.
      let a = w.splits (41 ∷ r) (subst (λ x. IsUtf8 x) (append_assoc m (41 ∷ []) r) (peel 40 ((m ++ 41 ∷ []) ++ r) (omega arith) u)) in
      (IsUtf8-append (40 ∷ []) (m ++ 41 ∷ []) (one_byte 40 (omega arith)) (IsUtf8-append m (41 ∷ []) a.0 (one_byte 41 (omega arith))), peel 41 r (omega arith) a.1);
}

-- one parenthesis more may be open outside than inside
pub wrapped_shallow : (d : ℕ) (m : List ℕ) → Whole m → IsShallow d m → IsShallow (suc d) (40 ∷ (m ++ 41 ∷ []))
wrapped_shallow d m w h [] b e = omega (arith, none_open)
wrapped_shallow d m w h (x ∷ a) b e =
    let i : x ≡ 40 = cc in
    let j : m ++ 41 ∷ [] ≡ a ++ b = cc in
    subst (λ y. opens (y ∷ a) ≤ suc d + closes (y ∷ a)) (sym i)
    (elim (cut_of m (41 ∷ []) a b j) [
      | in_first c k ↦ let g = h a c k in omega (arith, g, opens_open a, closes_open a)
      | in_second c k l ↦ subst (λ y. opens (40 ∷ y) ≤ suc d + closes (40 ∷ y)) (sym k) (last c b l)
    ])
  where
    last : (c b : List ℕ) → 41 ∷ [] ≡ c ++ b → opens (40 ∷ (m ++ c)) ≤ suc d + closes (40 ∷ (m ++ c))
    last [] b l = omega (arith, opens_open (m ++ []), closes_open (m ++ []), opens_after m [] w, closes_after m [] w, none_open, w.balanced)
    last (y ∷ c) b l =
        let i : 41 ≡ y = cc in
        let j : [] ≡ c ++ b = cc in
        subst (λ y. opens (40 ∷ (m ++ (y ∷ c))) ≤ suc d + closes (40 ∷ (m ++ (y ∷ c)))) i (tail c b j)
      where
        tail : (c b : List ℕ) → [] ≡ c ++ b → opens (40 ∷ (m ++ (41 ∷ c))) ≤ suc d + closes (40 ∷ (m ++ (41 ∷ c)))
        tail [] b j = omega (arith, opens_open (m ++ 41 ∷ []), closes_open (m ++ 41 ∷ []), opens_after m (41 ∷ []) w, closes_after m (41 ∷ []) w, opens_close [], closes_close [], none_open, none_closed, w.balanced)
        tail (z ∷ c) b j = absurd cc

pub inner_shallow : (d : ℕ) (m : List ℕ) → IsShallow (suc d) (40 ∷ (m ++ 41 ∷ [])) → IsShallow d m
inner_shallow d m h a b e =
    let k = h (40 ∷ a) (b ++ 41 ∷ []) (ap (λ l. 40 ∷ (l ++ 41 ∷ [])) e ∙ ap (λ l. 40 ∷ l) (append_assoc a b (41 ∷ []))) in
    omega (arith, k, opens_open a, closes_open a)

pub none_shallow : (m : List ℕ) → IsShallow 0 (40 ∷ m) → ⊥
none_shallow m h =
    let k = h (40 ∷ []) m refl in
    absurd (omega (arith, k, opens_open [], closes_open [], none_open, none_closed))

pub inner_utf8 : (m : List ℕ) → Whole m → IsUtf8 (40 ∷ (m ++ 41 ∷ [])) → IsUtf8 m
inner_utf8 m w u = (w.splits (41 ∷ []) (peel 40 (m ++ 41 ∷ []) (omega arith) u)).0

-- ---- string literals

literal_byte : (b : ℕ) (s r : List ℕ) (c : Bool) → (b == 39) ≡ c → outside true (doubled s ++ 39 ∷ r) ≡ outside false r → outside true (doubled (b ∷ s) ++ 39 ∷ r) ≡ outside false r
literal_byte b s r true e h = rw e h
literal_byte b s r false e h = rw (e, e) h

literal_outside : (s r : List ℕ) → outside true (doubled s ++ 39 ∷ r) ≡ outside false r
literal_outside [] r = refl
literal_outside (b ∷ s) r = literal_byte b s r (b == 39) refl (literal_outside s r)

nothing_left : (a b : List ℕ) → [] ≡ a ++ b → outside false a ≡ []
nothing_left [] b j = refl
nothing_left (z ∷ a) b j = absurd cc

-- what is read so far of the rest of a literal is all inside of it
abbrev Inside : List ℕ → Type 0
Inside s = (a b : List ℕ) → doubled s ++ 39 ∷ [] ≡ a ++ b → outside true a ≡ []

two_quotes : (s : List ℕ) → Inside s → (x : ℕ) (a b : List ℕ) → 39 ∷ (39 ∷ (doubled s ++ 39 ∷ [])) ≡ x ∷ (a ++ b) → outside true (x ∷ a) ≡ []
two_quotes s k x [] b h = let i : 39 ≡ x = cc in subst (λ y. outside true (y ∷ []) ≡ []) i refl
two_quotes s k x (z ∷ a) b h =
    let i : 39 ≡ x = cc in
    let l : 39 ≡ z = cc in
    let j : doubled s ++ 39 ∷ [] ≡ a ++ b = cc in
    subst (λ y. outside true (y ∷ (z ∷ a)) ≡ []) i (subst (λ y. outside false (y ∷ a) ≡ []) l (k a b j))

one_character : (c : ℕ) (s : List ℕ) → Inside s → (c == 39) ≡ false → (x : ℕ) (a b : List ℕ) → c ∷ (doubled s ++ 39 ∷ []) ≡ x ∷ (a ++ b) → outside true (x ∷ a) ≡ []
one_character c s k e x a b h =
    let i : c ≡ x = cc in
    let j : doubled s ++ 39 ∷ [] ≡ a ++ b = cc in
    subst (λ y. outside true (y ∷ a) ≡ []) i (rw e (k a b j))

literal_more : (c : ℕ) (s : List ℕ) → Inside s → (x : ℕ) (a b : List ℕ) (d : Bool) → (c == 39) ≡ d → doubled (c ∷ s) ++ 39 ∷ [] ≡ x ∷ (a ++ b) → outside true (x ∷ a) ≡ []
literal_more c s k x a b true e h = two_quotes s k x a b (sym (ap (λ (k : Bool). (cond k (39 ∷ (39 ∷ [])) (c ∷ []) ++ doubled s) ++ 39 ∷ []) e) ∙ h)
literal_more c s k x a b false e h = one_character c s k e x a b (sym (ap (λ (k : Bool). (cond k (39 ∷ (39 ∷ [])) (c ∷ []) ++ doubled s) ++ 39 ∷ []) e) ∙ h)

literal_prefix : (s a b : List ℕ) → doubled s ++ 39 ∷ [] ≡ a ++ b → outside true a ≡ []
literal_prefix s [] b h = refl
literal_prefix [] (x ∷ a) b h =
    let i : 39 ≡ x = cc in
    let j : [] ≡ a ++ b = cc in
    subst (λ y. outside true (y ∷ a) ≡ []) i (nothing_left a b j)
literal_prefix (c ∷ s) (x ∷ a) b h = literal_more c s (λ a b h. literal_prefix s a b h) x a b (c == 39) refl h

-- what is quoted is text where its literal is
undoubled_byte : (p : List ℕ) (b : ℕ) (s : List ℕ) → ((p : List ℕ) → IsUtf8 (p ++ doubled s) → IsUtf8 (p ++ s)) → (c : Bool) → (b == 39) ≡ c → IsUtf8 (p ++ doubled (b ∷ s)) → IsUtf8 (p ++ (b ∷ s))
undoubled_byte p b s k true e u =
    let i : b ≡ 39 = eqb-true b 39 e in
    let v : IsUtf8 (p ++ (39 ∷ (39 ∷ doubled s))) = subst (λ (k : Bool). IsUtf8 (p ++ (cond k (39 ∷ (39 ∷ [])) (b ∷ []) ++ doubled s))) e u in
    let w = cut_utf8 p 39 (39 ∷ doubled s) (omega arith) v in
    let x = k [] (peel 39 (doubled s) (omega arith) (peel 39 (39 ∷ doubled s) (omega arith) w.1)) in
    subst (λ y. IsUtf8 (p ++ (y ∷ s))) (sym i) (IsUtf8-append p (39 ∷ s) w.0 (IsUtf8-append (39 ∷ []) s (one_byte 39 (omega arith)) x))
undoubled_byte p b s k false e u =
    let v : IsUtf8 (p ++ (b ∷ doubled s)) = subst (λ (k : Bool). IsUtf8 (p ++ (cond k (39 ∷ (39 ∷ [])) (b ∷ []) ++ doubled s))) e u in
    subst (λ x. IsUtf8 x) (append_assoc p (b ∷ []) s) (k (p ++ b ∷ []) (subst (λ x. IsUtf8 x) (sym (append_assoc p (b ∷ []) (doubled s))) v))

pub undoubled : (p s : List ℕ) → IsUtf8 (p ++ doubled s) → IsUtf8 (p ++ s)
undoubled p [] u = u
undoubled p (b ∷ s) u = undoubled_byte p b s (λ p u. undoubled p s u) (b == 39) refl u

quoted_utf8 : (s r : List ℕ) → IsUtf8 (39 ∷ (doubled s ++ 39 ∷ r)) → IsUtf8 (doubled s) × IsUtf8 (39 ∷ r)
quoted_utf8 s r u = cut_utf8 (doubled s) 39 r (omega arith) (peel 39 (doubled s ++ 39 ∷ r) (omega arith) u)

pub quoted_text : (s : List ℕ) → IsUtf8 (quoted s) → IsUtf8 s
quoted_text s u = undoubled [] s (quoted_utf8 s [] u).0

pub quoted_whole : (s : List ℕ) → Whole (quoted s)
quoted_whole s = record {
  closed = λ r. ap (outside true) (append_assoc (doubled s) (39 ∷ []) r) ∙ literal_outside s r ∙ ap (λ l. l ++ outside false r) (sym (literal_outside s []));
  balanced = ap (λ l. count_by (λ x. x == 40) l) (literal_outside s []) ∙ sym (ap (λ l. count_by (λ x. x == 41) l) (literal_outside s []));
  splits = λ r u.
      let v = quoted_utf8 s r (subst (λ x. IsUtf8 (39 ∷ x)) (append_assoc (doubled s) (39 ∷ []) r) u) in
      (IsUtf8-append (39 ∷ []) (doubled s ++ 39 ∷ []) (one_byte 39 (omega arith)) (IsUtf8-append (doubled s) (39 ∷ []) v.0 (one_byte 39 (omega arith))), peel 39 r (omega arith) v.1);
}

pub quoted_shallow : (d : ℕ) (s : List ℕ) → IsShallow d (quoted s)
quoted_shallow d s [] b e = omega (arith, none_open)
quoted_shallow d s (x ∷ a) b e =
    let i : 39 ≡ x = cc in
    let j : doubled s ++ 39 ∷ [] ≡ a ++ b = cc in
    let k : outside false (x ∷ a) ≡ [] = subst (λ y. outside false (y ∷ a) ≡ []) i (literal_prefix s a b j) in
    omega (arith, ap (λ l. count_by (λ x. x == 40) l) k)
