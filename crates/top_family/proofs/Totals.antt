-- The total of numbers of one scale, as the sum of their mantissas, and what is compared with it.
use Rattle.std.proofs.Common.{◌≡◌, ℕ, ◌+◌, ◌^◌, ◌<◌, cond, get_or, length, take, Bool, true, false, List, [], ◌∷◌, ◌++◌, fold, ℤ, pos, ◌+ℤ◌, ◌*ℤ◌, Some, refl, ap, sym, ◌∙◌, subst, arith, eqb-true, inl, inr}
use Rattle.std.specs.Prelude.{int_le, nat_eq, slice_get, find, ◌⊎◌}
use Rattle.std.specs.Option.{option_map, unwrap_or}
use Rattle.std.specs.List.{list_all}
use Rattle.std.specs.Ordering.{int_cmp, is_ge}
use Rattle.std.specs.declared.cmp.Ordering.TheVariants.{Equal}
use Rattle.std.proofs.lemmas.Bool.{true≢false, and_parts}
use Rattle.std.proofs.lemmas.Cmp.{alike_right, tied_itself}
use Rattle.std.proofs.lemmas.List.{map_more}
use Rattle.std.proofs.Math.IntN.{*ℤ-zero, zero-*ℤ}
use Rattle.edm_values.specs.declared.EdmType.{EdmType}
use Rattle.edm_values.specs.declared.Seen.{Seen}
use Rattle.edm_values.specs.declared.Value.{Value}
use Rattle.edm_values.specs.Lists.{at_places}
use Rattle.edm_values.specs.Literals.{AreNumbers, is_number_kind, is_of_kind}
use Rattle.edm_values.specs.OrderLaws.{number_cmp_total, same_scale_cmp}
use Rattle.edm_values.specs.Values.{Number, is_number, number_cmp, number_of, number_part, number_plus, number_times, reaches_percent, reaches_sum, seen_value, total}
use Rattle.edm_values.proofs.ListFacts.{all-at, all-each, all-filter_map}
use Rattle.edm_values.proofs.NumberLaws.{number_plus-same, number_plus-zero, plus_nothing}
use Rattle.top_family.proofs.Quotients.{ge_is}
use Rattle.top_family.specs.Selections.{seen_values}
use Rattle.top_family.specs.Thresholds.{is_reached, mantissas, scale_in}

-- ---- values of one scale

-- the value is no number, or one of this scale
abbrev pub at_scale : ℕ → Value → Bool
at_scale s (Value.Int z) = nat_eq 0 s
at_scale s (Value.Dec d) = nat_eq d.scale s
at_scale s _ = true

-- the scale of a type's numbers
abbrev kind_scale : EdmType → ℕ
kind_scale (EdmType.Dec scale precision) = scale
kind_scale _ = 0

kind-at : (kind : EdmType) (v : Value) → is_number_kind kind ≡ true → is_of_kind kind v ≡ true → at_scale (kind_scale kind) v ≡ true
kind-at EdmType.Int (Value.Int z) n h = refl
kind-at EdmType.Int (Value.Dec d) n h = absurd (true≢false (sym h))
kind-at EdmType.Int Value.Null n h = refl
kind-at EdmType.Int (Value.Bool x) n h = refl
kind-at EdmType.Int (Value.Text t) n h = refl
kind-at EdmType.Int (Value.Day d) n h = refl
kind-at EdmType.Int Value.Beyond n h = refl
kind-at (EdmType.Dec s p) (Value.Int z) n h = absurd (true≢false (sym h))
kind-at (EdmType.Dec s p) (Value.Dec d) n h = (and_parts (nat_eq d.scale s) _ h).0
kind-at (EdmType.Dec s p) Value.Null n h = refl
kind-at (EdmType.Dec s p) (Value.Bool x) n h = refl
kind-at (EdmType.Dec s p) (Value.Text t) n h = refl
kind-at (EdmType.Dec s p) (Value.Day d) n h = refl
kind-at (EdmType.Dec s p) Value.Beyond n h = refl
kind-at EdmType.Bool v n h = absurd (true≢false (sym n))
kind-at EdmType.Text v n h = absurd (true≢false (sym n))
kind-at EdmType.Day v n h = absurd (true≢false (sym n))

first-scale : (s : ℕ) (vs : List Value) → list_all (at_scale s) vs ≡ true → list_all (at_scale (scale_in vs)) vs ≡ true
first-scale s [] h = refl
first-scale s (Value.Int z ∷ vs) h = subst (λ t. list_all (at_scale t) (Value.Int z ∷ vs) ≡ true) (sym (eqb-true 0 s (and_parts (nat_eq 0 s) _ h).0)) h
first-scale s (Value.Dec d ∷ vs) h = subst (λ t. list_all (at_scale t) (Value.Dec d ∷ vs) ≡ true) (sym (eqb-true d.scale s (and_parts (nat_eq d.scale s) _ h).0)) h
first-scale s (Value.Null ∷ vs) h = first-scale s vs h
first-scale s (Value.Bool x ∷ vs) h = first-scale s vs h
first-scale s (Value.Text x ∷ vs) h = first-scale s vs h
first-scale s (Value.Day x ∷ vs) h = first-scale s vs h
first-scale s (Value.Beyond ∷ vs) h = first-scale s vs h

-- numbers of one type have the scale of the first
pub numbers-at : (vs : List Value) → AreNumbers vs → list_all (at_scale (scale_in vs)) vs ≡ true
numbers-at vs n = first-scale (kind_scale n.0) vs (all-each (is_of_kind n.0) (at_scale (kind_scale n.0)) vs n.2 (λ v h. kind-at n.0 v n.1 h))

all-at_places : (p : Value → Bool) (vs : List Value) (ks : List ℕ) → list_all p vs ≡ true → list_all p (at_places vs ks) ≡ true
all-at_places p vs ks h = all-filter_map p (slice_get vs) ks (λ k v e. all-at p vs k v h e)

-- ---- totals

-- a number and a value, added
abbrev plus_value : Number → Value → Number
plus_value a v = unwrap_or (option_map (number_plus a) (number_of v)) a

-- a sum of mantissas and that of a value
abbrev plus_mantissa : ℤ → Value → ℤ
plus_mantissa a v = a +ℤ (number_part v).0

fold-at : (vs : List Value) (a : ℤ) (s : ℕ) → list_all (at_scale s) vs ≡ true → fold plus_value (a, s) vs ≡ (fold plus_mantissa a vs, s)
fold-at [] a s h = refl
fold-at (Value.Int z ∷ vs) a s h =
    let t = and_parts (nat_eq 0 s) (list_all (at_scale s) vs) h in
    ap (λ n. fold plus_value n vs) (ap (λ k. number_plus (a, s) (z, k)) (eqb-true 0 s t.0) ∙ number_plus-same a z s) ∙ fold-at vs (a +ℤ z) s t.1
fold-at (Value.Dec d ∷ vs) a s h =
    let t = and_parts (nat_eq d.scale s) (list_all (at_scale s) vs) h in
    ap (λ n. fold plus_value n vs) (ap (λ k. number_plus (a, s) (d.mantissa, k)) (eqb-true d.scale s t.0) ∙ number_plus-same a d.mantissa s) ∙ fold-at vs (a +ℤ d.mantissa) s t.1
fold-at (Value.Null ∷ vs) a s h = fold-at vs a s h ∙ ap (λ b. (fold plus_mantissa b vs, s)) (plus_nothing a)
fold-at (Value.Bool x ∷ vs) a s h = fold-at vs a s h ∙ ap (λ b. (fold plus_mantissa b vs, s)) (plus_nothing a)
fold-at (Value.Text x ∷ vs) a s h = fold-at vs a s h ∙ ap (λ b. (fold plus_mantissa b vs, s)) (plus_nothing a)
fold-at (Value.Day x ∷ vs) a s h = fold-at vs a s h ∙ ap (λ b. (fold plus_mantissa b vs, s)) (plus_nothing a)
fold-at (Value.Beyond ∷ vs) a s h = fold-at vs a s h ∙ ap (λ b. (fold plus_mantissa b vs, s)) (plus_nothing a)

-- the total is the sum of mantissas at the scale, or zero where no number is there
abbrev IsTotal : List Value → ℕ → Type 0
IsTotal vs s = (total vs ≡ (mantissas vs, s)) ⊎ ((total vs ≡ (pos 0, 0)) × (mantissas vs ≡ pos 0))

total-at : (vs : List Value) (s : ℕ) → list_all (at_scale s) vs ≡ true → IsTotal vs s
total-at [] s h = inr (refl, refl)
total-at (Value.Int z ∷ vs) s h =
    let t = and_parts (nat_eq 0 s) (list_all (at_scale s) vs) h in
    inl (ap (λ n. fold plus_value n vs) (ap (λ k. number_plus (pos 0, 0) (z, k)) (eqb-true 0 s t.0) ∙ number_plus-zero z s) ∙ fold-at vs (pos 0 +ℤ z) s t.1)
total-at (Value.Dec d ∷ vs) s h =
    let t = and_parts (nat_eq d.scale s) (list_all (at_scale s) vs) h in
    inl (ap (λ n. fold plus_value n vs) (ap (λ k. number_plus (pos 0, 0) (d.mantissa, k)) (eqb-true d.scale s t.0) ∙ number_plus-zero d.mantissa s) ∙ fold-at vs (pos 0 +ℤ d.mantissa) s t.1)
total-at (Value.Null ∷ vs) s h = total-at vs s h
total-at (Value.Bool x ∷ vs) s h = total-at vs s h
total-at (Value.Text x ∷ vs) s h = total-at vs s h
total-at (Value.Day x ∷ vs) s h = total-at vs s h
total-at (Value.Beyond ∷ vs) s h = total-at vs s h

-- zero is the same number at each scale
zero-tied : (s : ℕ) → number_cmp (pos 0, 0) (pos 0, s) ≡ Equal
zero-tied s = λ i. int_cmp (zero-*ℤ (pos (10 ^ s)) i) (zero-*ℤ (pos (10 ^ 0)) i)

total-tied : (vs : List Value) (s : ℕ) → IsTotal vs s → number_cmp (total vs) (mantissas vs, s) ≡ Equal
total-tied vs s (inl e) = ap (λ n. number_cmp n (mantissas vs, s)) e ∙ tied_itself number_cmp_total (mantissas vs, s)
total-tied vs s (inr t) = (λ i. number_cmp (t.0 i) (t.1 i, s)) ∙ zero-tied s

zero-plus : (s : ℕ) → 0 + s ≡ s
zero-plus s = omega arith

times-tied : (c : ℤ) (vs : List Value) (s : ℕ) → IsTotal vs s → number_cmp (number_times (c, 0) (total vs)) (c *ℤ mantissas vs, s) ≡ Equal
times-tied c vs s (inl e) =
    ap (λ n. number_cmp (number_times (c, 0) n) (c *ℤ mantissas vs, s)) e ∙ ap (λ k. number_cmp (c *ℤ mantissas vs, k) (c *ℤ mantissas vs, s)) (zero-plus s)
    ∙ tied_itself number_cmp_total (c *ℤ mantissas vs, s)
times-tied c vs s (inr t) = (λ i. number_cmp (number_times (c, 0) (t.0 i)) (c *ℤ t.1 i, s)) ∙ (λ i. number_cmp (*ℤ-zero c i, 0) (*ℤ-zero c i, s)) ∙ zero-tied s

-- ---- what is enough

-- a sum against a number, by mantissas
sum-reached : (v : Number) (s : ℕ) (least : ℤ) → ((x : ℤ) → int_le (v.0 *ℤ pos (10 ^ s)) (x *ℤ pos (10 ^ v.1)) ≡ int_le least x)
    → (vs : List Value) → list_all (at_scale s) vs ≡ true → reaches_sum v vs ≡ is_reached least vs
sum-reached v s least f vs h =
    ap is_ge (number_cmp_total.congr (total vs) (mantissas vs, s) v (total-tied vs s (total-at vs s h)))
    ∙ ge_is (mantissas vs *ℤ pos (10 ^ v.1)) (v.0 *ℤ pos (10 ^ s)) ∙ f (mantissas vs)

pub sum-least : (v : Number) (least : ℤ) (vs : List Value) → AreNumbers vs → ((x : ℤ) → int_le (v.0 *ℤ pos (10 ^ scale_in vs)) (x *ℤ pos (10 ^ v.1)) ≡ int_le least x)
    → (ks : List ℕ) → reaches_sum v (at_places vs ks) ≡ is_reached least (at_places vs ks)
sum-least v least vs n f ks = sum-reached v (scale_in vs) least f (at_places vs ks) (all-at_places (at_scale (scale_in vs)) vs ks (numbers-at vs n))

-- a sum against a percentage of another, by mantissas
percent-reached : (p s : ℕ) (all : List Value) (least : ℤ) → list_all (at_scale s) all ≡ true → ((x : ℤ) → int_le (pos p *ℤ mantissas all) (pos 100 *ℤ x) ≡ int_le least x)
    → (vs : List Value) → list_all (at_scale s) vs ≡ true → reaches_percent p all vs ≡ is_reached least vs
percent-reached p s all least g f vs h =
    let hundred = number_times (pos 100, 0) (total vs) in
    let part = number_times (pos p, 0) (total all) in
    ap is_ge (
    number_cmp_total.congr hundred (pos 100 *ℤ mantissas vs, s) part (times-tied (pos 100) vs s (total-at vs s h))
    ∙ alike_right number_cmp_total part (pos p *ℤ mantissas all, s) (pos 100 *ℤ mantissas vs, s) (times-tied (pos p) all s (total-at all s g))
    ∙ same_scale_cmp (pos 100 *ℤ mantissas vs) (pos p *ℤ mantissas all) s)
    ∙ ge_is (pos 100 *ℤ mantissas vs) (pos p *ℤ mantissas all) ∙ f (mantissas vs)

pub percent-least : (p : ℕ) (least : ℤ) (vs : List Value) → AreNumbers vs → ((x : ℤ) → int_le (pos p *ℤ mantissas vs) (pos 100 *ℤ x) ≡ int_le least x)
    → (ks : List ℕ) → reaches_percent p vs (at_places vs ks) ≡ is_reached least (at_places vs ks)
percent-least p least vs n f ks =
    let s = scale_in vs in
    percent-reached p s vs least (numbers-at vs n) f (at_places vs ks) (all-at_places (at_scale s) vs ks (numbers-at vs n))

-- ---- sums that grow

mantissas-append : (a : ℤ) (vs : List Value) (v : Value) → fold plus_mantissa a (vs ++ v ∷ []) ≡ fold plus_mantissa a vs +ℤ (number_part v).0
mantissas-append a [] v = refl
mantissas-append a (u ∷ vs) v = mantissas-append (a +ℤ (number_part u).0) vs v

pub mantissas-more : (vs : List Value) (v : Value) → mantissas (vs ++ v ∷ []) ≡ mantissas vs +ℤ (number_part v).0
mantissas-more vs v = mantissas-append (pos 0) vs v

-- the mantissas of one value more that is seen
pub seen-more : (vs : List Seen) (k : ℕ) (d : Seen) → k < length vs → d ≡ get_or vs k d → mantissas (seen_values (take (k + 1) vs)) ≡ mantissas (seen_values (take k vs)) +ℤ (number_part (seen_value d)).0
seen-more vs k d h e =
    ap mantissas (map_more seen_value vs k d h) ∙ mantissas-more (seen_values (take k vs)) (seen_value (get_or vs k d))
    ∙ ap (λ v. mantissas (seen_values (take k vs)) +ℤ (number_part (seen_value v)).0) (sym e)

-- the scale of the first number among values that are seen
pub seen-scale : (vs : List Seen) → scale_in (seen_values vs) ≡ unwrap_or (option_map (λ v. (number_part (seen_value v)).1) (find (λ v. is_number (seen_value v)) vs)) 0
seen-scale [] = refl
seen-scale (v ∷ vs) = go (is_number (seen_value v)) (seen-scale vs)
  where
    scale : Value → ℕ
    scale u = (number_part u).1

    go : (b : Bool) → scale_in (seen_values vs) ≡ unwrap_or (option_map (λ u. scale (seen_value u)) (find (λ u. is_number (seen_value u)) vs)) 0
        → unwrap_or (option_map scale (cond b (Some (seen_value v)) (find is_number (seen_values vs)))) 0 ≡ unwrap_or (option_map (λ u. scale (seen_value u)) (cond b (Some v) (find (λ u. is_number (seen_value u)) vs))) 0
    go true e = refl
    go false e = e
