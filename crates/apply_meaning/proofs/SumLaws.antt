-- The sum of a list of values, as the sum of the mantissas of its numbers.
use Rattle.std.proofs.Common.{◌≡◌, ◌++◌, ℕ, ◌+◌, ◌-◌, ◌<◌, Bool, true, false, not, ◌||◌, List, [], ◌∷◌, map, filter, fold, take, length, get_or, ℤ, pos, ◌+ℤ◌, IsTrue, Some, None, if◌then◌else◌, refl, ap, sym, ◌∙◌, eqb-true}
use Rattle.std.specs.Option.{option_map, unwrap_or}
use Rattle.std.specs.List.{list_any, list_all}
use Rattle.std.proofs.lemmas.Bool.{false≢true, and_from}
use Rattle.std.proofs.lemmas.List.{map_more}
use Rattle.edm_values.specs.declared.EdmType.{EdmType}
use Rattle.edm_values.specs.declared.Method.TheVariants as method
use Rattle.edm_values.specs.declared.Seen.{Seen}
use Rattle.edm_values.specs.declared.Value.{Value}
use Rattle.std.specs.Prelude.{find, cond}
use Rattle.edm_values.specs.Lists.{is_nonempty}
use Rattle.edm_values.specs.Literals.{is_number_kind, is_of_kind}
use Rattle.edm_values.specs.Values.{Number, number_of, number_part, number_plus, is_beyond, integer, dec, is_integer, is_null, is_number, seen_value, total}
use Rattle.edm_data.specs.Fitting.{is_value_of}
use Rattle.apply_meaning.specs.Aggregates.{aggregate, exact_sum, number_in}
use Rattle.edm_values.proofs.EachLemmas.{and-left, and-right}
use Rattle.edm_values.proofs.NumberLaws.{number_plus-same, number_plus-zero, plus_nothing}

-- ---- the sum of mantissas

-- the mantissa of a number, and 0 of any other value
abbrev pub amount : Value → ℤ
amount v = (number_part v).0

-- a number and the mantissas of a list
abbrev pub amounts : ℤ → List Value → ℤ
amounts = fold (λ a v. a +ℤ amount v)

-- ---- values of a type of numbers

-- the scale of a type's numbers
abbrev pub scale_of : EdmType → ℕ
scale_of (EdmType.Dec scale precision) = scale
scale_of _ = 0

-- the value is null, or a number of this scale
abbrev pub IsAt : ℕ → Value → Type 0
IsAt s Value.Null = Unit {0}
IsAt s (Value.Int z) = 0 ≡ s
IsAt s (Value.Dec d) = d.scale ≡ s
IsAt s _ = ⊥

-- each value of the list is
abbrev pub AllAt : ℕ → List Value → Type 0
AllAt s [] = Unit {0}
AllAt s (v ∷ vs) = IsAt s v × AllAt s vs

-- the value is null, where it may be, or one of the kind
abbrev fits : EdmType → Bool → Value → Bool
fits kind nullable v = is_value_of (record { name = []; kind = kind; nullable = nullable }) v

fits-at : (kind : EdmType) (b : Bool) (v : Value) → IsTrue (is_number_kind kind) → fits kind b v ≡ true → IsAt (scale_of kind) v
fits-at EdmType.Int b Value.Null n h = tt
fits-at EdmType.Int b (Value.Int z) n h = refl
fits-at EdmType.Int b (Value.Bool x) n h = false≢true h
fits-at EdmType.Int b (Value.Dec d) n h = absurd (false≢true h)
fits-at EdmType.Int b (Value.Text t) n h = false≢true h
fits-at EdmType.Int b (Value.Day d) n h = false≢true h
fits-at EdmType.Int b Value.Beyond n h = false≢true h
fits-at (EdmType.Dec s p) b Value.Null n h = tt
fits-at (EdmType.Dec s p) b (Value.Int z) n h = absurd (false≢true h)
fits-at (EdmType.Dec s p) b (Value.Bool x) n h = false≢true h
fits-at (EdmType.Dec s p) b (Value.Dec d) n h = eqb-true d.scale s (and-left _ _ (and-left _ _ h))
fits-at (EdmType.Dec s p) b (Value.Text t) n h = false≢true h
fits-at (EdmType.Dec s p) b (Value.Day d) n h = false≢true h
fits-at (EdmType.Dec s p) b Value.Beyond n h = false≢true h
fits-at EdmType.Bool b v n h = absurd (false≢true n)
fits-at EdmType.Text b v n h = absurd (false≢true n)
fits-at EdmType.Day b v n h = absurd (false≢true n)

all-at : (kind : EdmType) (b : Bool) (vs : List Value) → IsTrue (is_number_kind kind) → list_all (fits kind b) vs ≡ true → AllAt (scale_of kind) vs
all-at kind b [] n h = tt
all-at kind b (v ∷ vs) n h = (fits-at kind b v n (and-left _ _ h), all-at kind b vs n (and-right (fits kind b v) _ h))

-- ---- the exact sum

-- the values that are not null
abbrev pub kept : List Value → List Value
kept = filter (λ v. not (is_null v))

-- a number and a value, added
abbrev plus_value : Number → Value → Number
plus_value a v = unwrap_or (option_map (number_plus a) (number_of v)) a

fold-at : (vs : List Value) (a : ℤ) (s : ℕ) → AllAt s vs → fold plus_value (a, s) (kept vs) ≡ (amounts a vs, s)
fold-at [] a s h = refl
fold-at (Value.Null ∷ vs) a s h = fold-at vs a s h.1 ∙ ap (λ b. (amounts b vs, s)) (plus_nothing a)
fold-at (Value.Int z ∷ vs) a s h =
    ap (λ n. fold plus_value n (kept vs)) (ap (λ t. number_plus (a, s) (z, t)) h.0 ∙ number_plus-same a z s) ∙ fold-at vs (a +ℤ z) s h.1
fold-at (Value.Dec d ∷ vs) a s h =
    ap (λ n. fold plus_value n (kept vs)) (ap (λ t. number_plus (a, s) (d.mantissa, t)) h.0 ∙ number_plus-same a d.mantissa s) ∙ fold-at vs (a +ℤ d.mantissa) s h.1
fold-at (Value.Bool x ∷ vs) a s h = absurd h.0
fold-at (Value.Text x ∷ vs) a s h = absurd h.0
fold-at (Value.Day x ∷ vs) a s h = absurd h.0
fold-at (Value.Beyond ∷ vs) a s h = absurd h.0

total-kept : (vs : List Value) (s : ℕ) → AllAt s vs → list_any is_number vs ≡ true → total (kept vs) ≡ (amounts (pos 0) vs, s)
total-kept [] s h n = absurd (false≢true n)
total-kept (Value.Null ∷ vs) s h n = total-kept vs s h.1 n
total-kept (Value.Int z ∷ vs) s h n =
    ap (λ a. fold plus_value a (kept vs)) (ap (λ t. number_plus (pos 0, 0) (z, t)) h.0 ∙ number_plus-zero z s) ∙ fold-at vs (pos 0 +ℤ z) s h.1
total-kept (Value.Dec d ∷ vs) s h n =
    ap (λ a. fold plus_value a (kept vs)) (ap (λ t. number_plus (pos 0, 0) (d.mantissa, t)) h.0 ∙ number_plus-zero d.mantissa s) ∙ fold-at vs (pos 0 +ℤ d.mantissa) s h.1
total-kept (Value.Bool x ∷ vs) s h n = absurd h.0
total-kept (Value.Text x ∷ vs) s h n = absurd h.0
total-kept (Value.Day x ∷ vs) s h n = absurd h.0
total-kept (Value.Beyond ∷ vs) s h n = absurd h.0

nonempty-kept : (vs : List Value) (s : ℕ) → AllAt s vs → is_nonempty (kept vs) ≡ list_any is_number vs
nonempty-kept [] s h = refl
nonempty-kept (Value.Null ∷ vs) s h = nonempty-kept vs s h.1
nonempty-kept (Value.Int z ∷ vs) s h = refl
nonempty-kept (Value.Dec d ∷ vs) s h = refl
nonempty-kept (Value.Bool x ∷ vs) s h = absurd h.0
nonempty-kept (Value.Text x ∷ vs) s h = absurd h.0
nonempty-kept (Value.Day x ∷ vs) s h = absurd h.0
nonempty-kept (Value.Beyond ∷ vs) s h = absurd h.0

integers-kept : (b : Bool) (vs : List Value) → list_all (fits EdmType.Int b) vs ≡ true → list_all is_integer (kept vs) ≡ true
integers-kept b [] h = refl
integers-kept b (Value.Null ∷ vs) h = integers-kept b vs (and-right b _ h)
integers-kept b (Value.Int z ∷ vs) h = integers-kept b vs h
integers-kept b (Value.Dec d ∷ vs) h = absurd (false≢true h)
integers-kept b (Value.Bool x ∷ vs) h = absurd (false≢true h)
integers-kept b (Value.Text x ∷ vs) h = absurd (false≢true h)
integers-kept b (Value.Day x ∷ vs) h = absurd (false≢true h)
integers-kept b (Value.Beyond ∷ vs) h = absurd (false≢true h)

decimals-kept : (s p : ℕ) (b : Bool) (vs : List Value) → list_all (fits (EdmType.Dec s p) b) vs ≡ true → list_any is_number vs ≡ true → list_all is_integer (kept vs) ≡ false
decimals-kept s p b [] h n = absurd (false≢true n)
decimals-kept s p b (Value.Null ∷ vs) h n = decimals-kept s p b vs (and-right b _ h) n
decimals-kept s p b (Value.Int z ∷ vs) h n = absurd (false≢true h)
decimals-kept s p b (Value.Dec d ∷ vs) h n = refl
decimals-kept s p b (Value.Bool x ∷ vs) h n = absurd (false≢true h)
decimals-kept s p b (Value.Text x ∷ vs) h n = absurd (false≢true h)
decimals-kept s p b (Value.Day x ∷ vs) h n = absurd (false≢true h)
decimals-kept s p b (Value.Beyond ∷ vs) h n = absurd (false≢true h)

not_beyond : (kind : EdmType) (b : Bool) (v : Value) → fits kind b v ≡ true → is_beyond v ≡ false
not_beyond kind b Value.Null h = refl
not_beyond kind b (Value.Bool x) h = refl
not_beyond kind b (Value.Int x) h = refl
not_beyond kind b (Value.Dec x) h = refl
not_beyond kind b (Value.Text x) h = refl
not_beyond kind b (Value.Day x) h = refl
not_beyond kind b Value.Beyond h = absurd (false≢true (and-right (is_of_kind kind Value.Beyond) false h))

none_beyond : (kind : EdmType) (b : Bool) (vs : List Value) → list_all (fits kind b) vs ≡ true → list_any is_beyond vs ≡ false
none_beyond kind b [] h = refl
none_beyond kind b (v ∷ vs) h =
    ap (λ t. t || list_any is_beyond vs) (not_beyond kind b v (and-left _ _ h)) ∙ none_beyond kind b vs (and-right (fits kind b v) _ h)

exact_sum-kept : (kind : EdmType) (b : Bool) (vs : List Value) → IsTrue (is_number_kind kind) → list_all (fits kind b) vs ≡ true → list_any is_number vs ≡ true → exact_sum (kept vs) ≡ number_in kind (amounts (pos 0) vs)
exact_sum-kept EdmType.Int b vs k h n =
    ap (λ t. if t then integer (total (kept vs)).0 else dec (total (kept vs)).0 (total (kept vs)).1) (integers-kept b vs h)
    ∙ ap (λ a. integer a.0) (total-kept vs 0 (all-at EdmType.Int b vs k h) n)
exact_sum-kept (EdmType.Dec s p) b vs k h n =
    ap (λ t. if t then integer (total (kept vs)).0 else dec (total (kept vs)).0 (total (kept vs)).1) (decimals-kept s p b vs h n)
    ∙ ap (λ a. dec a.0 a.1) (total-kept vs s (all-at (EdmType.Dec s p) b vs k h) n)
exact_sum-kept EdmType.Bool b vs k h n = absurd (false≢true k)
exact_sum-kept EdmType.Text b vs k h n = absurd (false≢true k)
exact_sum-kept EdmType.Day b vs k h n = absurd (false≢true k)

-- the aggregate, where no value is Beyond, by whether a number is there
aggregate-found : (kind : EdmType) (b : Bool) (vs : List Value) (found : Bool) → IsTrue (is_number_kind kind) → list_all (fits kind b) vs ≡ true → list_any is_number vs ≡ found → aggregate method.Sum vs ≡ (if found then exact_sum (kept vs) else Value.Null)
aggregate-found kind b vs found k h n =
    ap (λ t. if t then Value.Beyond else (if is_nonempty (kept vs) then exact_sum (kept vs) else Value.Null)) (none_beyond kind b vs h)
    ∙ ap (λ t. if t then exact_sum (kept vs) else Value.Null) (nonempty-kept vs (scale_of kind) (all-at kind b vs k h) ∙ n)

fits-from : (kind : EdmType) (v : Value) → is_of_kind kind v ≡ true → is_beyond v ≡ false → fits kind true v ≡ true
fits-from kind Value.Null h b = refl
fits-from kind (Value.Bool x) h b = and_from _ _ h refl
fits-from kind (Value.Int x) h b = and_from _ _ h refl
fits-from kind (Value.Dec x) h b = and_from _ _ h refl
fits-from kind (Value.Text x) h b = and_from _ _ h refl
fits-from kind (Value.Day x) h b = and_from _ _ h refl
fits-from kind Value.Beyond h b = absurd (false≢true (sym b))

all-fit-from : (kind : EdmType) (vs : List Value) → list_all (is_of_kind kind) vs ≡ true → list_any is_beyond vs ≡ false → list_all (fits kind true) vs ≡ true
all-fit-from kind [] h b = refl
all-fit-from kind (v ∷ vs) h b =
    and_from _ _ (fits-from kind v (and-left _ _ h) (or_first (is_beyond v) _ b)) (all-fit-from kind vs (and-right (is_of_kind kind v) _ h) (or_second (is_beyond v) _ b))
  where
    or_first : (a b : Bool) → (a || b) ≡ false → a ≡ false
    or_first false b h = refl
    or_first true b h = h

    or_second : (a b : Bool) → (a || b) ≡ false → b ≡ false
    or_second false b h = h
    or_second true b h = absurd (false≢true (sym h))

-- the sum of numbers of one type, by whether one is there
pub sum-there : (kind : EdmType) (vs : List Value) → IsTrue (is_number_kind kind) → list_all (is_of_kind kind) vs ≡ true → list_any is_beyond vs ≡ false → list_any is_number vs ≡ true → aggregate method.Sum vs ≡ number_in kind (amounts (pos 0) vs)
sum-there kind vs k h b n = let f = all-fit-from kind vs h b in aggregate-found kind true vs true k f n ∙ exact_sum-kept kind true vs k f n

pub sum-none : (kind : EdmType) (vs : List Value) → IsTrue (is_number_kind kind) → list_all (is_of_kind kind) vs ≡ true → list_any is_beyond vs ≡ false → list_any is_number vs ≡ false → aggregate method.Sum vs ≡ Value.Null
sum-none kind vs k h b n = aggregate-found kind true vs false k (all-fit-from kind vs h b) n

-- ---- the first number among values that are seen

-- where a number is found it is one, of the type of all, and one is there
pub record FirstNumber (kind : EdmType) (vs : List Seen) (x : Seen) : Type 0 where
  pub number : is_number (seen_value x) ≡ true
  pub kind_is : is_of_kind kind (seen_value x) ≡ true
  pub there : list_any is_number (map seen_value vs) ≡ true

pub first-number : (kind : EdmType) (vs : List Seen) (x : Seen) → find (λ v. is_number (seen_value v)) vs ≡ Some x → list_all (is_of_kind kind) (map seen_value vs) ≡ true → FirstNumber kind vs x
first-number kind [] x h a = cc
first-number kind (v ∷ vs) x h a = go (is_number (seen_value v)) refl h (λ later. first-number kind vs x later (and-right (is_of_kind kind (seen_value v)) _ a))
  where
    go : (b : Bool) → is_number (seen_value v) ≡ b → cond b (Some v) (find (λ v. is_number (seen_value v)) vs) ≡ Some x → (find (λ v. is_number (seen_value v)) vs ≡ Some x → FirstNumber kind vs x) → FirstNumber kind (v ∷ vs) x
    go true e h r =
        let same : v ≡ x = cc in
        record {
          number = ap (λ v. is_number (seen_value v)) (sym same) ∙ e;
          kind_is = ap (λ v. is_of_kind kind (seen_value v)) (sym same) ∙ and-left _ _ a;
          there = ap (λ b. b || list_any is_number (map seen_value vs)) e;
        }
    go false e h r =
        let f = r h in
        record { number = f.number; kind_is = f.kind_is; there = ap (λ b. b || list_any is_number (map seen_value vs)) e ∙ f.there }

pub no-number : (vs : List Seen) → find (λ v. is_number (seen_value v)) vs ≡ None → list_any is_number (map seen_value vs) ≡ false
no-number [] h = refl
no-number (v ∷ vs) h = go (is_number (seen_value v)) refl h (no-number vs)
  where
    go : (b : Bool) → is_number (seen_value v) ≡ b → cond b (Some v) (find (λ v. is_number (seen_value v)) vs) ≡ None → (find (λ v. is_number (seen_value v)) vs ≡ None → list_any is_number (map seen_value vs) ≡ false) → list_any is_number (map seen_value (v ∷ vs)) ≡ false
    go true e h r = cc
    go false e h r = ap (λ b. b || list_any is_number (map seen_value vs)) e ∙ r h

-- one value more is added
amounts-append : (a : ℤ) (vs : List Value) (v : Value) → amounts a (vs ++ v ∷ []) ≡ amounts a vs +ℤ amount v
amounts-append a [] v = refl
amounts-append a (u ∷ vs) v = amounts-append (a +ℤ amount u) vs v

pub amounts-more : (vs : List Seen) (k : ℕ) (d : Seen) → k < length vs → d ≡ get_or vs k d → amounts (pos 0) (map seen_value (take (k + 1) vs)) ≡ amounts (pos 0) (map seen_value (take k vs)) +ℤ amount (seen_value d)
amounts-more vs k d h e =
    ap (amounts (pos 0)) (map_more seen_value vs k d h) ∙ amounts-append (pos 0) (map seen_value (take k vs)) (seen_value (get_or vs k d))
    ∙ ap (λ v. amounts (pos 0) (map seen_value (take k vs)) +ℤ amount (seen_value v)) (sym e)
