-- The values that are read from JSON are values of their properties.
use Rattle.std.proofs.Common.{◌≡◌, ℕ, ℤ, pos, ◌^◌, ◌*ℤ◌, ◌==◌, Bool, true, false, ◌&&◌, List, [], ◌∷◌, nat_abs, nat_le, nat_lt, map, refl, sym, ap, subst, arith, Some, None}
use Rattle.std.specs.Prelude.{if◌then◌else◌, not, IsTrue}
use Rattle.std.specs.declared.option.Option.{Option}
use Rattle.std.specs.Option.{option_map, option_and_then, unwrap_or}
use Rattle.std.proofs.lemmas.Bool.Decides.{nat_tests}
use Rattle.serde_json.specs.Data.{Data, null, boolean, number, string, array, object}
use Rattle.serde_json.specs.Find.{get, as_integer}
use Rattle.std.specs.Prelude.{slice_range}
use Rattle.std.specs.Str.Parse.{digits_value, without_leading_sign}
use Rattle.edm_values.specs.Lists.{all_some}
use Rattle.edm_values.specs.Parts.{mantissa_max, scale_max, is_decimal, is_day}
use Rattle.edm_values.specs.Values.{is_null, is_text, is_beyond, fits_integer, where_true, decimal, decimal_of, day_from}
use Rattle.edm_values.specs.Literals.{literal, Literal, Written, NoLiteral, PastRange, is_digits, is_decimal_text, is_day_text, is_of_kind, integer_in_range, value_or_past, with_sign_of, mantissa_digits, decimal_in_range, integer_literal, decimal_literal, day_in_range, day_literal}
use Rattle.edm_values.specs.declared.Dec.{Dec}
use Rattle.edm_values.specs.declared.Day.{Day}
use Rattle.edm_values.specs.declared.EdmType.{EdmType}
use Rattle.edm_values.specs.declared.Value.{Value}
use Rattle.edm_model.specs.Models.{Property}
use Rattle.edm_data.specs.DataFile.{written, whole_value, json_value, null_value, given_value, property_value}
use Rattle.edm_data.specs.Fitting.{is_value_of, are_values_of}
use Rattle.edm_values.proofs.EachLemmas.{and-left}

-- a value of the type that is neither null nor Beyond
IsFull : EdmType → Value → Type 0
IsFull kind v = (is_null v ≡ false) × ((is_of_kind kind v && not (is_beyond v)) ≡ true)

-- each value that the literal is, is full
IsFullLiteral : EdmType → Literal → Type 0
IsFullLiteral kind l = (v : Value) → written l ≡ Some v → IsFull kind v

full : (kind : EdmType) (u v : Value) → IsFull kind u → Some u ≡ Some v → IsFull kind v
full kind u v h e = let same : u ≡ v = cc in subst (IsFull kind) same h

none-full : (kind : EdmType) (v : Value) → None ≡ Some v → IsFull kind v
none-full kind v e = absurd cc

chosen : (kind : EdmType) (b : Bool) (l m : Literal) → (b ≡ true → IsFullLiteral kind l) → IsFullLiteral kind m → IsFullLiteral kind (if b then l else m)
chosen kind true l m h k = h refl
chosen kind false l m h k = k

no_literal-full : (kind : EdmType) → IsFullLiteral kind NoLiteral
unfolding IsFullLiteral
no_literal-full kind v e = none-full kind v e

past_range-full : (kind : EdmType) → IsFullLiteral kind PastRange
unfolding IsFullLiteral
past_range-full kind v e = none-full kind v e

written-full : (z : ℤ) → IsFullLiteral EdmType.Int (Written (Value.Int z))
unfolding IsFullLiteral IsFull
written-full z v e = full EdmType.Int (Value.Int z) v (refl, refl) e

integer-full : (z : ℤ) → IsFullLiteral EdmType.Int (integer_in_range z)
integer-full z = chosen EdmType.Int (fits_integer z) (Written (Value.Int z)) PastRange (λ _. written-full z) (past_range-full EdmType.Int)

decimal-full : (scale precision : ℕ) (m : ℤ) (h : IsTrue (is_decimal m scale)) → IsFull (EdmType.Dec scale precision) (Value.Dec (decimal m scale h))
unfolding IsFull
decimal-full scale precision m h =
    let same : (scale == scale) ≡ true = grind (arith, nat_tests) in
    let within = and-left (nat_le (nat_abs m) mantissa_max) (nat_le scale scale_max) h in
    (refl, rw (same, within) refl)

decimal_there : (scale precision : ℕ) (m : ℤ) (b : Bool) (f : IsTrue b → Dec) → ((h : IsTrue b) → IsFull (EdmType.Dec scale precision) (Value.Dec (f h))) → IsFullLiteral (EdmType.Dec scale precision) (value_or_past (option_map Value.Dec (where_true b f)))
unfolding IsFullLiteral
decimal_there scale precision m true f h v e = full (EdmType.Dec scale precision) (Value.Dec (f refl)) v (h refl) e
decimal_there scale precision m false f h v e = none-full (EdmType.Dec scale precision) v e

decimal_range-full : (scale precision : ℕ) (m : ℤ) → IsFullLiteral (EdmType.Dec scale precision) (decimal_in_range scale precision m)
decimal_range-full scale precision m =
    chosen (EdmType.Dec scale precision) (nat_lt (nat_abs m) (10 ^ precision)) (value_or_past (option_map Value.Dec (decimal_of m scale))) PastRange (λ _. decimal_there scale precision m (is_decimal m scale) (decimal m scale) (decimal-full scale precision m)) (past_range-full (EdmType.Dec scale precision))

day-full : (y m d : ℕ) (h : IsTrue (is_day y m d)) → IsFull EdmType.Day (Value.Day (day_from y m d h))
unfolding IsFull
day-full y m d h = (refl, rw h refl)

day_there : (b : Bool) (f : IsTrue b → Day) → ((h : IsTrue b) → IsFull EdmType.Day (Value.Day (f h))) → IsFullLiteral EdmType.Day (value_or_past (option_map Value.Day (where_true b f)))
unfolding IsFullLiteral
day_there true f h v e = full EdmType.Day (Value.Day (f refl)) v (h refl) e
day_there false f h v e = none-full EdmType.Day v e

day_range-full : (y m d : ℕ) → IsFullLiteral EdmType.Day (day_in_range y m d)
day_range-full y m d = day_there (is_day y m d) (day_from y m d) (day-full y m d)

integer_literal-full : (t : List ℕ) → IsFullLiteral EdmType.Int (integer_literal t)
integer_literal-full t =
    let z = with_sign_of t (digits_value 10 (without_leading_sign t)) in
    chosen EdmType.Int (is_digits (without_leading_sign t)) (integer_in_range z) NoLiteral (λ _. integer-full z) (no_literal-full EdmType.Int)

decimal_literal-full : (scale precision : ℕ) (t : List ℕ) → IsFullLiteral (EdmType.Dec scale precision) (decimal_literal scale precision t)
decimal_literal-full scale precision t =
    let m = with_sign_of t (digits_value 10 (mantissa_digits scale t)) in
    chosen (EdmType.Dec scale precision) (is_decimal_text scale t) (decimal_in_range scale precision m) NoLiteral (λ _. decimal_range-full scale precision m) (no_literal-full (EdmType.Dec scale precision))

day_literal-full : (t : List ℕ) → IsFullLiteral EdmType.Day (day_literal t)
day_literal-full t =
    let y = digits_value 10 (slice_range t 0 4) in
    let m = digits_value 10 (slice_range t 5 7) in
    let d = digits_value 10 (slice_range t 8 10) in
    chosen EdmType.Day (is_day_text t) (day_in_range y m d) NoLiteral (λ _. day_range-full y m d) (no_literal-full EdmType.Day)

-- ---- JSON values

bound : (kind : EdmType) (o : Option ℤ) (v : Value) → ((z : ℤ) → whole_value kind z ≡ Some v → IsFull kind v) → option_and_then (whole_value kind) o ≡ Some v → IsFull kind v
bound kind None v each h = absurd cc
bound kind (Some z) v each h = each z h

json_value-full : (kind : EdmType) (d : Data) (v : Value) → json_value kind d ≡ Some v → IsFull kind v
unfolding IsFullLiteral IsFull
json_value-full EdmType.Bool (boolean b) v h = full EdmType.Bool (Value.Bool b) v (refl, refl) h
json_value-full EdmType.Bool (number n) v h = bound EdmType.Bool (as_integer n) v (λ z e. none-full EdmType.Bool v e) h
json_value-full EdmType.Bool null v h = none-full EdmType.Bool v h
json_value-full EdmType.Bool (string t) v h = none-full EdmType.Bool v h
json_value-full EdmType.Bool (array ds) v h = none-full EdmType.Bool v h
json_value-full EdmType.Bool (object ms) v h = none-full EdmType.Bool v h
json_value-full EdmType.Int (string t) v h = integer_literal-full t v h
json_value-full EdmType.Int (number n) v h = bound EdmType.Int (as_integer n) v (λ z e. integer-full z v e) h
json_value-full EdmType.Int null v h = none-full EdmType.Int v h
json_value-full EdmType.Int (boolean b) v h = none-full EdmType.Int v h
json_value-full EdmType.Int (array ds) v h = none-full EdmType.Int v h
json_value-full EdmType.Int (object ms) v h = none-full EdmType.Int v h
json_value-full (EdmType.Dec s p) (string t) v h = decimal_literal-full s p t v h
json_value-full (EdmType.Dec s p) (number n) v h = bound (EdmType.Dec s p) (as_integer n) v (λ z e. decimal_range-full s p (z *ℤ pos (10 ^ s)) v e) h
json_value-full (EdmType.Dec s p) null v h = none-full (EdmType.Dec s p) v h
json_value-full (EdmType.Dec s p) (boolean b) v h = none-full (EdmType.Dec s p) v h
json_value-full (EdmType.Dec s p) (array ds) v h = none-full (EdmType.Dec s p) v h
json_value-full (EdmType.Dec s p) (object ms) v h = none-full (EdmType.Dec s p) v h
json_value-full EdmType.Text (string t) v h = full EdmType.Text (Value.Text t) v (refl, refl) h
json_value-full EdmType.Text (number n) v h = bound EdmType.Text (as_integer n) v (λ z e. none-full EdmType.Text v e) h
json_value-full EdmType.Text null v h = none-full EdmType.Text v h
json_value-full EdmType.Text (boolean b) v h = none-full EdmType.Text v h
json_value-full EdmType.Text (array ds) v h = none-full EdmType.Text v h
json_value-full EdmType.Text (object ms) v h = none-full EdmType.Text v h
json_value-full EdmType.Day (string t) v h = day_literal-full t v h
json_value-full EdmType.Day (number n) v h = bound EdmType.Day (as_integer n) v (λ z e. none-full EdmType.Day v e) h
json_value-full EdmType.Day null v h = none-full EdmType.Day v h
json_value-full EdmType.Day (boolean b) v h = none-full EdmType.Day v h
json_value-full EdmType.Day (array ds) v h = none-full EdmType.Day v h
json_value-full EdmType.Day (object ms) v h = none-full EdmType.Day v h

-- a value of a type but that of texts is no text
no_text : (kind : EdmType) (v : Value) → (kind ≡ EdmType.Text → ⊥) → IsFull kind v → is_text v ≡ false
unfolding IsFull
no_text kind Value.Null other h = refl
no_text kind (Value.Bool b) other h = refl
no_text kind (Value.Int z) other h = refl
no_text kind (Value.Dec d) other h = refl
no_text EdmType.Bool (Value.Text t) other h = cc
no_text EdmType.Int (Value.Text t) other h = cc
no_text (EdmType.Dec s p) (Value.Text t) other h = cc
no_text EdmType.Text (Value.Text t) other h = absurd (other refl)
no_text EdmType.Day (Value.Text t) other h = cc
no_text kind (Value.Day d) other h = refl
no_text kind Value.Beyond other h = refl

-- the value of a literal that is read, but for texts and Booleans
pub text_read : (kind : EdmType) (t : List ℕ) (v : Value) → (kind ≡ EdmType.Bool → ⊥) → (kind ≡ EdmType.Text → ⊥) → literal kind t ≡ Written v → (if is_text v then None else Some v) ≡ json_value kind (string t)
unfolding IsFullLiteral
text_read EdmType.Bool t v flag text h = absurd (flag refl)
text_read EdmType.Int t v flag text h = let is : written (integer_literal t) ≡ Some v = ap written h in rw (no_text EdmType.Int v text (integer_literal-full t v is)) (sym is)
text_read (EdmType.Dec s p) t v flag text h = let is : written (decimal_literal s p t) ≡ Some v = ap written h in rw (no_text (EdmType.Dec s p) v text (decimal_literal-full s p t v is)) (sym is)
text_read EdmType.Text t v flag text h = absurd (text refl)
text_read EdmType.Day t v flag text h = let is : written (day_literal t) ≡ Some v = ap written h in rw (no_text EdmType.Day v text (day_literal-full t v is)) (sym is)

-- ---- values of properties

of_full : (p : Property) (v : Value) → IsFull p.kind v → is_value_of p v ≡ true
unfolding IsFull
of_full p v h = rw (h.0) h.1

null_by : (n : Bool) (p : Property) (v : Value) → p.nullable ≡ n → (if n then Some Value.Null else None) ≡ Some v → is_value_of p v ≡ true
null_by true p v nullable h =
    let same : Value.Null ≡ v = cc in
    let P : Value → Type 0 = λ u. is_value_of p u ≡ true in subst P same nullable
null_by false p v nullable h = cc

null_fits : (p : Property) (v : Value) → null_value p ≡ Some v → is_value_of p v ≡ true
null_fits p v h = null_by p.nullable p v refl h

given_fits : (p : Property) (d : Data) (v : Value) → given_value p d ≡ Some v → is_value_of p v ≡ true
given_fits p null v h = null_fits p v h
given_fits p (boolean b) v h = of_full p v (json_value-full p.kind (boolean b) v h)
given_fits p (number n) v h = of_full p v (json_value-full p.kind (number n) v h)
given_fits p (string t) v h = of_full p v (json_value-full p.kind (string t) v h)
given_fits p (array ds) v h = of_full p v (json_value-full p.kind (array ds) v h)
given_fits p (object ms) v h = of_full p v (json_value-full p.kind (object ms) v h)

member_fits : (p : Property) (o : Option Data) (v : Value) → unwrap_or (option_map (given_value p) o) (null_value p) ≡ Some v → is_value_of p v ≡ true
member_fits p None v h = null_fits p v h
member_fits p (Some d) v h = given_fits p d v h

-- the values of an entity are values of its properties
values_by : (p : Property) (ps : List Property) (vs : List Value) (o : Option Value) → ((v : Value) → o ≡ Some v → is_value_of p v ≡ true) → (os : List (Option Value)) → ((us : List Value) → all_some os ≡ Some us → are_values_of ps us ≡ true) → all_some (o ∷ os) ≡ Some vs → are_values_of (p ∷ ps) vs ≡ true
values_by p ps vs None first os each h = cc
values_by p ps vs (Some v) first os each h = rest (all_some os) each h
  where
    rest : (r : Option (List Value)) → ((us : List Value) → r ≡ Some us → are_values_of ps us ≡ true) → option_map (λ us. v ∷ us) r ≡ Some vs → are_values_of (p ∷ ps) vs ≡ true
    rest None each h = cc
    rest (Some us) each h =
        let same : v ∷ us ≡ vs = cc in
        let is = first v refl in
        let P : List Value → Type 0 = λ ws. are_values_of (p ∷ ps) ws ≡ true in
        subst P same (rw is (each us refl))

pub values_fit : (d : Data) (ps : List Property) (vs : List Value) → all_some (map (property_value d) ps) ≡ Some vs → are_values_of ps vs ≡ true
values_fit d [] vs h = let same : [] ≡ vs = cc in let P : List Value → Type 0 = λ us. are_values_of [] us ≡ true in subst P same refl
values_fit d (p ∷ ps) vs h =
    values_by p ps vs (property_value d p) (member_fits p (get p.name d)) (map (property_value d) ps) (values_fit d ps) h
