-- The values of JSON that is no text and no Boolean.
use Rattle.std.proofs.Common.{◌≡◌, ℕ, ◌*◌, ◌^◌, ◌≤◌, true, false, cond, refl, sym, ◌∙◌, ap, arith, Some, None, IsTrue, ℤ, pos, ◌*ℤ◌}
use Rattle.std.specs.Prelude.{nat_abs, nat_lt, nat_le, ◌&&◌}
use Rattle.std.specs.Option.{option_map, option_and_then}
use Rattle.std.proofs.lemmas.Bool.{leb-true, le-ltb, ltb-false}
use Rattle.std.proofs.lemmas.Option.{none-some}
use Rattle.std.proofs.Math.Nat.{pow-le-pow_right, one-le-pow, mul-le-mul_left}
use Rattle.edm_values.proofs.EachLemmas.{and-left, and-right}
use Rattle.serde_json.specs.Data.{Num, unsigned, negative, float, Data, null, boolean, number, string, array, object}
use Rattle.serde_json.specs.Find.{as_str, as_bool, as_number, as_i64, as_integer}
use Rattle.edm_values.specs.declared.Value.{Value}
use Rattle.edm_values.specs.declared.EdmType.{EdmType}
use Rattle.edm_values.specs.Literals.{value_or_past, PastRange}
use Rattle.edm_values.specs.Values.{decimal_of}
use Rattle.edm_model.specs.Soundness.{is_declared_kind}
use Rattle.edm_data.specs.DataFile.{written, whole_value, json_value}

json_value-number : (k : EdmType) (n : Num) → json_value k (number n) ≡ option_and_then (whole_value k) (as_integer n)
json_value-number EdmType.Bool n = refl
json_value-number EdmType.Int n = refl
json_value-number (EdmType.Dec s p) n = refl
json_value-number EdmType.Text n = refl
json_value-number EdmType.Day n = refl

integer_held : (n : Num) (z : ℤ) → as_i64 n ≡ Some z → as_integer n ≡ Some z
integer_held (unsigned n) z h = elim (nat_lt n (2 ^ 63)) as (λ b. cond b (Some (pos n)) None ≡ Some z → Some (pos n) ≡ Some z) [ true ↦ λ e. e | false ↦ λ e. absurd (none-some z e) ] h
integer_held (negative y) z h = h
integer_held (float x) z h = cc

-- a number that is held as a signed integer of 64 bits
pub number_is : (k : EdmType) (d : Data) (z : ℤ) → option_and_then as_i64 (as_number d) ≡ Some z → whole_value k z ≡ json_value k d
number_is k null z h = cc
number_is k (boolean b) z h = cc
number_is k (number n) z h = sym (json_value-number k n ∙ ap (option_and_then (whole_value k)) (integer_held n z h))
number_is k (string t) z h = cc
number_is k (array ds) z h = cc
number_is k (object ms) z h = cc

declared_precision : (s p : ℕ) → IsTrue (is_declared_kind (EdmType.Dec s p)) → p ≤ 18
declared_precision s p declared = leb-true p 18 (and-right (nat_le s 9 && nat_le 1 p) (nat_le p 18) (and-left ((nat_le s 9 && nat_le 1 p) && nat_le p 18) (nat_le s p) declared))

past_decimal : (s p n : ℕ) → IsTrue (is_declared_kind (EdmType.Dec s p)) → 2 ^ 63 ≤ n → whole_value (EdmType.Dec s p) (pos n) ≡ None
past_decimal s p n declared h =
    let small : 10 ^ p ≤ 10 ^ 18 = pow-le-pow_right (omega arith) (declared_precision s p declared) in
    let one : 1 ≤ 10 ^ s = one-le-pow s 10 (omega arith) in
    let grown : n * 1 ≤ n * 10 ^ s = mul-le-mul_left n one in
    let far : 10 ^ p ≤ n * 10 ^ s = omega arith in
    let test : nat_lt (nat_abs (pos n *ℤ pos (10 ^ s))) (10 ^ p) ≡ false = le-ltb (n * 10 ^ s) (10 ^ p) far in
    ap written (ap (λ b. cond b (value_or_past (option_map Value.Dec (decimal_of (pos n *ℤ pos (10 ^ s)) s))) PastRange) test)

past_integer : (n : ℕ) → nat_lt n (2 ^ 63) ≡ false → whole_value EdmType.Int (pos n) ≡ None
past_integer n h = rw h refl

past_number : (k : EdmType) (n : ℕ) → IsTrue (is_declared_kind k) → nat_lt n (2 ^ 63) ≡ false → whole_value k (pos n) ≡ None
past_number EdmType.Bool n declared h = refl
past_number EdmType.Int n declared h = past_integer n h
past_number (EdmType.Dec s p) n declared h = past_decimal s p n declared (ltb-false n (2 ^ 63) h)
past_number EdmType.Text n declared h = refl
past_number EdmType.Day n declared h = refl

no_number : (k : EdmType) (n : Num) → IsTrue (is_declared_kind k) → as_i64 n ≡ None → option_and_then (whole_value k) (as_integer n) ≡ None
no_number k (unsigned n) declared h = (elim (nat_lt n (2 ^ 63)) as (λ b. nat_lt n (2 ^ 63) ≡ b → cond b (Some (pos n)) None ≡ None → whole_value k (pos n) ≡ None) [ true ↦ λ t e. absurd (none-some (pos n) (sym e)) | false ↦ λ t e. past_number k n declared t ]) refl h
no_number k (negative z) declared h = cc
no_number k (float x) declared h = refl

json_value-null : (k : EdmType) → json_value k null ≡ None
json_value-null EdmType.Bool = refl
json_value-null EdmType.Int = refl
json_value-null (EdmType.Dec s p) = refl
json_value-null EdmType.Text = refl
json_value-null EdmType.Day = refl

-- JSON that is neither a text nor a Boolean nor such a number has no value
pub no_value : (k : EdmType) (d : Data) → IsTrue (is_declared_kind k) → as_str d ≡ None → as_bool d ≡ None → option_and_then as_i64 (as_number d) ≡ None → json_value k d ≡ None
no_value k null declared text flag h = json_value-null k
no_value k (boolean b) declared text flag h = cc
no_value k (number n) declared text flag h = json_value-number k n ∙ no_number k n declared h
no_value k (string t) declared text flag h = cc
no_value EdmType.Bool (array ds) declared text flag h = refl
no_value EdmType.Int (array ds) declared text flag h = refl
no_value (EdmType.Dec s p) (array ds) declared text flag h = refl
no_value EdmType.Text (array ds) declared text flag h = refl
no_value EdmType.Day (array ds) declared text flag h = refl
no_value EdmType.Bool (object ms) declared text flag h = refl
no_value EdmType.Int (object ms) declared text flag h = refl
no_value (EdmType.Dec s p) (object ms) declared text flag h = refl
no_value EdmType.Text (object ms) declared text flag h = refl
no_value EdmType.Day (object ms) declared text flag h = refl
