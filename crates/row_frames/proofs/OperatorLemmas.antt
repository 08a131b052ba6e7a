-- Operators on a value and an integer, and on Booleans.
use Rattle.std.proofs.Common.{◌≡◌, ℕ, ◌-◌, ◌+◌, ◌^◌, Bool, false, max, List, [], ◌∷◌, map, ◌∙◌, ap, arith, ℤ, pos, ◌+ℤ◌, refl, sym}
use Rattle.std.specs.Prelude.{◌*ℤ◌, neg_ℤ, IfOk, IfSome, IsTrue, Option, Some, None, option_map, unwrap_or}
use Rattle.std.specs.declared.cmp.Ordering.{Ordering}
use Rattle.std.specs.declared.cmp.Ordering.TheVariants.{Less, Equal, Greater}
use Rattle.std.specs.declared.result.Result as result
use Rattle.std.specs.declared.result.Result.TheVariants.{Ok, Err}
use Rattle.std.specs.Ordering.{int_cmp}
use Rattle.std.proofs.lemmas.Bool.{true≢false}
use Rattle.std.proofs.lemmas.Int.{ints}
use Rattle.std.proofs.Math.Nat.{sub_self}
use Rattle.edm_values.specs.declared.Dec.{Dec}
use Rattle.edm_values.specs.declared.Value.{Value}
use Rattle.edm_values.specs.Values.{Number, compared, dec, integer, is_number, minus, number_cmp, number_plus, plus, tested, times}
use Rattle.edm_values.specs.OrderLaws.{same_scale_cmp}
use Rattle.apply_ast.specs.declared.expressions.BinOp.{BinOp}
use Rattle.apply_meaning.specs.Instances.{binary}
use Rattle.row_frames.specs.declared.typed_blocks.Block.{Block}
use Rattle.row_frames.specs.Blocks.{block_values}

at-own-scale : (z : ℤ) (s : ℕ) → z *ℤ pos (10 ^ (s - s)) ≡ z
at-own-scale z s = ap (λ k. z *ℤ pos (10 ^ k)) (sub_self s) ∙ omega (arith, ints)

max-none : (s : ℕ) → max s 0 ≡ s
max-none s = omega arith

less-none : (s : ℕ) → s - 0 ≡ s
less-none s = omega arith

and-none : (s : ℕ) → s ≡ s + 0
and-none s = omega arith

times-one : (z : ℤ) → z ≡ z *ℤ pos (10 ^ 0)
times-one z = omega (arith, ints)

number-plus : (m y : ℤ) (s : ℕ) → number_plus (m, s) (y, 0) ≡ (m +ℤ y *ℤ pos (10 ^ s), s)
number-plus m y s =
    ap (λ t. (m *ℤ pos (10 ^ (t - s)) +ℤ y *ℤ pos (10 ^ (t - 0)), t)) (max-none s) ∙ (λ i. (at-own-scale m s i +ℤ y *ℤ pos (10 ^ less-none s i), s))

abbrev of-number : Number → Value
of-number n = dec n.0 n.1

-- a decimal and an integer
pub decimal-plus : (d : Dec) (y r m : ℤ) (s : ℕ) → s ≡ d.scale → r ≡ y *ℤ pos (10 ^ s) → m ≡ d.mantissa +ℤ r → dec m s ≡ plus (Value.Dec d) (Value.Int y)
decimal-plus d y r m s e f g =
    ap (λ z. dec z s) (g ∙ ap (λ z. d.mantissa +ℤ z) f) ∙ ap (λ t. dec (d.mantissa +ℤ y *ℤ pos (10 ^ t)) t) e ∙ ap of-number (sym (number-plus d.mantissa y d.scale))

pub decimal-times : (d : Dec) (y m : ℤ) (s : ℕ) → s ≡ d.scale → m ≡ d.mantissa *ℤ y → dec m s ≡ times (Value.Dec d) (Value.Int y)
decimal-times d y m s e f = ap (λ z. dec z s) f ∙ ap (λ t. dec (d.mantissa *ℤ y) t) (e ∙ and-none d.scale)

pub decimal-compared : (d : Dec) (y r : ℤ) (s : ℕ) → s ≡ d.scale → r ≡ y *ℤ pos (10 ^ s) → compared (Value.Dec d) (Value.Int y) ≡ Some (int_cmp d.mantissa r)
decimal-compared d y r s e f = sym (ap (λ z. Some (int_cmp d.mantissa z)) (f ∙ ap (λ t. y *ℤ pos (10 ^ t)) e) ∙ ap (λ z. Some (int_cmp z (y *ℤ pos (10 ^ d.scale)))) (times-one d.mantissa))

-- two integers
pub integers-compared : (x y : ℤ) → compared (Value.Int x) (Value.Int y) ≡ Some (int_cmp x y)
integers-compared x y = ap Some (same_scale_cmp x y 0)

-- a decimal that there is, in place of the value
pub decimal-there : (r : Option Dec) (v : Value) → unwrap_or (option_map Value.Dec r) Value.Beyond ≡ v → IfSome r (λ d. Value.Dec d ≡ v)
decimal-there (Some d) v e = e
decimal-there None v e = tt

-- the answer of a test to the order of values that compare
pub tested-by : (test : Ordering → Bool) (a b : Value) (o : Ordering) → compared a b ≡ Some o → Value.Bool (test o) ≡ tested test a b
tested-by test a b o h = ap (λ r. Value.Bool (unwrap_or (option_map test r) false)) (sym h)

-- tests that answer the same to each order
pub each-order : (f g : Ordering → Bool) → f Less ≡ g Less → f Equal ≡ g Equal → f Greater ≡ g Greater → (o : Ordering) → f o ≡ g o
each-order f g a b c Less = a
each-order f g a b c Equal = b
each-order f g a b c Greater = c

-- an operator that tests the order of a number and an integer
pub number-tested : (op : BinOp) (f g : Ordering → Bool) → ((x y : ℤ) → binary op (Value.Int x) (Value.Int y) ≡ tested f (Value.Int x) (Value.Int y))
    → ((d : Dec) (y : ℤ) → binary op (Value.Dec d) (Value.Int y) ≡ tested f (Value.Dec d) (Value.Int y)) → ((o : Ordering) → f o ≡ g o)
    → (a : Value) (y : ℤ) → IsTrue (is_number a) → binary op a (Value.Int y) ≡ tested g a (Value.Int y)
number-tested op f g i d e Value.Null y h = absurd (true≢false (sym h))
number-tested op f g i d e (Value.Bool b) y h = absurd (true≢false (sym h))
number-tested op f g i d e (Value.Int x) y h = i x y ∙ ap Value.Bool (e (number_cmp (x, 0) (y, 0)))
number-tested op f g i d e (Value.Dec a) y h = d a y ∙ ap Value.Bool (e (number_cmp (a.mantissa, a.scale) (y, 0)))
number-tested op f g i d e (Value.Text t) y h = absurd (true≢false (sym h))
number-tested op f g i d e (Value.Day d') y h = absurd (true≢false (sym h))
number-tested op f g i d e Value.Beyond y h = absurd (true≢false (sym h))

-- the sum with the integer of the other sign
pub minus-is : (a : Value) (y n : ℤ) → n ≡ neg_ℤ y → plus a (Value.Int n) ≡ minus a (Value.Int y)
minus-is Value.Null y n e = refl
minus-is (Value.Bool b) y n e = refl
minus-is (Value.Int x) y n e = ap (λ z. integer (x +ℤ z)) e
minus-is (Value.Dec d) y n e = ap (λ z. of-number (number_plus (d.mantissa, d.scale) (z, 0))) e
minus-is (Value.Text t) y n e = refl
minus-is (Value.Day d) y n e = refl
minus-is Value.Beyond y n e = refl

-- ---- blocks

mapped-alike : {A : Type 0} (of : A → Value) (f g : Value → Value) (xs : List A) → ((x : A) → f (of x) ≡ g (of x)) → map f (map of xs) ≡ map g (map of xs)
mapped-alike of f g [] h = refl
mapped-alike of f g (x ∷ xs) h = λ i. h x i ∷ mapped-alike of f g xs h i

-- operations that give the same on these values make the same block
pub made-alike : {A E : Type 0} (of : A → Value) (f g : Value → Value) (xs : List A) (r : result.Result (Option Block) E) → ((x : A) → f (of x) ≡ g (of x))
    → IfOk r (λ o. IfSome o (λ b. block_values b ≡ map f (map of xs))) → IfOk r (λ o. IfSome o (λ b. block_values b ≡ map g (map of xs)))
made-alike of f g xs (Ok (Some b)) h k = k ∙ mapped-alike of f g xs h
made-alike of f g xs (Ok None) h k = k
made-alike of f g xs (Err e) h k = k
