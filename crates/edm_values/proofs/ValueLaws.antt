-- The comparison of two values and their order: on values of one kind the two agree.
use Rattle.std.proofs.Common.{◌≡◌, ℕ, suc, Bool, true, false, refl, sym, ◌∙◌, ap, ℤ, List}
use Rattle.std.specs.Prelude.{Option, Some, None, is_some}
use Rattle.std.specs.declared.cmp.Ordering.{Ordering}
use Rattle.std.specs.declared.cmp.Ordering.TheVariants.{Less, Equal, Greater}
use Rattle.std.specs.Ordering.{nat_cmp, ordering_then}
use Rattle.std.specs.Cmp.Lexicographic.{slice_cmp}
use Rattle.std.proofs.lemmas.Bool.{eqb-true, false≢true}
use Rattle.std.proofs.lemmas.Cmp.{nat_cmp_total, tied_itself}
use Rattle.edm_values.specs.declared.Day.{Day}
use Rattle.edm_values.specs.declared.Dec.{Dec}
use Rattle.edm_values.specs.declared.Value.{Value}
use Rattle.edm_values.specs.Values.{are_comparable, are_of_one_kind, number_cmp, value_cmp, compared, kind_place, scale_place, date_cmp}
pub use Rattle.edm_values.specs.OrderLaws.{number_cmp_total, same_scale_cmp, value_cmp_total, same_value_is, same_value_itself}

then_Equal : (r : Ordering) → ordering_then r Equal ≡ r
then_Equal Less = refl
then_Equal Equal = refl
then_Equal Greater = refl

nat_cmp_itself : (n : ℕ) → nat_cmp n n ≡ Equal
nat_cmp_itself n = tied_itself nat_cmp_total n

-- the comparison of two values of one kind is their order: of two integers
pub integers_agree : (x y : ℤ) → compared (Value.Int x) (Value.Int y) ≡ Some (value_cmp (Value.Int x) (Value.Int y))
integers_agree x y = ap Some (sym (then_Equal (number_cmp (x, 0) (y, 0))))

-- of two decimals of one scale
pub decimals_agree : (a b : Dec) → a.scale ≡ b.scale → compared (Value.Dec a) (Value.Dec b) ≡ Some (value_cmp (Value.Dec a) (Value.Dec b))
decimals_agree a b h =
    let tied : nat_cmp (suc a.scale) (suc b.scale) ≡ Equal = ap (λ s. nat_cmp (suc a.scale) (suc s)) (sym h) ∙ nat_cmp_itself (suc a.scale) in
    ap Some (sym (ap (λ r. ordering_then (number_cmp (a.mantissa, a.scale) (b.mantissa, b.scale)) (ordering_then r Equal)) tied ∙ then_Equal (number_cmp (a.mantissa, a.scale) (b.mantissa, b.scale))))

-- of two texts
pub texts_agree : (a b : List ℕ) → compared (Value.Text a) (Value.Text b) ≡ Some (value_cmp (Value.Text a) (Value.Text b))
texts_agree a b = refl

-- of two Booleans
pub booleans_agree : (a b : Bool) → compared (Value.Bool a) (Value.Bool b) ≡ Some (value_cmp (Value.Bool a) (Value.Bool b))
booleans_agree true true = refl
booleans_agree true false = refl
booleans_agree false true = refl
booleans_agree false false = refl

-- of two days
pub days_agree : (a b : Day) → compared (Value.Day a) (Value.Day b) ≡ Some (value_cmp (Value.Day a) (Value.Day b))
days_agree a b = ap (λ r. Some (ordering_then (nat_cmp a.year b.year) (ordering_then (nat_cmp a.month b.month) r))) (sym (then_Equal (nat_cmp a.day b.day)))

-- of two values of one kind
pub one_kind_agrees : (a b : Value) → are_of_one_kind a b ≡ true → compared a b ≡ Some (value_cmp a b)
one_kind_agrees (Value.Bool a) (Value.Bool b) h = booleans_agree a b
one_kind_agrees (Value.Int x) (Value.Int y) h = integers_agree x y
one_kind_agrees (Value.Dec a) (Value.Dec b) h = decimals_agree a b (eqb-true a.scale b.scale h)
one_kind_agrees (Value.Text a) (Value.Text b) h = texts_agree a b
one_kind_agrees (Value.Day a) (Value.Day b) h = days_agree a b
one_kind_agrees Value.Null b h = absurd (false≢true h)
one_kind_agrees Value.Beyond b h = absurd (false≢true h)
one_kind_agrees _ _ h = absurd (false≢true h)

-- there is an order of two numbers, and of two values of one kind, and of no others
pub comparable_is : (a b : Value) → is_some (compared a b) ≡ are_comparable a b
comparable_is Value.Null Value.Null = refl
comparable_is Value.Beyond Value.Beyond = refl
comparable_is (Value.Bool a) (Value.Bool b) = refl
comparable_is (Value.Int x) (Value.Int y) = refl
comparable_is (Value.Int x) (Value.Dec b) = refl
comparable_is (Value.Dec a) (Value.Int y) = refl
comparable_is (Value.Dec a) (Value.Dec b) = refl
comparable_is (Value.Text a) (Value.Text b) = refl
comparable_is (Value.Day a) (Value.Day b) = refl
comparable_is _ _ = refl

-- ---- the order by the comparison

-- the comparison's answer and then the scales', or else the kinds'
abbrev pub by_comparison : Option Ordering → Ordering → Ordering → Ordering
by_comparison (Some r) scales kinds = ordering_then r scales
by_comparison None scales kinds = kinds

-- the total order is the comparison, then the scales, and the kinds where values do not compare
pub order_by_comparison : (a b : Value) → value_cmp a b ≡ by_comparison (compared a b) (nat_cmp (scale_place a) (scale_place b)) (nat_cmp (kind_place a) (kind_place b))
order_by_comparison Value.Null Value.Null = refl
order_by_comparison Value.Beyond Value.Beyond = refl
order_by_comparison (Value.Int x) (Value.Int y) = refl
order_by_comparison (Value.Int x) (Value.Dec e) = ap (ordering_then (number_cmp (x, 0) (e.mantissa, e.scale))) (then_Equal (nat_cmp 0 (suc e.scale)))
order_by_comparison (Value.Dec d) (Value.Int y) = ap (ordering_then (number_cmp (d.mantissa, d.scale) (y, 0))) (then_Equal (nat_cmp (suc d.scale) 0))
order_by_comparison (Value.Dec d) (Value.Dec e) = ap (ordering_then (number_cmp (d.mantissa, d.scale) (e.mantissa, e.scale))) (then_Equal (nat_cmp (suc d.scale) (suc e.scale)))
order_by_comparison (Value.Bool true) (Value.Bool true) = refl
order_by_comparison (Value.Bool true) (Value.Bool false) = refl
order_by_comparison (Value.Bool false) (Value.Bool true) = refl
order_by_comparison (Value.Bool false) (Value.Bool false) = refl
order_by_comparison (Value.Text a) (Value.Text b) = sym (then_Equal (slice_cmp nat_cmp a b))
order_by_comparison (Value.Day a) (Value.Day b) =
    ap (λ r. ordering_then (nat_cmp a.year b.year) (ordering_then (nat_cmp a.month b.month) r)) (then_Equal (nat_cmp a.day b.day)) ∙ sym (then_Equal (date_cmp a b))
order_by_comparison _ _ = refl
