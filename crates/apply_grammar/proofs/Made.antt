-- Decimals and days that the values' constructors made.
use Rattle.std.proofs.Common.{◌≡◌, ℕ, Bool, true, false, IsTrue, List, length, Some, refl, sym, ap, ◌∙◌, eq-eqb, pos, ℤ}
use Rattle.edm_values.specs.declared.Dec.{Dec}
use Rattle.edm_values.specs.declared.Day.{Day}
use Rattle.edm_values.specs.Parts.{is_decimal, is_day}
use Rattle.edm_values.specs.Values.{where_true, decimal_of, decimal, day_of, day_from}
use Rattle.apply_ast.specs.Trees.{Expr}
use Rattle.apply_grammar.specs.Reading.{after, value_behind, two_digits_at, date_at}
use Rattle.edm_values.proofs.OptionFacts.{some_value}

where_true_then : {X P : Type 0} (b : Bool) (f : IsTrue b → X) {x : X} → where_true b f ≡ Some x → ((h : b ≡ true) → f h ≡ x → P) → P
where_true_then true f e k = k refl (some_value e)
where_true_then false f e k = absurd cc

pub decimal_made : (m : ℤ) (s : ℕ) (d : Dec) → Some d ≡ decimal_of m s → (d.mantissa ≡ m) × (d.scale ≡ s)
decimal_made m s d h = where_true_then (is_decimal m s) (decimal m s) (sym h) (λ o v. (ap (λ (x : Dec). x.mantissa) (sym v), ap (λ (x : Dec). x.scale) (sym v)))

pub day_read : (year t : List ℕ) (y m : ℕ) (s r : List ℕ) (d : ℕ) (u : List ℕ) (x : Day) (z : ℤ) → Some y ≡ value_behind 9999 0 year → Some (m, s) ≡ two_digits_at t → Some r ≡ after 45 s → Some (d, u) ≡ two_digits_at r → length year ≡ 4 → Some x ≡ day_of z m d → z ≡ pos y → Some (Expr.Day x.year x.month x.day, u) ≡ date_at year t
unfolding date_at
day_read year t y m s r d u x z a b c e f g k =
    where_true_then (is_day y m d) (day_from y m d) (sym (g ∙ ap (λ w. day_of w m d) k)) (λ o v.
    rw (sym a, sym b, sym c, sym e, eq-eqb (length year) 4 f, o) (ap (λ (z : Day). Some (Expr.Day z.year z.month z.day, u)) (sym v)))
