use Rattle.std.proofs.Common.{◌≡◌, ◌∙◌, ap, sym, arith, pos, ◌+ℤ◌, to_z, of_z, subst, FitsSigned}
use Rattle.std.specs.Prelude.{int_le}
use Rattle.std.specs.Int.{w128, int_div_euclid, int_rem_euclid}
use Rattle.std.proofs.lemmas.Int.{ints, to_z-of_z}
use Rattle.top_family.proofs.Quotients.{exact_quotient, next_fits, next_quotient}
use Rattle.top_family.proofs.thresholds.quotient_up.Goals as goal

pub returns-then-rem_euclid-eq0 : goal.returns-then-rem_euclid-eq0
returns-then-rem_euclid-eq0 c = λ x.
    let a = to_z-of_z w128 c.args.a c.ranges.a in
    let b = to_z-of_z w128 c.args.b c.ranges.b in
    let none : c.rem_euclid.result ≡ pos 0 = omega (arith, ints, c.if-rem_euclid-eq0.true) in
    let rest : int_rem_euclid c.args.a c.args.b ≡ pos 0 = sym (c.rem_euclid.ensures.value ∙ (λ i. int_rem_euclid (a i) (b i))) ∙ none in
    let whole : to_z w128 (of_z w128 c.div_euclid-whole.result) ≡ int_div_euclid c.args.a c.args.b = to_z-of_z w128 c.div_euclid-whole.result (record { sfits = c.div_euclid-whole.type_inv }) ∙ c.div_euclid-whole.ensures ∙ (λ i. int_div_euclid (a i) (b i)) in
    exact_quotient c.args.a c.args.b c.requires rest x ∙ ap (λ q. int_le q x) (sym whole)

pub returns-else-rem_euclid-eq0 : goal.returns-else-rem_euclid-eq0
returns-else-rem_euclid-eq0 c = λ x.
    let a = to_z-of_z w128 c.args.a c.ranges.a in
    let b = to_z-of_z w128 c.args.b c.ranges.b in
    let rest = c.rem_euclid.ensures.value ∙ (λ i. int_rem_euclid (a i) (b i)) in
    let whole = c.div_euclid-whole.ensures ∙ (λ i. int_div_euclid (a i) (b i)) in
    let fits : FitsSigned w128 (c.div_euclid-whole.result +ℤ pos 1) = subst (λ q. FitsSigned w128 (q +ℤ pos 1)) (sym whole) (next_fits c.args.a c.args.b c.ranges.a c.requires (λ e. c.if-rem_euclid-eq0.false (ap (of_z w128) (rest ∙ e)))) in
    let next : to_z w128 (of_z w128 (to_z w128 (of_z w128 c.div_euclid-whole.result) +ℤ pos 1)) ≡ c.div_euclid-whole.result +ℤ pos 1 = omega (arith, ints) in
    next_quotient c.args.a c.args.b c.requires (λ e. c.if-rem_euclid-eq0.false (ap (of_z w128) (rest ∙ e))) x ∙ ap (λ q. int_le q x) (sym (next ∙ ap (λ q. q +ℤ pos 1) whole))
