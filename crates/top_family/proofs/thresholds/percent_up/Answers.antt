use Rattle.std.proofs.Common.{◌≤◌, ◌^◌, ◌∙◌, ap, sym, subst, arith, nat_abs, pos, lit<}
use Rattle.std.specs.Int.{w128, int_div_euclid, int_rem_euclid}
use Rattle.std.proofs.lemmas.Int.{to_z-of_z}
use Rattle.top_family.proofs.Quotients.{hundredth_small}
use Rattle.top_family.proofs.Wide.{percent_is, product_fits}
use Rattle.top_family.proofs.thresholds.percent_up.Goals as goal

pub overflow_mul-result : goal.overflow_mul-result
overflow_mul-result c =
    let all = to_z-of_z w128 c.args.all c.ranges.all in
    let small = hundredth_small c.args.all c.requires.size in
    let percent : nat_abs c.from-p.result ≤ 100 = subst (λ z. nat_abs z ≤ 100) (sym c.from-p.ensures) c.requires.percent in
    let whole : nat_abs c.div_euclid.result ≤ 2 ^ 120 = subst (λ z. nat_abs z ≤ 2 ^ 120) (sym (c.div_euclid.ensures ∙ ap (λ z. int_div_euclid z (pos 100)) all)) (omega (arith, small)) in
    product_fits c.from-p.result c.div_euclid.result 100 (2 ^ 120) percent whole (lit< tt) (lit< tt) (lit< tt)

pub overflow_add-result : goal.overflow_add-result
overflow_add-result c =
    let all = to_z-of_z w128 c.args.all c.ranges.all in
    (percent_is c.args.p c.args.all c.from-p.result c.div_euclid.result c.rem_euclid.result c.quotient_up.result c.requires.percent c.requires.size c.from-p.ensures
    (c.div_euclid.ensures ∙ ap (λ z. int_div_euclid z (pos 100)) all) (c.rem_euclid.ensures.value ∙ ap (λ z. int_rem_euclid z (pos 100)) all) c.quotient_up.ensures).0

pub returns : goal.returns
returns c =
    let all = to_z-of_z w128 c.args.all c.ranges.all in
    (percent_is c.args.p c.args.all c.from-p.result c.div_euclid.result c.rem_euclid.result c.quotient_up.result c.requires.percent c.requires.size c.from-p.ensures
    (c.div_euclid.ensures ∙ ap (λ z. int_div_euclid z (pos 100)) all) (c.rem_euclid.ensures.value ∙ ap (λ z. int_rem_euclid z (pos 100)) all) c.quotient_up.ensures).1
