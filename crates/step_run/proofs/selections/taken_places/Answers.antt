use Rattle.std.proofs.Common.{true, false, Bool, List, map, subst, sym}
use Rattle.edm_values.specs.Values.{Number, reaches_sum, seen_value, top_places}
use Rattle.edm_values.specs.declared.Value.{Value}
use Rattle.apply_ast.specs.Views.{number_literal_of}
use Rattle.apply_ast.specs.declared.items.Limit.TheVariants as code
use Rattle.top_family.specs.Selections.{Takes}
use Rattle.step_run.proofs.TakenRows.{limit-is, sum-reaches}
use Rattle.step_run.proofs.selections.taken_places.Goals as goal

pub returns-in-Count-true : goal.returns-in-Count-true
returns-in-Count-true g c =
    let vs = map seen_value c.args.values.now in
    limit-is c.args.limit.now (code.Count c.in-Count-true.n) c.args.bottom true vs c.count_in_parts.result c.in-Count-true.is-0 c.in-Count-true.is-1
    c.count_in_parts.ensures.value

pub returns-in-Count-false : goal.returns-in-Count-false
returns-in-Count-false g c =
    let vs = map seen_value c.args.values.now in
    limit-is c.args.limit.now (code.Count c.in-Count-false.n) c.args.bottom false vs c.count_in_parts-in-Count-false.result c.in-Count-false.is-0 c.in-Count-false.is-1
    c.count_in_parts-in-Count-false.ensures.value

pub returns-in-Sum-true : goal.returns-in-Sum-true
returns-in-Sum-true g c =
    let vs = map seen_value c.args.values.now in
    limit-is c.args.limit.now (code.Sum c.in-Sum-true.number) c.args.bottom true vs c.bottom_sum.result c.in-Sum-true.is-0 c.in-Sum-true.is-1
    (subst (λ (enough : List Value → Bool). Takes (top_places enough true vs) c.bottom_sum.result) (sym (sum-reaches (number_literal_of c.in-Sum-true.number) vs))
    (subst (λ (v : Number). Takes (top_places (reaches_sum v) true vs) c.bottom_sum.result) c.number_value.ensures c.bottom_sum.ensures.value))

pub returns-in-Sum-false : goal.returns-in-Sum-false
returns-in-Sum-false g c =
    let vs = map seen_value c.args.values.now in
    limit-is c.args.limit.now (code.Sum c.in-Sum-false.number) c.args.bottom false vs c.top_sum.result c.in-Sum-false.is-0 c.in-Sum-false.is-1
    (subst (λ (enough : List Value → Bool). Takes (top_places enough false vs) c.top_sum.result) (sym (sum-reaches (number_literal_of c.in-Sum-false.number) vs))
    (subst (λ (v : Number). Takes (top_places (reaches_sum v) false vs) c.top_sum.result) c.number_value-in-Sum-false.ensures c.top_sum.ensures.value))

pub returns-in-Percent-true : goal.returns-in-Percent-true
returns-in-Percent-true g c =
    let vs = map seen_value c.args.values.now in
    limit-is c.args.limit.now (code.Percent c.in-Percent-true.p) c.args.bottom true vs c.bottom_percent.result c.in-Percent-true.is-0 c.in-Percent-true.is-1
    c.bottom_percent.ensures.value

pub returns-in-Percent-false : goal.returns-in-Percent-false
returns-in-Percent-false g c =
    let vs = map seen_value c.args.values.now in
    limit-is c.args.limit.now (code.Percent c.in-Percent-false.p) c.args.bottom false vs c.top_percent.result c.in-Percent-false.is-0 c.in-Percent-false.is-1
    c.top_percent.ensures.value
