use Rattle.std.proofs.Common.{sym, ◌∙◌, ap, ◌+◌, ◌≤◌, true, arith, length, drop, map}
use Rattle.std.proofs.Math.ListN.{drop_of_length-le}
use Rattle.apply_ast.specs.Trees.{pipe}
use Rattle.apply_ast.specs.Views.{step_of}
use Rattle.rewrite_forms.proofs.CutLists.{dropped-next}
use Rattle.walk_laws.specs.FiltersOut as spec
use Rattle.optimiser.proofs.GivenLemmas.{stay-next, stay-stop}
use Rattle.optimiser.proofs.given.gives_at_front.Goals as goal

pub loop-step-init : goal.loop-step-init
loop-step-init c = ap (spec.filters_stay true) c.steps-step-items.ensures.tree

pub loop-step-preserved : goal.loop-step-preserved
loop-step-preserved c =
    let xs = c.steps-step-items.result.now in
    let i = c.loop-step.step-index in
    c.loop-step.invariant ∙ ap (λ l. spec.filters_stay c.loop-step.stays (pipe l)) (dropped-next step_of xs i c.step-item.result c.loop-step-test.true c.step-item.is)
    ∙ stay-next c.loop-step.stays (step_of c.step-item.result) (pipe (map step_of (drop (i + 1) xs))) c.may_stand.ensures c.if-not-may_stand.false c.stays_behind-stays.ensures

pub returns-then-not-may_stand : goal.returns-then-not-may_stand
returns-then-not-may_stand c =
    let xs = c.steps-step-items.result.now in
    let i = c.loop-step.step-index in
    record {
      value = sym (c.loop-step.invariant ∙ ap (λ l. spec.filters_stay c.loop-step.stays (pipe l)) (dropped-next step_of xs i c.step-item.result c.loop-step-test.true c.step-item.is)
          ∙ stay-stop c.loop-step.stays (step_of c.step-item.result) (pipe (map step_of (drop (i + 1) xs))) c.may_stand.ensures c.if-not-may_stand.true);
    }

pub returns : goal.returns
returns c =
    let xs = c.steps-step-items.result.now in
    let end : length xs ≤ c.loop-step.step-index = omega (arith, c.loop-step-test.false) in
    record { value = sym (c.loop-step.invariant ∙ ap (λ l. spec.filters_stay c.loop-step.stays (pipe (map step_of l))) (drop_of_length-le xs end)) }
