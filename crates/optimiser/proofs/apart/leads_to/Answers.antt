use Rattle.std.proofs.Common.{sym, ◌∙◌, ap, ◌+◌, ◌≤◌, arith, length, drop, map}
use Rattle.std.proofs.Math.ListN.{drop_of_length-le}
use Rattle.apply_ast.specs.Trees.{pipe}
use Rattle.apply_ast.specs.Views.{step_of}
use Rattle.rewrite_forms.proofs.CutLists.{dropped-next}
use Rattle.walk_laws.specs.Apart as spec
use Rattle.optimiser.proofs.ApartLemmas.{leads-next, leads-stop}
use Rattle.optimiser.proofs.apart.leads_to.Goals as goal

pub loop-there-init : goal.loop-there-init
loop-there-init c = ap (spec.leads_to (step_of c.args.step.now)) c.steps-there-items.ensures.tree

pub loop-there-preserved : goal.loop-there-preserved
loop-there-preserved c =
    let xs = c.steps-there-items.result.now in
    let i = c.loop-there.there-index in
    let x = step_of c.args.step.now in
    c.loop-there.invariant ∙ ap (λ l. spec.leads_to x (pipe l)) (dropped-next step_of xs i c.there-item.result c.loop-there-test.true c.there-item.is)
    ∙ leads-next x (step_of c.there-item.result) c.may_go.ensures c.if-not-may_go.false (pipe (map step_of (drop (i + 1) xs)))

pub returns-then-not-may_go : goal.returns-then-not-may_go
returns-then-not-may_go c =
    let xs = c.steps-there-items.result.now in
    let i = c.loop-there.there-index in
    let x = step_of c.args.step.now in
    c.same_step.ensures.value
    ∙ sym (c.loop-there.invariant ∙ ap (λ l. spec.leads_to x (pipe l)) (dropped-next step_of xs i c.there-item.result c.loop-there-test.true c.there-item.is)
    ∙ leads-stop x (step_of c.there-item.result) c.may_go.ensures c.if-not-may_go.true (pipe (map step_of (drop (i + 1) xs))))

pub returns : goal.returns
returns c =
    let xs = c.steps-there-items.result.now in
    let end : length xs ≤ c.loop-there.there-index = omega (arith, c.loop-there-test.false) in
    sym (c.loop-there.invariant ∙ ap (λ l. spec.leads_to (step_of c.args.step.now) (pipe (map step_of l))) (drop_of_length-le xs end))
