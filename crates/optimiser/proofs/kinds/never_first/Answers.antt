use Rattle.std.proofs.Common.{sym, ◌∙◌, ap, ◌+◌, ◌≤◌, arith, length, drop, map}
use Rattle.std.proofs.Math.ListN.{drop_of_length-le}
use Rattle.apply_ast.specs.Trees.{pipe}
use Rattle.apply_ast.specs.Views.{step_of}
use Rattle.rewrite_forms.proofs.CutLists.{dropped-next}
use Rattle.walk_laws.specs.Apart as spec
use Rattle.optimiser.proofs.KindLemmas.{never-here, never-next, never-stop}
use Rattle.optimiser.proofs.kinds.never_first.Goals as goal

pub loop-there-init : goal.loop-there-init
loop-there-init c = ap (spec.never_first (spec.kind_of (step_of c.args.step.now))) c.steps-there-items.ensures.tree

pub loop-there-preserved : goal.loop-there-preserved
loop-there-preserved c =
    let xs = c.steps-there-items.result.now in
    let i = c.loop-there.there-index in
    let x = spec.kind_of (step_of c.args.step.now) in
    c.loop-there.invariant ∙ ap (λ l. spec.never_first x (pipe l)) (dropped-next step_of xs i c.there-item.result c.loop-there-test.true c.there-item.is)
    ∙ never-next x (step_of c.there-item.result) c.same_kind.ensures c.if-same_kind.false c.may_go.ensures c.if-not-may_go.false (pipe (map step_of (drop (i + 1) xs)))

pub returns-then-same_kind : goal.returns-then-same_kind
returns-then-same_kind c =
    let xs = c.steps-there-items.result.now in
    let i = c.loop-there.there-index in
    let x = spec.kind_of (step_of c.args.step.now) in
    sym (c.loop-there.invariant ∙ ap (λ l. spec.never_first x (pipe l)) (dropped-next step_of xs i c.there-item.result c.loop-there-test.true c.there-item.is)
    ∙ never-here x (step_of c.there-item.result) c.same_kind.ensures c.if-same_kind.true (pipe (map step_of (drop (i + 1) xs))))

pub returns-then-not-may_go : goal.returns-then-not-may_go
returns-then-not-may_go c =
    let xs = c.steps-there-items.result.now in
    let i = c.loop-there.there-index in
    let x = spec.kind_of (step_of c.args.step.now) in
    sym (c.loop-there.invariant ∙ ap (λ l. spec.never_first x (pipe l)) (dropped-next step_of xs i c.there-item.result c.loop-there-test.true c.there-item.is)
    ∙ never-stop x (step_of c.there-item.result) c.same_kind.ensures c.if-same_kind.false c.may_go.ensures c.if-not-may_go.true (pipe (map step_of (drop (i + 1) xs))))

pub returns : goal.returns
returns c =
    let xs = c.steps-there-items.result.now in
    let end : length xs ≤ c.loop-there.there-index = omega (arith, c.loop-there-test.false) in
    sym (c.loop-there.invariant ∙ ap (λ l. spec.never_first (spec.kind_of (step_of c.args.step.now)) (pipe (map step_of l))) (drop_of_length-le xs end))
