use Rattle.std.proofs.Common.{◌≤◌, ◌∙◌, refl, sym, arith, ap, length, map}
use Rattle.std.proofs.lemmas.List.{take_all}
use Rattle.std.specs.List.{list_all}
use Rattle.apply_ast.specs.Views.{step_of}
use Rattle.optimiser.specs.CrossingForms.{crosses_by}
use Rattle.optimiser.proofs.CrossingLemmas.{more-crossing}
use Rattle.optimiser.proofs.crossing.count_crossing.Goals as goal

pub loop-at-init : goal.loop-at-init
loop-at-init c = (omega arith, refl)

pub loop-at-preserved : goal.loop-at-preserved
loop-at-preserved c =
    let xs = c.args.steps.now in
    let i = c.loop-at.at in
    let x = c.index-steps-at.result in (
      omega (arith, c.loop-at-test.true),
      more-crossing step_of (crosses_by c.args.m.now c.args.shape.now c.args.ways.now) xs i x c.loop-at-test.true c.index-steps-at.is c.loop-at.invariant.1 (sym c.crosses.ensures ∙ c.if-not-crosses.false),
    )

pub returns-clause-value : goal.returns-clause-value
returns-clause-value c =
    let xs = c.args.steps.now in
    let end : length xs ≤ c.loop-at.at = omega (arith, c.loop-at-test.false) in
    ap (λ l. list_all (crosses_by c.args.m.now c.args.shape.now c.args.ways.now) (map step_of l)) (take_all (length xs) xs (omega arith) ∙ sym (take_all c.loop-at.at xs end)) ∙ c.loop-at.invariant.1
