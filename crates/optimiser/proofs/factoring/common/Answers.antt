use Rattle.std.proofs.Common.{◌∙◌, sym, arith}
use Rattle.apply_ast.specs.Views.{step_of}
use Rattle.optimiser.specs.RestForms.{lists_of}
use Rattle.optimiser.proofs.FactorLemmas.{out-end, out-next, out-none, out-stop}
use Rattle.optimiser.proofs.factoring.common.Goals as goal

pub loop-at-init : goal.loop-at-init
loop-at-init c = (omega arith, out-none (lists_of c.args.others.now) step_of c.args.first.now)

pub loop-at-preserved : goal.loop-at-preserved
loop-at-preserved c =
    let xs = c.args.first.now in
    let i = c.loop-at.at in
    let x = c.index-first-at.result in (
      omega (arith, c.loop-at-test.true),
      out-next (lists_of c.args.others.now) step_of xs i x c.loop-at-test.true c.index-first-at.is (sym c.stands_in_all.ensures ∙ c.if-not-stands_in_all.false) c.loop-at.invariant.1,
    )

pub returns-then-not-stands_in_all-clause-value : goal.returns-then-not-stands_in_all-clause-value
returns-then-not-stands_in_all-clause-value c =
    out-stop (lists_of c.args.others.now) step_of c.args.first.now c.loop-at.at c.index-first-at.result c.loop-at-test.true c.index-first-at.is (sym c.stands_in_all.ensures ∙ c.if-not-stands_in_all.true) c.loop-at.invariant.1

pub returns-clause-value : goal.returns-clause-value
returns-clause-value c = out-end (lists_of c.args.others.now) step_of c.args.first.now c.loop-at.at (omega (arith, c.loop-at-test.false)) c.loop-at.invariant.0 c.loop-at.invariant.1
