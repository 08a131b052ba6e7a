use Rattle.std.proofs.Common.{ap, sym, subst, arith}
use Rattle.apply_ast.specs.Views.{step_of}
use Rattle.context_typing.specs.Readings.{readings}
use Rattle.apply_meaning.specs.Meaning.{step_mean}
use Rattle.apply_meaning.specs.Running.{Gives}
use Rattle.step_run.specs.Conditions.{StepReadyFrom, StepRunsFrom}
use Rattle.step_run.specs.Costs.{step_cost}
use Rattle.frame_run.proofs.held.run_on_rows.Goals as goal

pub run_step-requires-clause-ready : goal.run_step-requires-clause-ready
run_step-requires-clause-ready g c κs within =
    subst (StepReadyFrom c.args.context.now c.args.root.now (step_of c.args.step.now)) (sym c.in_ok-rows.ensures.rows) c.requires.ready

pub returns-clause-mean : goal.returns-clause-mean
returns-clause-mean g c = λ S S' R.
    let x = c.args.context.now in
    let s = step_of c.args.step.now in
    let e = c.in_ok-rows.ensures.rows in
    c.as_held.ensures.gives (step_mean x.world (readings x.customs) S s c.args.frame)
    (subst (λ l. Gives c.run_step.result (step_mean x.world (readings x.customs) S s l)) e
    (c.run_step.ensures.mean S S' (subst (StepRunsFrom x c.args.root.now S S' s) (sym e) R)))

pub returns-clause-steps : goal.returns-clause-steps
returns-clause-steps g c = λ S S' R.
    let x = c.args.context.now in
    let s = step_of c.args.step.now in
    let e = c.in_ok-rows.ensures.rows in
    let spent = c.run_step.ensures.steps S S' (subst (StepRunsFrom x c.args.root.now S S' s) (sym e) R) in
    let same = ap (λ l. step_cost x.world (readings x.customs) S s l) e in
    omega (arith, spent, same, c.into_rows.ensures.steps, c.as_held.ensures.owed)

pub returns-clause-grown : goal.returns-clause-grown
returns-clause-grown g c = omega (arith, c.into_rows.ensures.grown, c.run_step.ensures.grown)
