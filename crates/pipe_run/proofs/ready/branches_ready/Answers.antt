use Rattle.std.proofs.Common.{ap, subst, map}
use Rattle.apply_ast.proofs.ViewEquations.{pipes_of-is}
use Rattle.apply_ast.specs.Trees.{Step}
use Rattle.apply_ast.specs.Views.{pipe_of, pipes_in}
use Rattle.step_run.specs.Conditions.{StepRunsFrom}
use Rattle.pipe_run.proofs.ConcatLemmas.{branches-run}
use Rattle.pipe_run.proofs.ready.branches_ready.Goals as goal

pub returns : goal.returns
returns g c =
    let x = c.args.context.now in
    let root = c.args.root.now in
    let r = c.requires in
    let e = ap Step.Concat (pipes_of-is c.args.branches.now) in
    (r.0, branches-run x root r.0 r.1 (map pipe_of (pipes_in c.args.branches.now)) c.args.rows.now (subst (λ s. StepRunsFrom x root r.0 r.1 s c.args.rows.now) e r.2))
