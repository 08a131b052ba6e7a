use Rattle.std.proofs.Common.{map, drop, ◌+◌}
use Rattle.apply_ast.specs.Trees.{pipe}
use Rattle.apply_ast.specs.Views.{step_of}
use Rattle.context_typing.specs.Readings.{readings}
use Rattle.apply_meaning.proofs.RunLemmas.{turn, next-step}
use Rattle.pipe_run.proofs.ready.step_ready.Goals as goal

pub returns : goal.returns
returns g c =
    let x = c.args.context.now in
    let ss = c.args.steps.now in
    let r = c.requires.ready in
    let e = next-step ss c.args.i c.args.step.now c.requires.within c.requires.step in
    let u = turn x.world (readings x.customs) r.0 r.1 _ (step_of c.args.step.now) (pipe (map step_of (drop (c.args.i + 1) ss))) c.args.rows.now.items e (r.2).runs in
    (r.0, u.between, record { runs = u.first; root_is = (r.2).root_is })
