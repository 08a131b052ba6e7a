use Rattle.step_run.proofs.RunLevels.{slice-at}
use Rattle.pipe_run.proofs.ready.level_ready.Goals as goal

pub returns : goal.returns
returns g c =
    let r = c.requires.ready in
    (r.0, r.1, r.2 c.args.i c.args.level.now (slice-at c.args.levels.now c.args.i c.args.level.now c.requires.within c.requires.level))
