use Rattle.frame_run.proofs.FrontLemmas.{first-rows}
use Rattle.frame_run.proofs.held.Held.of_set.Goals as goal

pub returns-clause-rows : goal.returns-clause-rows
returns-clause-rows c = first-rows c.args.store.now c.args.set c.count.result c.count.ensures.value
