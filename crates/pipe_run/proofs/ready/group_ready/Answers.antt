use Rattle.apply_meaning.proofs.MeanLemmas.{fit-at_places}
use Rattle.pipe_run.proofs.ready.group_ready.Goals as goal

pub returns : goal.returns
returns g c =
    let w = c.args.context.now.world in
    let r = c.requires.ready in
    let R = (r.2).inner in (
      r.0,
      r.1,
      record {
        runs = record { customs = R.runs.customs; lawful = R.runs.lawful; typed = R.runs.typed; fit = fit-at_places w r.0 c.args.rows.now c.args.places.now R.runs.fit };
        root_is = R.root_is;
      },
    )
