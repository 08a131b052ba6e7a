use Rattle.apply_meaning.proofs.MeanLemmas.{fit-at_places}
use Rattle.step_run.proofs.kept_groups.group_ready.Goals as goal

pub returns : goal.returns
returns g c =
    let r = c.requires.ready in
    let run = (r.2).inner.runs in
    (r.0, r.1, record { runs = record { customs = run.customs; lawful = run.lawful; typed = run.typed; fit = fit-at_places c.args.context.now.world r.0 c.args.rows.now c.args.places.now run.fit }; root_is = (r.2).inner.root_is })
