use Rattle.par_stages.proofs.Cuts.{pieces-all}
use Rattle.par_stages.proofs.bounds.pieces_are_all.Goals as goal

pub returns : goal.returns
returns g c = record { value = pieces-all c.args.k c.args.items.now c.requires.some }
