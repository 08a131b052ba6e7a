use Rattle.std.proofs.lemmas.List.{get_or_default}
use Rattle.row_frames.proofs.picks.pick_at.Goals as goal

pub returns : goal.returns
returns c = λ d. get_or_default c.args.list.now c.args.k _ d c.requires
