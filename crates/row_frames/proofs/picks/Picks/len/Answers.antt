use Rattle.std.proofs.Common.{◌∙◌, ap, length}
use Rattle.row_frames.proofs.picks.Picks.len.Goals as goal

pub returns : goal.returns
returns c = c.len.ensures ∙ ap length c.as_part.ensures
