use Rattle.std.proofs.Common.{◌∙◌, ap, arith, map}
use Rattle.std.proofs.lemmas.List.{take_all}
use Rattle.row_frames.specs.Folded.{dec_of}
use Rattle.row_frames.proofs.seen.seen_decs.Goals as goal

pub returns : goal.returns
returns c = c.loop-pick.invariant ∙ ap (map (dec_of c.args.list.now)) (take_all c.loop-pick.pick-index c.args.picks.now (omega arith))
