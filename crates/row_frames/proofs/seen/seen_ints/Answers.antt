use Rattle.std.proofs.Common.{◌∙◌, ap, arith, map}
use Rattle.std.proofs.lemmas.List.{take_all}
use Rattle.row_frames.specs.Folded.{int_of}
use Rattle.row_frames.proofs.seen.seen_ints.Goals as goal

pub returns : goal.returns
returns c = c.loop-pick.invariant ∙ ap (map (int_of c.args.list.now)) (take_all c.loop-pick.pick-index c.args.picks.now (omega arith))
