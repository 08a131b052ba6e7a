use Rattle.std.proofs.Common.{◌∙◌, ◌++◌, ap, sym}
use Rattle.std.proofs.lemmas.List.{append-nil}
use Rattle.std.proofs.lemmas.Slice.Zip.{either_empty_from_Zip}
use Rattle.row_frames.proofs.BesideLemmas.{repeated-ended}
use Rattle.row_frames.proofs.joins.repeated_picks.Goals as goal

pub returns : goal.returns
returns c =
    sym (c.loop-pick.invariant
    ∙ ap (λ xs. c.loop-pick.all.items ++ xs) (repeated-ended c.args.outer _ _ (either_empty_from_Zip c.loop-pick.pick-iterator c.next.new.self c.next.result c.in-None.is c.next.ensures.steps))
    ∙ append-nil c.loop-pick.all.items)
