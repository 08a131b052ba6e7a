use Rattle.std.proofs.Common.{◌∙◌, ◌++◌, ap, sym}
use Rattle.std.proofs.lemmas.List.{append-nil}
use Rattle.std.proofs.lemmas.Slice.Zip.{either_empty_from_Zip}
use Rattle.join_concat.proofs.BesideLemmas.{bound-ended}
use Rattle.join_concat.proofs.joins.bound.Goals as goal

pub returns-clause-rows : goal.returns-clause-rows
returns-clause-rows g c =
    sym (c.loop-row.invariant.0
    ∙ ap (λ xs. c.loop-row.all.items ++ xs) (bound-ended c.args.outer c.args.alias.now _ _ _ (either_empty_from_Zip c.loop-row.row-iterator c.next.new.self c.next.result c.in-None.is c.next.ensures.steps))
    ∙ append-nil c.loop-row.all.items)
