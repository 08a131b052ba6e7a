use Rattle.std.proofs.Common.{◌∙◌, ◌<◌, length, subst, sym}
use Rattle.std.proofs.lemmas.List.{length-map}
use Rattle.rayon.proofs.ListFacts.{IfOk-then}
use Rattle.row_frames.specs.declared.tables.Pick.{Pick}
use Rattle.row_frames.specs.Frames.{picked}
use Rattle.row_frames.proofs.PlaceLemmas.{one-picked}
use Rattle.row_frames.proofs.placed.placed_row.Goals as goal

pub at-requires : goal.at-requires
at-requires g c = subst (λ n. c.args.k < n) (length-map c.args.picks.now (picked c.args.tables.now)) c.requires.there

pub picked_row-requires-clause-within : goal.picked_row-requires-clause-within
picked_row-requires-clause-within g c =
    let lt = subst (λ n. c.args.k < n) (length-map c.args.picks.now (picked c.args.tables.now)) c.requires.there in
    subst (λ (x : Pick). x.table < length c.args.tables.now) (sym (c.at.ensures c.at.result)) (c.requires.within c.args.k c.at.result lt)

pub returns-clause-row : goal.returns-clause-row
returns-clause-row g c = IfOk-then c.picked_row.result _ _ c.picked_row.ensures.row (λ r h. h ∙ one-picked c.args.tables.now c.args.picks.now c.args.k c.at.result c.requires.there (c.at.ensures c.at.result))
