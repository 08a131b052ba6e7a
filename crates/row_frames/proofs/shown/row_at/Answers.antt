use Rattle.std.proofs.Common.{◌∙◌, ◌<◌, length, subst, sym}
use Rattle.std.proofs.lemmas.List.{length-map}
use Rattle.row_frames.specs.declared.tables.Pick.{Pick}
use Rattle.row_frames.specs.Frames.{picked}
use Rattle.row_frames.specs.Runs.{part_rows}
use Rattle.row_frames.proofs.PlaceLemmas.{one-picked}
use Rattle.row_frames.proofs.shown.row_at.Goals as goal

pub at-requires : goal.at-requires
at-requires c = subst (λ n. c.args.k < n) (length-map (part_rows c.args.picks.now) (picked c.args.tables.now)) c.requires.there

pub picked_at-requires : goal.picked_at-requires
picked_at-requires c =
    let lt = subst (λ n. c.args.k < n) (length-map (part_rows c.args.picks.now) (picked c.args.tables.now)) c.requires.there in
    record { within = subst (λ (x : Pick). x.table < length c.args.tables.now) (sym (c.at.ensures c.at.result)) (c.requires.within c.args.k c.at.result lt) }

pub returns : goal.returns
returns c = c.picked_at.ensures ∙ one-picked c.args.tables.now (part_rows c.args.picks.now) c.args.k c.at.result c.requires.there (c.at.ensures c.at.result)
