use Rattle.std.proofs.Common.{◌∙◌, ◌<◌, ap, length, subst, sym}
use Rattle.std.proofs.lemmas.List.{length-map}
use Rattle.apply_meaning.specs.Instances.{root_of}
use Rattle.row_frames.specs.declared.tables.Pick.{Pick}
use Rattle.row_frames.specs.Frames.{picked}
use Rattle.row_frames.proofs.PlaceLemmas.{one-picked}
use Rattle.row_frames.proofs.placed.placed_root.Goals as goal

pub at-requires : goal.at-requires
at-requires c = subst (λ n. c.args.k < n) (length-map c.args.picks.now (picked c.args.tables.now)) c.requires.there

pub picked_root-requires-clause-within : goal.picked_root-requires-clause-within
picked_root-requires-clause-within c =
    let lt = subst (λ n. c.args.k < n) (length-map c.args.picks.now (picked c.args.tables.now)) c.requires.there in
    subst (λ (x : Pick). x.table < length c.args.tables.now) (sym (c.at.ensures c.at.result)) (c.requires.within c.args.k c.at.result lt)

pub returns : goal.returns
returns c = c.picked_root.ensures ∙ ap root_of (one-picked c.args.tables.now c.args.picks.now c.args.k c.at.result c.requires.there (c.at.ensures c.at.result))
