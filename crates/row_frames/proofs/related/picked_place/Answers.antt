use Rattle.std.proofs.Common.{◌∙◌, ap, sym}
use Rattle.row_frames.specs.declared.tables.Table.{Table}
use Rattle.row_frames.specs.Frames.{place_in}
use Rattle.row_frames.specs.Related.{placed}
use Rattle.row_frames.proofs.RelatedLemmas.{placed-picked}
use Rattle.row_frames.proofs.related.picked_place.Goals as goal

pub returns : goal.returns
returns c =
    ap (placed c.args.set) c.place_in.ensures
    ∙ ap (λ (t : Table). placed c.args.set (place_in t.roots c.args.pick.row)) (sym c.index-tables-pick.is)
    ∙ placed-picked c.args.set c.args.tables.now c.args.pick c.index-tables-pick.result c.requires.of c.requires.within c.index-tables-pick.is
