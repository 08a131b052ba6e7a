use Rattle.std.proofs.Common.{ap, subst}
use Rattle.par_stages.specs.Placed.{placed}
use Rattle.row_frames.specs.Folded.{dec_of, decs_read}
use Rattle.row_frames.proofs.FoldedLemmas.{all-read_of, placed-map}
use Rattle.row_frames.proofs.folded.fold_decs.Goals as goal

pub pieces-requires-clause-kind : goal.pieces-requires-clause-kind
pieces-requires-clause-kind g c κs within = λ k d lt.
    all-read_of (g.P.Partial.takes (g.P.Partial.kind c.args.empty)) (dec_of c.args.list.now) c.args.picks.now c.requires.kind k d lt

pub returns : goal.returns
returns g c =
    let xs = c.args.picks.now in
    let same = ap (λ k. k.0) c.in_ok-inner.ensures.kind in
    subst (λ t. g.P.Partial.stands_for c.in_ok-inner.field-0.inner t) (placed-map (dec_of c.args.list.now) 0 xs)
    (subst (λ l. g.P.Partial.stands_for c.in_ok-inner.field-0.inner (decs_read l (placed 0 xs))) same c.in_ok-inner.ensures.stands)
