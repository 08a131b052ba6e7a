use Rattle.std.proofs.Common.{ap, subst}
use Rattle.par_stages.specs.Placed.{placed}
use Rattle.row_frames.specs.Frames.{all_read, read_at}
use Rattle.row_frames.proofs.FoldedLemmas.{all-read_of, placed-map}
use Rattle.row_frames.proofs.folded.fold_each.Goals as goal

pub pieces-requires-clause-kind : goal.pieces-requires-clause-kind
pieces-requires-clause-kind g c κs within = λ k d lt.
    (c.requires.readable k d lt, all-read_of (g.P.Partial.takes (g.P.Partial.kind c.args.empty)) (read_at c.args.readers.now) c.args.picks.now c.requires.kind k d lt)

pub returns : goal.returns
returns g c =
    let xs = c.args.picks.now in
    let same = ap (λ k. k.0) c.in_ok-inner.ensures.kind in
    subst (λ t. g.P.Partial.stands_for c.in_ok-inner.field-0.inner t) (placed-map (read_at c.args.readers.now) 0 xs)
    (subst (λ rs. g.P.Partial.stands_for c.in_ok-inner.field-0.inner (all_read rs (placed 0 xs))) same c.in_ok-inner.ensures.stands)
