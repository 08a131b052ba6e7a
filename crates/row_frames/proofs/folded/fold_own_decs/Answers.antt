use Rattle.std.proofs.Common.{subst}
use Rattle.edm_values.specs.declared.Value.{Value}
use Rattle.row_frames.proofs.FoldedLemmas.{all-read_of, placed-map}
use Rattle.row_frames.proofs.folded.fold_own_decs.Goals as goal

pub pieces-requires-clause-kind : goal.pieces-requires-clause-kind
pieces-requires-clause-kind g c κs within = λ k d lt.
    all-read_of (g.P.Partial.takes (g.P.Partial.kind c.args.empty)) Value.Dec c.args.list.now c.requires.kind k d lt

pub returns : goal.returns
returns g c = subst (λ t. g.P.Partial.stands_for c.in_ok-inner.field-0.inner t) (placed-map Value.Dec 0 c.args.list.now) c.in_ok-inner.ensures.stands
