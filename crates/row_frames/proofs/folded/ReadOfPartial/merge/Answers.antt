use Rattle.std.proofs.Common.{◌≡◌, ap, sym, subst}
use Rattle.std.proofs.lemmas.List.{map-append}
use Rattle.std.proofs.lemmas.Result.{on_ok_weaker}
use Rattle.row_frames.specs.Frames.{all_read, read_at}
use Rattle.row_frames.proofs.folded.ReadOfPartial.merge.Goals as goal

pub returns-clause-merged : goal.returns-clause-merged
returns-clause-merged g c =
    let own = c.args.self.now.readers.now in
    let same : c.args.later.readers.now ≡ own = ap (λ k. k.0) c.requires.kind in
    on_ok_weaker c.merge.result (λ m xs ys h k.
    subst (λ t. g.P.Partial.stands_for c.merge.new.self t) (sym (map-append (λ x. (read_at own x.0, x.1)) xs ys))
    (m (all_read own xs) (all_read own ys) h (subst (λ rs. g.P.Partial.stands_for c.args.later.inner (all_read rs ys)) same k))) c.merge.ensures.merged
