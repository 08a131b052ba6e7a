use Rattle.std.proofs.Common.{◌≡◌, ap, sym, subst}
use Rattle.std.proofs.lemmas.List.{map-append}
use Rattle.std.proofs.lemmas.Result.{on_ok_weaker}
use Rattle.row_frames.specs.Folded.{int_of, ints_read}
use Rattle.row_frames.proofs.folded.IntsOfPartial.merge.Goals as goal

pub returns-clause-merged : goal.returns-clause-merged
returns-clause-merged g c =
    let own = c.args.self.now.list.now in
    let same : c.args.later.list.now ≡ own = ap (λ k. k.0) c.requires.kind in
    on_ok_weaker c.merge.result (λ m xs ys h k.
    subst (λ t. g.P.Partial.stands_for c.merge.new.self t) (sym (map-append (λ x. (int_of own x.0, x.1)) xs ys))
    (m (ints_read own xs) (ints_read own ys) h (subst (λ l. g.P.Partial.stands_for c.args.later.inner (ints_read l ys)) same k))) c.merge.ensures.merged
