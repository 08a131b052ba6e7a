use Rattle.std.proofs.Common.{IfOk, subst, sym}
use Rattle.std.specs.List.{All}
use Rattle.par_stages.specs.Placed.{placed}
use Rattle.row_frames.specs.Folded.{dec_of, int_of}
use Rattle.row_frames.specs.Frames.{read_at, IsReadable}
use Rattle.row_frames.proofs.FoldedLemmas.{read-same}
use Rattle.row_frames.proofs.folded.fold_list.Goals as goal

pub fold_ints-requires-clause-kind : goal.fold_ints-requires-clause-kind
fold_ints-requires-clause-kind g c κs within =
    let rs = c.args.readers.now in
    subst (λ vs. All (g.P.Partial.takes (g.P.Partial.kind c.args.empty)) vs)
    (read-same (IsReadable rs) (read_at rs) (int_of c.in-Some.list.now) c.args.picks.now c.requires.readable (λ x h. c.in-Some.ensures x h.within)) c.requires.kind

pub returns-in-Some : goal.returns-in-Some
returns-in-Some g c =
    let rs = c.args.readers.now in
    subst (λ vs. IfOk c.fold_ints.result (λ p. g.P.Partial.stands_for p (placed 0 vs)))
    (sym (read-same (IsReadable rs) (read_at rs) (int_of c.in-Some.list.now) c.args.picks.now c.requires.readable (λ x h. c.in-Some.ensures x h.within))) c.fold_ints.ensures

pub fold_decs-requires-clause-kind : goal.fold_decs-requires-clause-kind
fold_decs-requires-clause-kind g c κs within =
    let rs = c.args.readers.now in
    subst (λ vs. All (g.P.Partial.takes (g.P.Partial.kind c.args.empty)) vs)
    (read-same (IsReadable rs) (read_at rs) (dec_of c.in-Some-row_decs.list.now) c.args.picks.now c.requires.readable (λ x h. c.in-Some-row_decs.ensures x h.within)) c.requires.kind

pub returns-in-Some-row_decs : goal.returns-in-Some-row_decs
returns-in-Some-row_decs g c =
    let rs = c.args.readers.now in
    subst (λ vs. IfOk c.fold_decs.result (λ p. g.P.Partial.stands_for p (placed 0 vs)))
    (sym (read-same (IsReadable rs) (read_at rs) (dec_of c.in-Some-row_decs.list.now) c.args.picks.now c.requires.readable (λ x h. c.in-Some-row_decs.ensures x h.within))) c.fold_decs.ensures
