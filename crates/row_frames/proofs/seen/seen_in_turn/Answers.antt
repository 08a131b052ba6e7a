use Rattle.std.proofs.Common.{◌∙◌, ap, arith, map, sym}
use Rattle.std.proofs.lemmas.List.{take_all}
use Rattle.rayon.proofs.ListFacts.{IfOk-then}
use Rattle.row_frames.specs.Folded.{dec_of, int_of}
use Rattle.row_frames.specs.Frames.{read_at, IsReadable}
use Rattle.row_frames.proofs.FoldedLemmas.{read-same}
use Rattle.row_frames.proofs.seen.seen_in_turn.Goals as goal

pub returns-in-Some : goal.returns-in-Some
returns-in-Some c =
    let rs = c.args.readers.now in
    IfOk-then c.seen_ints.result _ _ c.seen_ints.ensures (λ vs h. record {
      read = h ∙ sym (read-same (IsReadable rs) (read_at rs) (int_of c.in-Some.list.now) c.args.picks.now c.requires (λ x k. c.in-Some.ensures x k.within));
    })

pub returns-in-Some-row_decs : goal.returns-in-Some-row_decs
returns-in-Some-row_decs c =
    let rs = c.args.readers.now in
    IfOk-then c.seen_decs.result _ _ c.seen_decs.ensures (λ vs h. record {
      read = h ∙ sym (read-same (IsReadable rs) (read_at rs) (dec_of c.in-Some-row_decs.list.now) c.args.picks.now c.requires (λ x k. c.in-Some-row_decs.ensures x k.within));
    })

pub returns : goal.returns
returns c =
    let rs = c.args.readers.now in
    record { read = c.loop-pick.invariant ∙ ap (map (read_at rs)) (take_all c.loop-pick.pick-index c.args.picks.now (omega arith)) }
