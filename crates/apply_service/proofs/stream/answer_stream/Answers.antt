use Rattle.std.proofs.Common.{◌≡◌, arith, refl, sym, ap, subst, Err}
use Rattle.apply_service.specs.declared.stream.Stop.TheVariants.{Read, Write, Limit}
use Rattle.line_stream.specs.Buffers.{Kept, nothing_kept}
use Rattle.line_stream.specs.Streams.{Advances}
use Rattle.line_stream.proofs.Responding.{LongLines}
use Rattle.line_stream.proofs.Counting.{LongBounds}
use Rattle.line_stream.proofs.Streaming.{Advances-nil, Advances-more, Overruns-after, Breaks-after, Responds-ended, Responds-limit, Responds-all, RespondsInPart-middle, RespondsInPart-last}
use Rattle.apply_replies.specs.Costs.{BoundsLineOf}
use Rattle.apply_replies.specs.Replies.{IsReplyOf}
use Rattle.apply_replies.specs.ReplyLaws.{long_costs, long_lines}
use Rattle.context_typing.specs.Readings.{readings}
use Rattle.apply_service.proofs.Stops.{ok-no_stop, write-no_limit, write-no_read}
use Rattle.apply_service.proofs.stream.answer_stream.Goals as goal

pub loop-count-init : goal.loop-count-init
loop-count-init g c = record {
  within = omega arith;
  room = refl;
  limit = c.requires.limit;
  later_in = omega arith;
  later_out = omega arith;
  advanced =
      let P : Kept → Type 0 = λ k. Advances (IsReplyOf c.args.replies.now.store.now) (BoundsLineOf c.args.replies.now.is_optimised c.args.replies.now.store.now) (g.S.Source.left c.args.input.now) (g.S.Source.left c.args.input.now) (g.K.Sink.held c.args.output.now) (g.K.Sink.held c.args.output.now) c.args.steps.now c.args.steps.now (nothing_kept c.args.line.now.limit) k 0 in
      subst P (sym c.requires.empty) (Advances-nil _ _ _ _ _ (nothing_kept c.args.line.now.limit));
}

pub loop-count-preserved : goal.loop-count-preserved
loop-count-preserved g c =
    let before = c.loop-count.invariant in
    let now = c.in-Ok.ensures in
    record {
      within = omega (arith, before.within, now.count);
      room = omega (arith, before.room, now.room);
      limit = now.limit;
      later_in = omega (arith, before.later_in, now.later_in);
      later_out = omega (arith, before.later_out, now.later_out);
      advanced = Advances-more _ _ _ _ _ _ _ _ _ _ _ _ _ _ _ _ before.advanced now.ok;
    }

pub returns-in-Err-clause-read : goal.returns-in-Err-clause-read
returns-in-Err-clause-read g c = λ h.
    let stop : c.in-Err.stop ≡ Read = cc in
    let kept = c.in-Err.ensures.read (ap Err stop) in
    rw (kept.1, kept.3) (Responds-ended _ _ _ _ _ _ _ _ _ _ _ _ _ c.loop-count.invariant.within c.loop-count.invariant.advanced kept.0)

pub returns-in-Err-clause-limit_passed : goal.returns-in-Err-clause-limit_passed
returns-in-Err-clause-limit_passed g c = λ h.
    let stop : c.in-Err.stop ≡ Limit = cc in
    let over = c.in-Err.ensures.limit_passed (ap Err stop) in
    Responds-limit _ _ _ _ _ _ _ _ _ _ _ (Overruns-after _ _ _ _ _ _ _ _ _ _ _ _ _ _ _ _ _ (omega (arith, c.loop-count.invariant.within)) c.loop-count.invariant.advanced over)

pub returns-in-Err-clause-write : goal.returns-in-Err-clause-write
returns-in-Err-clause-write g c = λ h.
    let stop : c.in-Err.stop ≡ Write = cc in
    let broken = c.in-Err.ensures.write (ap Err stop) in
    rw (sym c.loop-count.invariant.room) (RespondsInPart-middle _ _ _ _ _ _ _ _ _ _ _ _ (Breaks-after _ _ g.S.Source.left g.S.Source.reads_once _ _ _ c.loop-count.input _ _ _ _ _ _ _ _ _ _ _ (omega (arith, c.loop-count.invariant.within)) c.loop-count.invariant.advanced broken))

pub returns-in-Ok-answer_line-clause-ok : goal.returns-in-Ok-answer_line-clause-ok
returns-in-Ok-answer_line-clause-ok g c =
    let long = subst (LongLines (IsReplyOf c.args.replies.now.store.now)) (sym c.in-Ok-eq0.ensures.limit) (long_lines c.args.replies.now.store.now.world (readings c.args.replies.now.store.now.customs)) in
    let bound = subst (LongBounds (BoundsLineOf c.args.replies.now.is_optimised c.args.replies.now.store.now)) (sym c.in-Ok-eq0.ensures.limit) (long_costs c.args.replies.now.store.now.world (readings c.args.replies.now.store.now.customs) c.args.replies.now.is_optimised) in
    let last = Advances-more _ _ _ _ _ _ _ _ _ _ _ _ _ _ _ _ c.loop-count.invariant.advanced c.in-Ok-eq0.ensures.ok in
    let within = c.in-Ok-eq0.ensures.count in
    Responds-all _ _ _ _ _ _ _ _ _ _ _ _ _ _ (omega (arith, within, c.loop-count.invariant.within)) long bound last (rw c.whole.ensures.value at c.in-Ok-answer_line.ensures.ok) (rw c.whole.ensures.value at c.answer_line.ensures.counted)

pub returns-in-Err-answer_line-clause-write : goal.returns-in-Err-answer_line-clause-write
returns-in-Err-answer_line-clause-write g c = λ _.
    let long = subst (LongLines (IsReplyOf c.args.replies.now.store.now)) (sym c.in-Ok-eq0.ensures.limit) (long_lines c.args.replies.now.store.now.world (readings c.args.replies.now.store.now.customs)) in
    let bound = subst (LongBounds (BoundsLineOf c.args.replies.now.is_optimised c.args.replies.now.store.now)) (sym c.in-Ok-eq0.ensures.limit) (long_costs c.args.replies.now.store.now.world (readings c.args.replies.now.store.now.customs) c.args.replies.now.is_optimised) in
    RespondsInPart-last _ _ g.S.Source.left g.S.Source.reads_once _ _ c.loop-count.input _ _ _ _ _ _ _ _ _ _ _ _ _ _ _ c.loop-count.invariant.within (omega arith) (c.in-Ok-eq0.ensures.end (omega arith)) long bound c.loop-count.invariant.advanced c.in-Ok-eq0.ensures.ok c.answer_piece.ensures.once (rw c.whole.ensures.value at c.in-Err-answer_line.ensures.err) (rw c.whole.ensures.value at c.answer_line.ensures.counted)

-- ---- what is said of the other stops

pub returns-in-Ok-answer_line-clause-read_cause : goal.returns-in-Ok-answer_line-clause-read_cause
returns-in-Ok-answer_line-clause-read_cause g c = λ h. ok-no_stop h

pub returns-in-Ok-answer_line-clause-read : goal.returns-in-Ok-answer_line-clause-read
returns-in-Ok-answer_line-clause-read g c = λ h. ok-no_stop h

pub returns-in-Ok-answer_line-clause-limit_passed : goal.returns-in-Ok-answer_line-clause-limit_passed
returns-in-Ok-answer_line-clause-limit_passed g c = λ h. ok-no_stop h

pub returns-in-Ok-answer_line-clause-write_cause : goal.returns-in-Ok-answer_line-clause-write_cause
returns-in-Ok-answer_line-clause-write_cause g c = λ h. ok-no_stop h

pub returns-in-Ok-answer_line-clause-write : goal.returns-in-Ok-answer_line-clause-write
returns-in-Ok-answer_line-clause-write g c = λ h. ok-no_stop h

pub returns-in-Err-answer_line-clause-read_cause : goal.returns-in-Err-answer_line-clause-read_cause
returns-in-Err-answer_line-clause-read_cause g c = λ h. write-no_read h

pub returns-in-Err-answer_line-clause-read : goal.returns-in-Err-answer_line-clause-read
returns-in-Err-answer_line-clause-read g c = λ h. write-no_read h

pub returns-in-Err-answer_line-clause-limit_passed : goal.returns-in-Err-answer_line-clause-limit_passed
returns-in-Err-answer_line-clause-limit_passed g c = λ h. write-no_limit h
