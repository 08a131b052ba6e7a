use Rattle.std.proofs.Common.{◌≡◌, arith, take, sym, ap, subst, ◌∙◌}
use Rattle.line_stream.specs.Buffers.{Kept, kept_with, ended_line, nothing_kept}
use Rattle.line_stream.proofs.Responding.{LongLines}
use Rattle.line_stream.proofs.Counting.{LongBounds}
use Rattle.line_stream.proofs.Answering.{Proceeds-start, Proceeds-line, Answers-last, BreaksOff-line}
use Rattle.line_stream.proofs.Known.{OnErr-always}
use Rattle.apply_replies.specs.Costs.{BoundsLineOf}
use Rattle.apply_replies.specs.Replies.{IsReplyOf}
use Rattle.apply_replies.specs.ReplyLaws.{long_costs, long_lines, some_reply}
use Rattle.context_typing.specs.Readings.{readings}
use Rattle.apply_service.proofs.stream.take_bytes.Goals as goal

pub loop-end-init : goal.loop-end-init
loop-end-init g c = record {
  limit = c.requires.limit;
  faults = omega arith;
  proceeds = Proceeds-start _ _ _ _ _ _;
}

pub loop-end-preserved : goal.loop-end-preserved
loop-end-preserved g c =
    let pushed : c.push.new.self ≡ kept_with c.loop-end.line (take c.in-Some.end c.loop-end.rest.now) = c.push.ensures.value in
    let line : c.ended.result.now ≡ ended_line (kept_with c.loop-end.line (take c.in-Some.end c.loop-end.rest.now)) = c.ended.ensures.value ∙ ap ended_line pushed in
    let cleared : c.clear.new.self ≡ nothing_kept c.loop-end.line.limit =
    c.clear.ensures.value ∙ ap (λ (k : Kept). nothing_kept k.limit) pushed in
    let long = subst (LongLines (IsReplyOf c.args.replies.now.store.now)) (sym c.loop-end.invariant.limit) (long_lines c.args.replies.now.store.now.world (readings c.args.replies.now.store.now.customs)) in
    let bound = subst (LongBounds (BoundsLineOf c.args.replies.now.is_optimised c.args.replies.now.store.now)) (sym c.loop-end.invariant.limit) (long_costs c.args.replies.now.store.now.world (readings c.args.replies.now.store.now.customs) c.args.replies.now.is_optimised) in
    record {
      limit = rw cleared c.loop-end.invariant.limit;
      faults = omega (arith, c.loop-end.invariant.faults, c.answer_line.ensures.cause.later);
      proceeds = rw cleared (Proceeds-line (IsReplyOf c.args.replies.now.store.now) (BoundsLineOf c.args.replies.now.is_optimised c.args.replies.now.store.now) _ _ _ _ _ _ _ c.loop-end.line c.args.bytes.now c.loop-end.rest.now c.in-Some.end (sym c.in-Some.ensures) long bound c.loop-end.invariant.proceeds (rw line at c.in_ok-answer_line.ensures.ok) (rw line at c.answer_line.ensures.counted));
    }

pub returns-in_err-answer_line-clause-err : goal.returns-in_err-answer_line-clause-err
returns-in_err-answer_line-clause-err g c =
    let pushed : c.push.new.self ≡ kept_with c.loop-end.line (take c.in-Some.end c.loop-end.rest.now) = c.push.ensures.value in
    let line : c.ended.result.now ≡ ended_line (kept_with c.loop-end.line (take c.in-Some.end c.loop-end.rest.now)) = c.ended.ensures.value ∙ ap ended_line pushed in
    let long = subst (LongLines (IsReplyOf c.args.replies.now.store.now)) (sym c.loop-end.invariant.limit) (long_lines c.args.replies.now.store.now.world (readings c.args.replies.now.store.now.customs)) in
    let bound = subst (LongBounds (BoundsLineOf c.args.replies.now.is_optimised c.args.replies.now.store.now)) (sym c.loop-end.invariant.limit) (long_costs c.args.replies.now.store.now.world (readings c.args.replies.now.store.now.customs) c.args.replies.now.is_optimised) in
    OnErr-always _ (BreaksOff-line (IsReplyOf c.args.replies.now.store.now) (BoundsLineOf c.args.replies.now.is_optimised c.args.replies.now.store.now) _ _ _ _ _ _ _ c.loop-end.line c.args.bytes.now c.loop-end.rest.now c.in-Some.end (sym c.in-Some.ensures) (some_reply c.args.replies.now.store.now.world (readings c.args.replies.now.store.now.customs)) long bound c.loop-end.invariant.proceeds (rw line at c.in_err-answer_line.ensures.err) (rw line at c.answer_line.ensures.counted))

pub returns-clause-ok : goal.returns-clause-ok
returns-clause-ok g c =
    rw c.push-2.ensures.value (Answers-last _ _ _ _ _ _ _ c.loop-end.line c.args.bytes.now c.loop-end.rest.now (sym c.in_default.ensures) c.loop-end.invariant.proceeds)
