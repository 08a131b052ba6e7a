use Rattle.std.proofs.Common.{◌≡◌, ◌∙◌, ℕ, suc, ◌+◌, ◌<◌, List, [], length, map, take, drop, get_or, sym, ap, subst, arith}
use Rattle.std.proofs.lemmas.List.{length-map}
use Rattle.line_stream.specs.Answers.{Writes, WritesPart}
use Rattle.line_stream.proofs.Known.{OnErr-always}
use Rattle.line_stream.specs.Costs.{Rises}
use Rattle.apply_replies.specs.Costs.{BoundsLineOf}
use Rattle.apply_replies.specs.Replies.{IsReplyOf}
use Rattle.apply_replies.specs.ReplyLaws.{some_reply}
use Rattle.context_typing.specs.Readings.{readings}
use Rattle.apply_service.proofs.Sampled.{line-at, rest-at, shown_all, Rises-more, Writes-more, WritesPart-more}
use Rattle.apply_service.proofs.samples.answer_samples.Goals as goal

pub loop-line-preserved : goal.loop-line-preserved
loop-line-preserved g c =
    let size : length (map (λ line. line.now) c.sample_lines-line-items.result) ≡ length c.sample_lines-line-items.result = length-map _ _ in
    let within : c.loop-line.line-index < length c.sample_lines-line-items.result = omega (arith, c.loop-line-test.true, size, ap length c.sample_lines-line-items.ensures) in
    let next : c.loop-line.line-index + 1 ≡ suc c.loop-line.line-index = omega arith in
    let lines = ap (λ n. take n (map (λ line. line.now) c.sample_lines-line-items.result)) next ∙ line-at (λ line. line.now) c.sample_lines-line-items.result c.loop-line.line-index (record { ref_ptr = (0, 0); now = [] }) within in
    let P : List (List ℕ) → Type 0 = λ ls. Writes (IsReplyOf c.args.replies.now.store.now) (shown_all ls) (g.K.Sink.held c.args.output.now) (g.K.Sink.held c.answer_line.new.output) in
    let Q : List (List ℕ) → Type 0 = λ ls. Rises (BoundsLineOf c.args.replies.now.is_optimised c.args.replies.now.store.now) (shown_all ls) c.args.steps.now c.answer_line.new.steps in
    record {
      later = omega (arith, c.loop-line.invariant.later, c.answer_line.ensures.cause.later);
      written = subst P (sym lines) (Writes-more (IsReplyOf c.args.replies.now.store.now) _ _ _ (take c.loop-line.line-index (map (λ line. line.now) c.sample_lines-line-items.result)) (get_or c.sample_lines-line-items.result c.loop-line.line-index (record { ref_ptr = (0, 0); now = [] })).now c.loop-line.invariant.written (rw c.as_bytes.ensures.value at c.in_ok-answer_line.ensures.ok));
      counted = subst Q (sym lines) (Rises-more (BoundsLineOf c.args.replies.now.is_optimised c.args.replies.now.store.now) _ _ _ (take c.loop-line.line-index (map (λ line. line.now) c.sample_lines-line-items.result)) (get_or c.sample_lines-line-items.result c.loop-line.line-index (record { ref_ptr = (0, 0); now = [] })).now [] c.loop-line.invariant.counted (rw c.as_bytes.ensures.value at c.answer_line.ensures.counted));
    }

pub returns-in_err-answer_line-clause-err : goal.returns-in_err-answer_line-clause-err
returns-in_err-answer_line-clause-err g c =
    let size : length (map (λ line. line.now) c.sample_lines-line-items.result) ≡ length c.sample_lines-line-items.result = length-map _ _ in
    let within : c.loop-line.line-index < length c.sample_lines-line-items.result = omega (arith, c.loop-line-test.true, size, ap length c.sample_lines-line-items.ensures) in
    let lines = sym (rest-at (λ line. line.now) c.sample_lines-line-items.result c.loop-line.line-index (record { ref_ptr = (0, 0); now = [] }) within) ∙ c.sample_lines-line-items.ensures in
    let P : List (List ℕ) → Type 0 = λ ls. WritesPart (IsReplyOf c.args.replies.now.store.now) (shown_all ls) (g.K.Sink.held c.args.output.now) (g.K.Sink.held c.answer_line.new.output) in
    let some = some_reply c.args.replies.now.store.now.world (readings c.args.replies.now.store.now.customs) in
    OnErr-always _ (subst P lines (WritesPart-more (IsReplyOf c.args.replies.now.store.now) some _ _ _ (take c.loop-line.line-index (map (λ line. line.now) c.sample_lines-line-items.result)) (get_or c.sample_lines-line-items.result c.loop-line.line-index (record { ref_ptr = (0, 0); now = [] })).now (drop (suc c.loop-line.line-index) (map (λ line. line.now) c.sample_lines-line-items.result)) c.loop-line.invariant.written (rw c.as_bytes.ensures.value at c.in_err-answer_line.ensures.err)))

pub returns-in_err-answer_line-clause-counted : goal.returns-in_err-answer_line-clause-counted
returns-in_err-answer_line-clause-counted g c =
    let size : length (map (λ line. line.now) c.sample_lines-line-items.result) ≡ length c.sample_lines-line-items.result = length-map _ _ in
    let within : c.loop-line.line-index < length c.sample_lines-line-items.result = omega (arith, c.loop-line-test.true, size, ap length c.sample_lines-line-items.ensures) in
    let lines = sym (rest-at (λ line. line.now) c.sample_lines-line-items.result c.loop-line.line-index (record { ref_ptr = (0, 0); now = [] }) within) ∙ c.sample_lines-line-items.ensures in
    let P : List (List ℕ) → Type 0 = λ ls. Rises (BoundsLineOf c.args.replies.now.is_optimised c.args.replies.now.store.now) (shown_all ls) c.args.steps.now c.answer_line.new.steps in
    subst P lines (Rises-more (BoundsLineOf c.args.replies.now.is_optimised c.args.replies.now.store.now) _ _ _ (take c.loop-line.line-index (map (λ line. line.now) c.sample_lines-line-items.result)) (get_or c.sample_lines-line-items.result c.loop-line.line-index (record { ref_ptr = (0, 0); now = [] })).now (drop (suc c.loop-line.line-index) (map (λ line. line.now) c.sample_lines-line-items.result)) c.loop-line.invariant.counted (rw c.as_bytes.ensures.value at c.answer_line.ensures.counted))
