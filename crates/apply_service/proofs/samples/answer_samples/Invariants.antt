use Rattle.std.proofs.Common.{◌≤◌, map, take}
use Rattle.line_stream.specs.Answers.{Writes}
use Rattle.line_stream.specs.Costs.{Rises}
use Rattle.apply_replies.specs.Costs.{BoundsLineOf}
use Rattle.apply_replies.specs.Replies.{IsReplyOf}
use Rattle.apply_service.proofs.Sampled.{shown_all}
use Rattle.apply_service.proofs.samples.answer_samples.Given as goal

abbrev pub invariant-loop-line : goal.invariant-loop-line
invariant-loop-line g l = record {
  later : g.K.Sink.fault_count l.initial.output ≤ g.K.Sink.fault_count l.output;
  written : Writes (IsReplyOf l.replies.store.now) (shown_all (take l.line-index (map (λ line. line.now) l.line-items))) (g.K.Sink.held l.initial.output) (g.K.Sink.held l.output);
  counted : Rises (BoundsLineOf l.replies.is_optimised l.replies.store.now) (shown_all (take l.line-index (map (λ line. line.now) l.line-items))) l.initial.steps l.steps;
}
