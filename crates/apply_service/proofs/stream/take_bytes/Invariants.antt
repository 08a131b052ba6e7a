use Rattle.std.proofs.Common.{◌≡◌, ◌≤◌, length}
use Rattle.line_stream.proofs.Answering.{Proceeds}
use Rattle.apply_replies.specs.Costs.{BoundsLineOf}
use Rattle.apply_replies.specs.Replies.{IsReplyOf}
use Rattle.apply_grammar.specs.Frames.{line_limit}
use Rattle.apply_service.proofs.stream.take_bytes.Given as goal

abbrev pub invariant-loop-end : goal.invariant-loop-end
invariant-loop-end g l = record {
  limit : l.line.limit ≡ line_limit;
  faults : g.K.Sink.fault_count l.initial.output ≤ g.K.Sink.fault_count l.output;
  proceeds : Proceeds (IsReplyOf l.replies.store.now) (BoundsLineOf l.replies.is_optimised l.replies.store.now) (g.K.Sink.held l.initial.output) (g.K.Sink.held l.output) l.initial.steps l.steps l.initial.line l.line l.bytes l.rest;
}

abbrev pub decreases-loop-end : goal.decreases-loop-end
decreases-loop-end g l = length l.rest
