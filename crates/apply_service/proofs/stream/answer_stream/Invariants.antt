use Rattle.std.proofs.Common.{◌≡◌, ◌-◌, ◌≤◌, length}
use Rattle.line_stream.specs.Buffers.{nothing_kept}
use Rattle.line_stream.specs.Streams.{Advances}
use Rattle.apply_replies.specs.Costs.{BoundsLineOf}
use Rattle.apply_replies.specs.Replies.{IsReplyOf}
use Rattle.apply_grammar.specs.Frames.{line_limit}
use Rattle.apply_service.proofs.stream.answer_stream.Given as goal

abbrev pub invariant-loop-count : goal.invariant-loop-count
invariant-loop-count g l = record {
  within : l.taken ≤ l.limit;
  room : length l.buffer ≡ length l.initial.buffer;
  limit : l.line.limit ≡ line_limit;
  later_in : g.S.Source.fault_count l.initial.input ≤ g.S.Source.fault_count l.input;
  later_out : g.K.Sink.fault_count l.initial.output ≤ g.K.Sink.fault_count l.output;
  advanced : Advances (IsReplyOf l.replies.store.now) (BoundsLineOf l.replies.is_optimised l.replies.store.now) (g.S.Source.left l.initial.input) (g.S.Source.left l.input) (g.K.Sink.held l.initial.output) (g.K.Sink.held l.output) l.initial.steps l.steps (nothing_kept l.initial.line.limit) l.line l.taken;
}

abbrev pub decreases-loop-count : goal.decreases-loop-count
decreases-loop-count g l = l.limit - l.taken
