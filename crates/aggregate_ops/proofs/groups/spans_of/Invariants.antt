use Rattle.aggregate_ops.proofs.SpanLemmas.{AreSpansTo}
use Rattle.aggregate_ops.proofs.groups.spans_of.Given as goal

-- the keys so far stand in the list
abbrev pub invariant-loop-key : goal.invariant-loop-key
invariant-loop-key l = AreSpansTo l.values.items l.key-iterator l.fn.map.entries l.spans.items
