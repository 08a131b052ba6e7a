use Rattle.std.proofs.Common.{rules, ◌≡◌, ◌∷◌, subst}
use Rattle.aggregate_ops.proofs.SpanLemmas.{AreSpansTo, spans-next}
use Rattle.aggregate_ops.proofs.groups.copied_spans.Goals as goal

pub loop-key-preserved : goal.loop-key-preserved
loop-key-preserved c =
    let next : c.loop-key.key-iterator ≡ (c.in-Some.key.now, c.in-Some.places.now) ∷ c.next.new.self = search rules in
    spans-next c.loop-key.values.items c.span_of.new.values.items c.next.new.self c.args.map.now.entries c.loop-key.spans.items c.push.new.self.items c.in-Some.key.now c.in-Some.places.now c.in_ok-places.places c.in_ok-span_of.field-0
    (subst (λ left. AreSpansTo c.loop-key.values.items left c.args.map.now.entries c.loop-key.spans.items) next c.loop-key.invariant) c.in_ok-span_of.ensures.put (search rules) c.in_ok-span_of.ensures.span c.in_ok-push.ensures.items
