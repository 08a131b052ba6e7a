use Rattle.std.proofs.Common.{rules, ◌≡◌, ◌∷◌, refl, subst}
use Rattle.aggregate_ops.proofs.SpanLemmas.{AreSpansTo, spans-next}
use Rattle.aggregate_ops.proofs.groups.spans_of.Goals as goal

pub loop-key-preserved-in_ok-push : goal.loop-key-preserved-in_ok-push
loop-key-preserved-in_ok-push c =
    let next : c.loop-key.key-iterator ≡ (c.in-Some.key, c.in-Some.places) ∷ c.next.new.self = search rules in
    spans-next c.loop-key.values.items c.span_of.new.values.items c.next.new.self c.args.map.entries c.loop-key.spans.items c.push.new.self.items c.in-Some.key c.in-Some.places c.in-Some.places c.in_ok-span_of.field-0
    (subst (λ left. AreSpansTo c.loop-key.values.items left c.args.map.entries c.loop-key.spans.items) next c.loop-key.invariant) c.in_ok-span_of.ensures.put refl c.in_ok-span_of.ensures.span c.in_ok-push.ensures.items

pub loop-key-preserved : goal.loop-key-preserved
loop-key-preserved c =
    let next : c.loop-key.key-iterator ≡ (c.in-Some.key, c.in-Some.places) ∷ c.next.new.self = search rules in
    spans-next c.loop-key.values.items c.span_of.new.values.items c.next.new.self c.args.map.entries c.loop-key.spans.items c.push.new.self.items c.in-Some.key c.in-Some.places c.in-Some.places c.in_ok-span_of.field-0
    (subst (λ left. AreSpansTo c.loop-key.values.items left c.args.map.entries c.loop-key.spans.items) next c.loop-key.invariant) c.in_ok-span_of.ensures.put refl c.in_ok-span_of.ensures.span c.in_ok-push.ensures.items
