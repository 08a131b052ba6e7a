use Rattle.std.proofs.Common.{rules, ◌≡◌, ◌∷◌, ◌∙◌, length}
use Rattle.std.specs.Vec.Iter.{into_iter_items}
use Rattle.aggregate_ops.specs.Spans.{span}
use Rattle.aggregate_ops.proofs.SpanLemmas.{spanned-next, within-rest}
use Rattle.aggregate_ops.proofs.groups.spanned.Goals as goal

pub loop-span-preserved : goal.loop-span-preserved
loop-span-preserved c =
    let s = c.in-Some.span in
    let rest = into_iter_items c.next.new.self in
    let next : into_iter_items c.loop-span.span-iterator ≡ s ∷ rest = search rules in
    record {
      shared = c.loop-span.invariant.shared;
      within = within-rest (length c.args.values.items) (into_iter_items c.loop-span.span-iterator) rest s next c.loop-span.invariant.within;
      are = spanned-next c.args.values.items c.loop-span.groups.items c.push.new.self.items (into_iter_items c.loop-span.span-iterator) rest _ s _ next
          (λ i. (span ((c.in_ok-try_clone.ensures ∙ c.loop-span.invariant.shared) i).items s.begin s.end, s.places.items)) c.in_ok-push.ensures.items c.loop-span.invariant.are;
    }
