use Rattle.std.proofs.Common.{rules, ◌≡◌, ◌+◌, ◌<◌, ◌∙◌, ◌++◌, ◌∷◌, [], ap, sym, refl, get_or, length, arith}
use Rattle.std.specs.Iterator.Adapters.{enumerate_count, enumerate_source}
use Rattle.std.specs.Vec.Iter.{into_iter_items}
use Rattle.step_run.proofs.TakenRows.{left-as, none-taken, row-passed, row-taken}
use Rattle.step_run.proofs.selections.rows_at.Goals.{else-next-places-via-then-next-places+else-places-next, else-next-places-via-else-next-places}
use Rattle.step_run.proofs.selections.rows_at.Goals as goal

pub loop-k-init : goal.loop-k-init
loop-k-init c =
    let l = c.args.rows.items in
    let ks = c.args.places.now in
    let it = c.into_iter-k-iterator.result in
    let kept : [] ≡ c.in_ok-kept.kept.items = search rules in
    let count : 0 ≡ enumerate_count it = search rules in
    let source : l ≡ into_iter_items (enumerate_source it) = search rules in
    left-as l ks [] c.in_ok-kept.kept.items 0 (enumerate_count it) l (into_iter_items (enumerate_source it)) kept count source (none-taken l ks c.requires.0 c.requires.1)

pub loop-k-preserved-then-places-next : goal.loop-k-preserved-then-places-next
loop-k-preserved-then-places-next c =
    let l = c.args.rows.items in
    let ks = c.args.places.now in
    let kept = c.loop-k.kept.items in
    let k = enumerate_count c.loop-k.k-iterator in
    let x = c.in-Some.row in
    let rest = into_iter_items (enumerate_source c.next.new.self) in
    let next : into_iter_items (enumerate_source c.loop-k.k-iterator) ≡ x ∷ rest = search rules in
    let count : k + 1 ≡ enumerate_count c.next.new.self = search rules in
    let own : c.in-Some.k ≡ k = search rules in
    let size : length kept ≡ c.len-next.result = search rules in
    let at : get_or ks (length kept) 0 ≡ k = ap (λ n. get_or ks n 0) size ∙ c.if-places-next.true ∙ own in
    let within = c.if-next-places.true in
    let pushed : kept ++ x ∷ [] ≡ c.push.new.self.items = sym c.in_ok-push.ensures.items in
    left-as l ks (kept ++ x ∷ []) c.push.new.self.items (k + 1) (enumerate_count c.next.new.self) rest rest pushed count refl
    (row-taken l ks kept k x rest (left-as l ks kept kept k k (into_iter_items (enumerate_source c.loop-k.k-iterator)) (x ∷ rest) refl refl next c.loop-k.invariant) (omega (arith, within, size)) at)

pub loop-k-preserved : goal.loop-k-preserved
loop-k-preserved c =
    let l = c.args.rows.items in
    let ks = c.args.places.now in
    let kept = c.loop-k.kept.items in
    let k = enumerate_count c.loop-k.k-iterator in
    let x = c.in-Some.row in
    let rest = into_iter_items (enumerate_source c.next.new.self) in
    let next : into_iter_items (enumerate_source c.loop-k.k-iterator) ≡ x ∷ rest = search rules in
    let count : k + 1 ≡ enumerate_count c.next.new.self = search rules in
    let own : c.in-Some.k ≡ k = search rules in
    let size : length kept ≡ c.len-next.result = search rules in
    let at = ap (λ n. get_or ks n 0) size in
    let other : length kept < length ks → get_or ks (length kept) 0 ≡ k → ⊥ = elim c.else-next-places.branch [
      | else-next-places-via-then-next-places+else-places-next w ↦ (λ h e. w.if-places-next.false (sym at ∙ e ∙ sym own))
      | else-next-places-via-else-next-places w ↦ (λ h e. let past = w.if-next-places.false in omega (arith, h, size, past))
    ] in
    left-as l ks kept kept (k + 1) (enumerate_count c.next.new.self) rest rest refl count refl
    (row-passed l ks kept k x rest (left-as l ks kept kept k k (into_iter_items (enumerate_source c.loop-k.k-iterator)) (x ∷ rest) refl refl next c.loop-k.invariant) other)
