use Rattle.std.proofs.Common.{◌≡◌, ◌+◌, ◌*◌, ◌∙◌, ◌++◌, ◌∷◌, [], true, cond, ap, length}
use Rattle.std.specs.Prelude.{reverse, string_bytes}
use Rattle.json_render.specs.Bodies.{parenthesised}
use Rattle.json_render.specs.ItemTexts.{items_run, left_steps, left_text, place_items}
use Rattle.json_render.specs.Places.{named_parts}
use Rattle.json_render.proofs.WrittenItems.{column-steps, segment-steps, top-first}
use Rattle.json_render.proofs.context.write_next.Goals as goal

pub returns-in_ok-push_item-in-Column-clause-fewer : goal.returns-in_ok-push_item-in-Column-clause-fewer
returns-in_ok-push_item-in-Column-clause-fewer c =
    let a = c.args.text.now.after_item in
    let left = c.args.left.now.items in
    let rest = left_text true (reverse left) in
    let before : left_steps c.args.text.now (left ++ c.args.item ∷ []) ≡ 2 * length (items_run a (c.in-Column.name.now ∷ []) ++ rest) + cond a 0 1 =
    ap (λ us. 2 * length (left_text a us) + cond a 0 1) (top-first left c.args.item ∙ ap (λ u. u ∷ reverse left) c.in-Column.is) in
    let after : left_steps c.push_item.new.self left ≡ 2 * length rest + 0 = ap (λ b. 2 * length (left_text b (reverse left)) + cond b 0 1) c.in_ok-push_item-in-Column.ensures.after in
    rw (before, after) (column-steps a c.in-Column.name.now rest)

pub returns-in_ok-begin-in-Segment-clause-fewer : goal.returns-in_ok-begin-in-Segment-clause-fewer
returns-in_ok-begin-in-Segment-clause-fewer c =
    let a = c.args.text.now.after_item in
    let left = c.args.left.now.items in
    let rest = left_text true (reverse left) in
    let inner = parenthesised (place_items (named_parts c.in-Segment.place.items)) in
    let before : left_steps c.args.text.now (left ++ c.args.item ∷ []) ≡ 2 * length (items_run a ((c.in-Segment.name.now ++ inner) ∷ []) ++ rest) + cond a 0 1 =
    ap (λ us. 2 * length (left_text a us) + cond a 0 1) (top-first left c.args.item ∙ ap (λ u. u ∷ reverse left) c.in-Segment.is) in
    rw before
    (segment-steps a c.begin.new.text.after_item c.in-Segment.name.now inner rest (string_bytes c.push_item-in-Segment.new.self.bytes) (string_bytes c.begin.new.text.bytes)
    (left_text c.begin.new.text.after_item (reverse c.begin.new.left.items))
    (c.in_ok-begin-in-Segment.ensures.begun ∙ ap (λ es. string_bytes c.push_item-in-Segment.new.self.bytes ++ (parenthesised (place_items (named_parts es)) ++ rest)) c.deref.ensures.value)
    c.in_ok-begin-in-Segment.ensures.more)
