use Rattle.std.proofs.Common.{◌<◌, ◌∙◌, ◌++◌, ◌∷◌, [], ap, sym, cond, length, vec_len, arith}
use Rattle.std.proofs.lemmas.List.{length-map}
use Rattle.std.proofs.lemmas.Grind.{flat_map-append}
use Rattle.json_render.specs.Bodies.{parenthesised}
use Rattle.json_render.specs.ItemTexts.{all_items, item_texts, place_items}
use Rattle.json_render.specs.Places.{named_parts, seen}
use Rattle.json_render.specs.declared.context.Item.{Item}
use Rattle.json_render.proofs.PlaceItems.{inside-some}
use Rattle.json_render.proofs.SegmentLemmas.{some-length}
use Rattle.json_render.proofs.context.push_segment.Goals as goal

pub returns-in_ok-push-clause-items : goal.returns-in_ok-push-clause-items
returns-in_ok-push-clause-items c =
    let es = named_parts c.args.inside.items in
    let long = length-map c.args.inside.items seen in
    let given = some-length (vec_len c.args.inside) (sym c.is_empty.ensures ∙ c.if-not-is_empty.true) in
    let some : 0 < length es = omega (arith, c.args.inside.ok.0) in
    let old = c.args.items.now.items in
    ap all_items c.in_ok-push.ensures.items ∙ flat_map-append item_texts old (Item.Segment c.args.name c.args.inside ∷ [])
    ∙ ap (λ b. all_items old ++ cond b [] ((c.args.name.now ++ parenthesised (place_items es)) ∷ [])) (sym (inside-some es c.requires some))
