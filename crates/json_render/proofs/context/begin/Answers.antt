use Rattle.std.proofs.Common.{◌∙◌, ◌++◌, ap}
use Rattle.std.specs.Prelude.{reverse, string_bytes}
use Rattle.std.specs.List.{list_any}
use Rattle.json_render.specs.Bodies.{is_here}
use Rattle.json_render.specs.ItemTexts.{place_items, prefix_paths}
use Rattle.json_render.specs.Places.{named_parts}
use Rattle.json_render.proofs.WrittenItems.{place-begun}
use Rattle.json_render.proofs.context.begin.Goals as goal

pub returns-clause-begun : goal.returns-clause-begun
returns-clause-begun c =
    let es = named_parts c.args.place.now in
    place-begun (list_any is_here (prefix_paths es)) (string_bytes c.args.text.now.bytes) (string_bytes c.push_front.new.text.bytes) c.push_front.new.text.after_item c.args.left.now.items c.in_ok-items.items.items c.put_before.new.left.items (place_items es)
    c.in_ok-push_front.ensures.text c.in_ok-push_front.ensures.after (c.in_ok-put_before.ensures ∙ ap (λ us. us ++ reverse c.in_ok-items.items.items) c.in_ok-push.ensures.items) c.in_ok-items.ensures.all c.in_ok-items.ensures.items
