use Rattle.std.proofs.Common.{◌<◌, ◌∙◌, ◌++◌, ap, sym, length, vec_len, arith}
use Rattle.std.specs.Prelude.{◌&&◌}
use Rattle.std.proofs.lemmas.List.{length-map}
use Rattle.json_render.specs.Bodies.{is_bound_to_none, is_empty}
use Rattle.json_render.specs.Places.{named_parts, seen}
use Rattle.json_render.specs.RowTexts.{all_members, columns_seen, place_members, prefixes_seen}
use Rattle.json_render.specs.declared.members.Unwritten.{Unwritten}
use Rattle.json_render.proofs.SegmentLemmas.{inside-some, members-more, segment-object, some-length}
use Rattle.json_render.proofs.members.push_segment.Goals as goal

pub returns-in_ok-push-2-clause-members : goal.returns-in_ok-push-2-clause-members
returns-in_ok-push-2-clause-members c = λ w i s.
    let es = named_parts c.args.inside.items in
    let long = length-map c.args.inside.items seen in
    let given = some-length (vec_len c.args.inside) (sym c.is_empty.ensures ∙ c.if-is_empty.false) in
    let some : 0 < length es = omega (arith, c.args.inside.ok.0) in
    members-more w i c.args.members.now.items c.push-else-is_null.new.self.items (Unwritten.Object c.args.name c.args.inside) c.in_ok-push-2.ensures.items
    ∙ ap (λ ms. all_members w i c.args.members.now.items ++ ms) (sym (segment-object c.args.name.now (prefixes_seen i es) (columns_seen i es) (place_members w i es) (inside-some i es c.requires some)
    (ap (λ xs. is_bound_to_none (prefixes_seen i (named_parts xs)) && is_empty (columns_seen i (named_parts xs))) (sym c.deref.ensures.value) ∙ c.is_null.ensures i s ∙ c.if-is_null.false)))
