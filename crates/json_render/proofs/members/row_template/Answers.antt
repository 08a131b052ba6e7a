use Rattle.std.proofs.Common.{◌∙◌, ◌++◌, true, ap}
use Rattle.std.proofs.lemmas.List.{append-nil}
use Rattle.std.specs.Prelude.{reverse}
use Rattle.serde_json.specs.Written.{compact_text}
use Rattle.edm_model.specs.JsonTrees.{object_of}
use Rattle.json_render.specs.Places.{named_parts}
use Rattle.json_render.specs.RowTexts.{place_members, unwritten_text}
use Rattle.json_render.proofs.PatternLemmas.{same-itself}
use Rattle.json_render.proofs.RowSeen.{row-members, text-shorter}
use Rattle.json_render.proofs.members.row_template.Goals as goal

pub loop-member-init : goal.loop-member-init
loop-member-init c = λ i s.
    let w = c.args.store.now in
    c.in_ok-begin.ensures.begun i s
    ∙ ap (λ xs. xs ++ (compact_text (object_of (place_members w i (named_parts c.deref.result.now))) ++ unwritten_text w i true (reverse c.new-left.result.items))) (c.new-template.ensures.text w i)
    ∙ ap (λ us. compact_text (object_of (place_members w i (named_parts c.deref.result.now))) ++ unwritten_text w i true (reverse us)) c.new-left.ensures.items
    ∙ append-nil (compact_text (object_of (place_members w i (named_parts c.deref.result.now))))
    ∙ ap (λ es. compact_text (object_of (place_members w i es))) (ap named_parts c.deref.ensures.value ∙ c.in_ok-entries.ensures)
    ∙ ap (λ ms. compact_text (object_of ms)) (row-members w c.args.shape.now c.args.row.now i s)

pub loop-member-smaller : goal.loop-member-smaller
loop-member-smaller c =
    text-shorter c.args.store.now c.args.row.now c.loop-member.template c.write_next.new.template c.loop-member.left.items _ c.write_next.new.left.items
    (c.in_ok-write_next.ensures.same c.args.row.now (same-itself c.args.row.now)) c.in-Some.ensures.items c.in_ok-write_next.ensures.more
