use Rattle.std.proofs.Common.{◌∙◌, ◌++◌, ap}
use Rattle.std.specs.Prelude.{reverse}
use Rattle.json_render.specs.Places.{named_parts}
use Rattle.json_render.specs.RowTexts.{place_members, template_text}
use Rattle.json_render.proofs.WrittenMembers.{object-begun}
use Rattle.json_render.proofs.members.begin.Goals as goal

pub returns-clause-begun : goal.returns-clause-begun
returns-clause-begun c = λ i s.
    let w = c.args.store.now in
    object-begun w i c.open.new.self (template_text w i c.args.template.now) c.args.left.now.items c.in_ok-members.members.items c.put_before.new.left.items (place_members w i (named_parts c.args.place.now))
    (c.in_ok-open.ensures.text w i) c.in_ok-open.ensures.after (c.in_ok-put_before.ensures ∙ ap (λ us. us ++ reverse c.in_ok-members.members.items) c.in_ok-push.ensures.items) c.in_ok-members.ensures.all (c.in_ok-members.ensures.members i s)
