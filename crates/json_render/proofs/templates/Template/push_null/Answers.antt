use Rattle.std.proofs.Common.{codes}
use Rattle.serde_json.specs.Written.{comma_if}
use Rattle.json_render.specs.RowTexts.{pieces_text, template_text, text_json}
use Rattle.json_render.proofs.TemplateLemmas.{member-end}
use Rattle.json_render.proofs.templates.Template.push_null.Goals as goal

pub returns-clause-text : goal.returns-clause-text
returns-clause-text c = λ w i.
    member-end (pieces_text w i c.push_name.new.self.pieces.items) c.push_name.new.self.tail.items _ (template_text w i c.args.self.now) (comma_if c.args.self.now.after_member) (text_json c.args.name.now) (codes "null")
    (c.in_ok-push_name.ensures w i) c.in_ok-extend_from_slice.ensures.items
