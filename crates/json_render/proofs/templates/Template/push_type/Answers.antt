use Rattle.std.proofs.Common.{◌≡◌, ◌++◌, ◌∷◌, [], ◌∙◌, ap, codes}
use Rattle.serde_json.specs.Written.{comma_if}
use Rattle.json_render.specs.RowTexts.{pieces_text, template_text, text_json, type_word}
use Rattle.json_render.proofs.TemplateLemmas.{member-end}
use Rattle.json_render.proofs.templates.Template.push_type.Goals as goal

pub returns-clause-text : goal.returns-clause-text
returns-clause-text c = λ w i.
    let name : c.as_str.result.now ≡ c.args.name.now ++ codes "@type" = c.as_str.ensures.value ∙ c.in_ok-push_str.ensures.bytes ∙ ap (λ t. t ++ codes "@type") c.in_ok-member.ensures.ok in
    member-end (pieces_text w i c.push_name.new.self.pieces.items) c.push_name.new.self.tail.items _ (template_text w i c.args.self.now) (comma_if c.args.self.now.after_member) (text_json (c.args.name.now ++ codes "@type")) (text_json (type_word c.args.kind))
    (c.in_ok-push_name.ensures w i ∙ ap (λ t. template_text w i c.args.self.now ++ (comma_if c.args.self.now.after_member ++ (text_json t ++ 58 ∷ []))) name)
    (c.in_ok-push_text.ensures ∙ ap (λ t. c.push_name.new.self.tail.items ++ text_json t) c.type_word.ensures)
