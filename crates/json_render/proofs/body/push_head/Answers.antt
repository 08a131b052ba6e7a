use Rattle.std.proofs.Common.{◌++◌, ◌∙◌, ap, codes}
use Rattle.edm_model.specs.LookUps.{set_name}
use Rattle.json_render.specs.Bodies.{context}
use Rattle.json_render.specs.RowTexts.{text_json}
use Rattle.json_render.proofs.RowLines.{head-written}
use Rattle.json_render.proofs.body.push_head.Goals as goal

pub returns : goal.returns
returns c =
    let w = c.args.store.now in
    let s = c.args.shape.now in
    let told = c.as_str.ensures.value ∙ c.in_ok-context.ensures ∙ ap (λ n. context n s) (c.set_name.ensures.value ∙ ap (λ m. set_name m c.args.set) c.model.ensures.value) in
    head-written c.args.body.now.items (codes "{\"@context\":") (text_json (context (set_name w.model c.args.set) s)) (codes ",\"value\":[") c.extend_from_slice.new.self.items c.push_text.new.out.items c.extend_from_slice-2.new.self.items
    c.in_ok-extend_from_slice.ensures.items (c.in_ok-push_text.ensures ∙ ap (λ t. c.extend_from_slice.new.self.items ++ text_json t) told) c.in_ok-extend_from_slice-2.ensures.items
