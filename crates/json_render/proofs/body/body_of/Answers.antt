use Rattle.std.proofs.Common.{◌++◌, ◌∙◌, ap}
use Rattle.edm_model.specs.LookUps.{set_name}
use Rattle.json_render.specs.RowRuns.{head_text}
use Rattle.json_render.proofs.RowLines.{body-ended}
use Rattle.json_render.proofs.body.body_of.Goals as goal

pub returns-clause-ok : goal.returns-clause-ok
returns-clause-ok g c =
    let w = c.args.store.now in
    let s = c.args.shape.now in
    body-ended w (set_name w.model c.args.set) s c.args.rows.now c.push_head.new.body.items c.push_list.new.body.items c.extend_from_slice.new.self.items
    (c.in_ok-push_head.ensures ∙ ap (λ xs. xs ++ head_text (set_name w.model c.args.set) s) c.new-body.ensures.items) c.in_ok-push_list.ensures.ok c.in_ok-extend_from_slice.ensures.items c.in_ok-push_list.ensures.in_range
