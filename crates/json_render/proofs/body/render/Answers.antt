use Rattle.std.proofs.Common.{◌++◌, ◌∙◌, ap, sym}
use Rattle.edm_model.specs.LookUps.{set_name}
use Rattle.json_render.specs.Bodies.{body}
use Rattle.json_render.specs.RowRuns.{head_text}
use Rattle.json_render.proofs.RowLines.{body-ended}
use Rattle.json_render.proofs.body.render.Goals as goal

pub returns-clause-ok : goal.returns-clause-ok
returns-clause-ok c =
    let w = c.args.store.now in
    let s = c.args.shape.now in
    ap (λ l. body w (set_name w.model c.args.set) s l) (sym c.of_rows-rows.ensures)
    ∙ body-ended w (set_name w.model c.args.set) s c.of_rows-rows.result c.push_head.new.body.items c.push_rows.new.body.items c.extend_from_slice.new.self.items
    (c.in_ok-push_head.ensures ∙ ap (λ xs. xs ++ head_text (set_name w.model c.args.set) s) c.new-body.ensures.items) c.in_ok-push_rows.ensures.ok c.in_ok-extend_from_slice.ensures.items c.in_ok-push_rows.ensures.in_range
