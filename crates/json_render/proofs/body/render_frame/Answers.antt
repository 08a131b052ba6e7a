use Rattle.std.proofs.Common.{◌≡◌, List, None, Some, subst, sym}
use Rattle.std.specs.Prelude.{IfOk}
use Rattle.edm_model.specs.LookUps.{set_name}
use Rattle.apply_meaning.specs.Instances.{Instance}
use Rattle.apply_meaning.specs.MeaningLaws.{AllFit}
use Rattle.json_render.specs.Bodies.{body}
use Rattle.json_render.proofs.body.render_frame.Goals as goal

pub body_of-requires-clause-rows : goal.body_of-requires-clause-rows
body_of-requires-clause-rows g c = λ _ _. subst (λ (l : List Instance). AllFit c.args.store.now c.args.shape.now l) (sym c.of_frame-rows.ensures) c.requires.rows

pub returns-clause-ok : goal.returns-clause-ok
returns-clause-ok g c =
    let w = c.args.store.now in
    subst (λ (l : List Instance). IfOk c.body_of.result (λ b. body w (set_name w.model c.args.set) c.args.shape.now l ≡ Some b.items)) c.of_frame-rows.ensures c.body_of.ensures.ok

pub returns-clause-range : goal.returns-clause-range
returns-clause-range g c = λ past.
    let w = c.args.store.now in
    subst (λ (l : List Instance). body w (set_name w.model c.args.set) c.args.shape.now l ≡ None) c.of_frame-rows.ensures (c.body_of.ensures.range past)
