use Rattle.std.proofs.Common.{sym, subst, ap, ◌∙◌}
use Rattle.apply_meaning.specs.Instances.{fits}
use Rattle.json_render.specs.RowTexts.{SamePattern}
use Rattle.json_render.proofs.FitRows.{row-fits, row-of}
use Rattle.json_render.proofs.body.template_at.Goals as goal

pub row_template-requires-clause-entities : goal.row_template-requires-clause-entities
row_template-requires-clause-entities c =
    row-of c.args.store.now c.args.shape.now c.at.result (ap (fits c.args.store.now c.args.shape.now) c.at.ensures ∙ row-fits c.args.store.now c.args.shape.now c.args.rows.now c.args.row c.requires.fit c.requires.there)

pub returns-in_ok-place-in-None-clause-known : goal.returns-in_ok-place-in-None-clause-known
returns-in_ok-place-in-None-clause-known c =
    c.in_ok-place-in-None.ensures.known c.args.store.now c.args.shape.now c.args.rows.now c.requires.known
    (record { within = c.requires.there; text = λ i p. c.in_ok-template-in-None.ensures i (subst (λ r. SamePattern r i) (sym c.at.ensures) p) })
