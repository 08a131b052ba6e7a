use Rattle.std.proofs.Common.{◌≤◌, ◌∙◌, ap, sym, subst, length}
use Rattle.std.specs.Prelude.{slice_get}
use Rattle.edm_model.specs.LookUps.{properties_of, set_type}
use Rattle.edm_data.specs.References.{property}
use Rattle.json_render.proofs.SlotLemmas.{part-place, part-past, property-past}
use Rattle.json_render.proofs.templates.property_at.Goals as goal

pub returns-in-Some : goal.returns-in-Some
returns-in-Some c =
    c.property.ensures.value
    ∙ ap (property c.args.store.now c.args.entity) (part-place c.set_type.result (length (properties_of c.model-model.result.now c.set_type.result)) c.args.at c.in-Some.property
    (ap (λ ps. slice_get ps c.args.at) (sym c.props.ensures.value) ∙ sym c.property_in.ensures ∙ c.in-Some.is))

pub returns-in-None : goal.returns-in-None
returns-in-None c =
    let m = c.model-model.result.now in
    let past = part-past c.set_type.result (length (properties_of m c.set_type.result)) c.args.at (ap (λ ps. slice_get ps c.args.at) (sym c.props.ensures.value) ∙ sym c.property_in.ensures ∙ c.in-None.is) in
    let of_set = subst (λ t. length (properties_of m t) ≤ c.args.at) (c.set_type.ensures.value ∙ ap (λ e. set_type m e.set) c.entity.view_is) past in
    property-past c.args.store.now c.model-model.ensures.fits c.args.entity c.args.at (subst (λ m. length (properties_of m (set_type m c.args.entity.set)) ≤ c.args.at) c.model-model.ensures.value of_set)
