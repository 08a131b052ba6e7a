use Rattle.std.proofs.Common.{◌∙◌, ◌++◌, ◌≤◌, refl, ap, sym, subst, length, arith}
use Rattle.std.specs.Prelude.{slice_get, option_map}
use Rattle.edm_model.specs.LookUps.{IsProperty, properties_of, property_at, set_type}
use Rattle.json_render.specs.Places.{named_parts}
use Rattle.json_render.proofs.RowParts.{all-properties, more-property, part-read}
use Rattle.json_render.proofs.SlotLemmas.{length-parts}
use Rattle.json_render.proofs.members.push_properties.Goals as goal

pub prop_name-name-requires : goal.prop_name-name-requires
prop_name-name-requires c =
    let m = c.args.model.now in
    let t = c.set_type.result in
    let r = part-read t (length (properties_of m t)) c.loop-at.at c.props-property-items.result.now c.property-item.result c.props-property-items.ensures.value (omega arith) c.property-item.is in
    subst (IsProperty m) (sym r.1) (c.set_type.ensures.there, r.0)

pub loop-at-preserved : goal.loop-at-preserved
loop-at-preserved c =
    let m = c.args.model.now in
    let t = c.set_type.result in
    let r = part-read t (length (properties_of m t)) c.loop-at.at c.props-property-items.result.now c.property-item.result c.props-property-items.ensures.value (omega arith) c.property-item.is in
    more-property c.args.k (properties_of m (set_type m c.args.set)) c.loop-at.at c.prop_name-name.result.now (named_parts c.args.entries.now.items) c.loop-at.entries.items c.push.new.self.items _
    (ap (λ s. option_map (λ q. q.name) (slice_get (properties_of m s) c.loop-at.at)) (sym c.set_type.ensures.value) ∙ ap (λ p. option_map (λ q. q.name) (property_at m p)) (sym r.1) ∙ c.prop_name-name.ensures.value)
    c.in_ok-push.ensures.items refl c.loop-at.invariant

pub returns : goal.returns
returns c =
    let m = c.args.model.now in
    let t = c.set_type.result in
    let n = length (properties_of m t) in
    let long = ap length c.props-property-items.ensures.value in
    let all = length-parts t n in
    let past : n ≤ c.loop-at.at = omega arith in
    c.loop-at.invariant
    ∙ ap (λ ps. named_parts c.args.entries.now.items ++ ps) (all-properties m c.args.k c.args.set c.loop-at.at c.requires (subst (λ s. length (properties_of m s) ≤ c.loop-at.at) c.set_type.ensures.value past))
