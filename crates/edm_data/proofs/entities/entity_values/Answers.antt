use Rattle.std.proofs.Common.{◌≤◌, ◌∷◌, [], length, map, sym, ap, ◌∙◌, arith}
use Rattle.std.specs.Option.{option_map}
use Rattle.std.proofs.lemmas.List.{map-append}
use Rattle.serde_json.specs.View.{view}
use Rattle.edm_values.specs.Values.{seen_value}
use Rattle.edm_model.specs.LookUps.{properties_of}
use Rattle.edm_data.specs.DataFile.{property_value}
use Rattle.edm_data.proofs.ReferenceLemmas.{part_number}
use Rattle.edm_data.proofs.EntityLemmas.{prop_item, values-more, values-all, values-none}
use Rattle.edm_data.proofs.entities.entity_values.Goals as goal

pub property_value-requires-clause-there : goal.property_value-requires-clause-there
property_value-requires-clause-there c =
    let here = prop_item c.args.model.now c.args.t c.props-props.result.now c.loop-p.p-index c.p-item.result c.requires.there c.props-props.ensures.value c.loop-p-test.true c.p-item.is in
    here.there

pub returns-in-None : goal.returns-in-None
returns-in-None c =
    let here = prop_item c.args.model.now c.args.t c.props-props.result.now c.loop-p.p-index c.p-item.result c.requires.there c.props-props.ensures.value c.loop-p-test.true c.p-item.is in
    let f = property_value (view c.args.item.now) in
    values-none f (properties_of c.args.model.now c.args.t) c.loop-p.p-index (ap (option_map f) (sym here.found) ∙ (rw c.in-None.is at c.in_ok-value.ensures.value))

pub loop-p-preserved : goal.loop-p-preserved
loop-p-preserved c =
    let here = prop_item c.args.model.now c.args.t c.props-props.result.now c.loop-p.p-index c.p-item.result c.requires.there c.props-props.ensures.value c.loop-p-test.true c.p-item.is in
    let f = property_value (view c.args.item.now) in
    values-more f (properties_of c.args.model.now c.args.t) c.loop-p.p-index (map seen_value c.loop-p.values.items) (map seen_value c.push.new.self.items) (seen_value c.in-Some.value) (ap (map seen_value) c.in_ok-push-in-Some.ensures.items ∙ map-append seen_value c.loop-p.values.items (c.in-Some.value ∷ [])) (ap (option_map f) (sym here.found) ∙ (rw c.in-Some.is at c.in_ok-value.ensures.value)) c.loop-p.invariant

pub returns : goal.returns
returns c =
    let number = part_number c.props-props.result.now c.args.t (length (properties_of c.args.model.now c.args.t)) c.props-props.ensures.value in
    let over : length c.props-props.result.now ≤ c.loop-p.p-index = omega arith in
    values-all (property_value (view c.args.item.now)) (properties_of c.args.model.now c.args.t) c.loop-p.p-index (map seen_value c.loop-p.values.items) (rw number at over) c.loop-p.invariant
