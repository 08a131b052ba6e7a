use Rattle.std.proofs.Common.{◌≡◌, ◌≤◌, ◌∙◌, sym, ap, subst, arith, true, false, length, option_map, Some}
use Rattle.std.specs.Prelude.{not}
use Rattle.std.specs.Option.{is_some, is_none}
use Rattle.std.specs.List.{list_all}
use Rattle.std.proofs.lemmas.List.{take_all}
use Rattle.serde_json.specs.View.{view}
use Rattle.edm_values.specs.Values.{seen_value}
use Rattle.edm_model.specs.JsonTrees.{is_object}
use Rattle.edm_model.specs.LookUps.{properties_of}
use Rattle.edm_data.specs.DataFile.{property_value}
use Rattle.edm_data.proofs.EntityLemmas.{prop_item, values-none}
use Rattle.edm_data.proofs.ReferenceLemmas.{part_is, part_number}
use Rattle.data_diagnosis.specs.EntityFaults.{is_shape_fault}
use Rattle.data_diagnosis.proofs.ShapeFaults.{valueless-is, none-mapped, is_none-option_map, values-more, values-all}
use Rattle.data_diagnosis.proofs.shapes.value_fault.Goals as goal

pub returns-then-is_none-clause-found : goal.returns-then-is_none-clause-found
returns-then-is_none-clause-found c =
    let m = c.args.model.now in
    let here = part_is c.props-props.result.now c.args.t (length (properties_of m c.args.t)) c.loop-p.p-index c.p-item.result c.props-props.ensures.value c.loop-p-test.true c.p-item.is in
    subst (λ t. is_shape_fault m t (view c.args.item.now) c.property_fault.result ≡ is_object (view c.args.item.now)) (ap (λ q. q.of) here) c.property_fault.ensures.found

pub returns-then-is_none-clause-refused : goal.returns-then-is_none-clause-refused
returns-then-is_none-clause-refused c =
    let m = c.args.model.now in
    let here = prop_item m c.args.t c.props-props.result.now c.loop-p.p-index c.p-item.result c.requires.there c.props-props.ensures.value c.loop-p-test.true c.p-item.is in
    let f = property_value (view c.args.item.now) in
    let none : is_none c.in_ok-property_value.field-0 ≡ true = ap not (c.is_none.ensures ∙ ap not c.if-is_none.true) in
    sym (values-none f (properties_of m c.args.t) c.loop-p.p-index (ap (option_map f) (sym here.found) ∙ c.in_ok-property_value.ensures.value ∙ ap Some (none-mapped seen_value c.in_ok-property_value.field-0 none)))

pub loop-p-preserved : goal.loop-p-preserved
loop-p-preserved c =
    let m = c.args.model.now in
    let here = prop_item m c.args.t c.props-props.result.now c.loop-p.p-index c.p-item.result c.requires.there c.props-props.ensures.value c.loop-p-test.true c.p-item.is in
    let f = property_value (view c.args.item.now) in
    let some : is_none c.in_ok-property_value.field-0 ≡ false = ap not (c.is_none.ensures ∙ ap not c.if-is_none.false) in
    values-more f (properties_of m c.args.t) c.loop-p.p-index (ap (option_map (λ q. is_none (f q))) (sym here.found) ∙ valueless-is f _ _ c.in_ok-property_value.ensures.value ∙ ap Some (is_none-option_map seen_value c.in_ok-property_value.field-0 ∙ some)) c.loop-p.invariant

pub returns-clause-none : goal.returns-clause-none
returns-clause-none c =
    let ps = properties_of c.args.model.now c.args.t in
    let f = property_value (view c.args.item.now) in
    let number = part_number c.props-props.result.now c.args.t (length ps) c.props-props.ensures.value in
    let over : length c.props-props.result.now ≤ c.loop-p.p-index = omega arith in
    values-all f ps ∙ ap (list_all (λ q. is_some (f q))) (sym (take_all c.loop-p.p-index ps (rw number at over))) ∙ c.loop-p.invariant
