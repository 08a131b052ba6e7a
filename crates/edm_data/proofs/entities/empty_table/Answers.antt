use Rattle.std.proofs.Common.{◌≡◌, length, ◌∙◌, arith}
use Rattle.edm_model.specs.LookUps.{properties_of}
use Rattle.edm_data.proofs.ReferenceLemmas.{part_number}
use Rattle.edm_data.proofs.EntityLemmas.{prop_item}
use Rattle.edm_data.proofs.entities.empty_table.Goals as goal

pub prop_type-requires : goal.prop_type-requires
prop_type-requires c =
    let here = prop_item c.args.model.now c.args.t c.props-props.result.now c.loop-p.p-index c.p-item.result c.requires c.props-props.ensures.value c.loop-p-test.true c.p-item.is in
    here.there

pub returns-clause-width : goal.returns-clause-width
returns-clause-width c =
    let number = part_number c.props-props.result.now c.args.t (length (properties_of c.args.model.now c.args.t)) c.props-props.ensures.value in
    let size : length c.loop-p.columns.items ≡ length c.props-props.result.now = omega (arith, c.loop-p.columns.ok.0, c.loop-p.invariant.len) in
    c.new-2.ensures.width ∙ size ∙ number
