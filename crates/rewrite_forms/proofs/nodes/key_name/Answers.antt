use Rattle.std.proofs.Common.{sym, ◌∙◌, ap}
use Rattle.std.specs.Prelude.{option_map}
use Rattle.edm_model.specs.LookUps.{property_at}
use Rattle.rewrite_forms.proofs.NodeShapes.{named-text, property-named}
use Rattle.rewrite_forms.proofs.nodes.key_name.Goals as goal

pub unreachable-requires : goal.unreachable-requires
unreachable-requires c =
    let n = c.prop_name.result.now in
    let e = sym c.in-None.is ∙ named-text n c.in_ok-name.field-0 (property-named c.args.m.now c.key_of.result n c.sets-sets.ensures.sound c.prop_name.ensures.value) c.in_ok-name.ensures.value in
    cc

pub returns : goal.returns
returns c =
    let n = c.prop_name.result.now in
    ap (λ p. option_map (λ q. q.name) (property_at c.args.m.now p)) (sym c.key_of.ensures.value) ∙ c.prop_name.ensures.value
    ∙ sym (named-text n c.in_ok-name.field-0 (property-named c.args.m.now c.key_of.result n c.sets-sets.ensures.sound c.prop_name.ensures.value) c.in_ok-name.ensures.value)
    ∙ c.in-Some.is
