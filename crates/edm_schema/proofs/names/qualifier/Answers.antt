use Rattle.std.proofs.Common.{◌≡◌, false, length, drop, Some, refl, sym, ◌∙◌, ap, nat_eq}
use Rattle.std.specs.List.{starts_with}
use Rattle.edm_schema.specs.ModelTrees.{is_annotation}
use Rattle.edm_schema.proofs.QualifiedNames.{none_chosen, some_chosen}
use Rattle.edm_schema.proofs.names.qualifier.Goals as goal

pub returns-in-None : goal.returns-in-None
returns-in-None c = rw (none_chosen _ _ c.in-None.ensures) refl

pub returns-else-is_annotation : goal.returns-else-is_annotation
returns-else-is_annotation c =
    let name = c.args.name.now in
    let rest = drop (length c.args.term.now) name in
    let found = some_chosen (starts_with nat_eq name c.args.term.now) c.in-Some.qualifier.now rest c.in-Some.ensures in
    let plain : is_annotation rest ≡ false = ap is_annotation (sym found.1) ∙ (sym c.is_annotation.ensures.value ∙ c.if-is_annotation.false) in
    rw (found.0, plain) (ap Some found.1)
