use Rattle.std.proofs.Common.{◌≡◌, map, sym, ◌∙◌, ap, subst, arith}
use Rattle.std.proofs.lemmas.Grind.{common_steps}
use Rattle.std.proofs.lemmas.Simd.{map-map}
use Rattle.edm_model.specs.ModelFile.{type_of}
use Rattle.edm_schema.proofs.Mapped.{made_more}
use Rattle.edm_schema.specs.MemberLists.{root_of, type_seen, IsTypeTree}
use Rattle.edm_schema.specs.declared.schema.TypeTree.{TypeTree}
use Rattle.edm_model.proofs.build.types_of.Goals as goal

pub returns : goal.returns
returns c =
    let items = c.args.schema.now.types.items in
    let whole : c.loop-t.types.items ≡ map (λ (m : TypeTree). type_of (root_of c.args.schema.now) (type_seen m)) items = grind (arith, common_steps) in
    whole ∙ (sym (map-map (type_of (root_of c.args.schema.now)) type_seen items) ∙ ap (map (type_of (root_of c.args.schema.now))) c.requires.types)

pub type_of-requires-clause-t : goal.type_of-requires-clause-t
type_of-requires-clause-t c =
    let items = c.deref-t-items.ensures.value in
    subst IsTypeTree (sym (rw items at c.t-item.is)) (c.requires.each c.loop-t.t-index c.t-item.result (rw items at c.loop-t-test.true))

pub loop-t-preserved : goal.loop-t-preserved
loop-t-preserved c =
    let items = c.deref-t-items.ensures.value in
    made_more (λ (t : TypeTree). type_of (root_of c.args.schema.now) (type_seen t)) _ c.loop-t.t-index c.t-item.result _ _ c.in_ok-type_of.field-0 (rw items at c.loop-t-test.true) (rw items at c.t-item.is) c.loop-t.invariant c.in_ok-push.ensures.items c.in_ok-type_of.ensures
