use Rattle.std.proofs.Common.{◌≡◌, map, sym, ◌∙◌, ap, arith}
use Rattle.std.proofs.lemmas.Grind.{common_steps}
use Rattle.std.proofs.lemmas.Simd.{map-map}
use Rattle.edm_model.specs.ModelFile.{navigation_of}
use Rattle.edm_schema.proofs.Mapped.{made_more}
use Rattle.edm_schema.specs.MemberLists.{member_seen, tree_of, root_of}
use Rattle.edm_schema.specs.declared.members.Member.{Member}
use Rattle.edm_model.proofs.build.navigations_of.Goals as goal

pub returns : goal.returns
returns c =
    let items = c.args.t.now.navigations.items in
    let whole : c.loop-member.navigations.items ≡ map (λ (m : Member). navigation_of (root_of c.args.schema.now) (tree_of c.args.t.now) (member_seen m)) items = grind (arith, common_steps) in
    whole ∙ (sym (map-map (navigation_of (root_of c.args.schema.now) (tree_of c.args.t.now)) member_seen items) ∙ ap (map (navigation_of (root_of c.args.schema.now) (tree_of c.args.t.now))) c.requires.t.navigations)

pub loop-member-preserved : goal.loop-member-preserved
loop-member-preserved c =
    let items = c.deref-member-items.ensures.value in
    made_more (λ (m : Member). navigation_of (root_of c.args.schema.now) (tree_of c.args.t.now) (member_seen m)) _ c.loop-member.member-index c.member-item.result _ _ c.in_ok-navigation_of.field-0 (rw items at c.loop-member-test.true) (rw items at c.member-item.is) c.loop-member.invariant c.in_ok-push.ensures.items c.in_ok-navigation_of.ensures
