use Rattle.std.proofs.Common.{◌≡◌, map, sym, ◌∙◌, ap, arith}
use Rattle.std.proofs.lemmas.Grind.{common_steps}
use Rattle.std.proofs.lemmas.Simd.{map-map}
use Rattle.serde_json.specs.View.{view}
use Rattle.edm_schema.specs.JsonTrees as tree
use Rattle.edm_schema.specs.ModelTrees.{qualifier, definition_term, term_members}
use Rattle.edm_model.specs.ModelFile.{custom_from}
use Rattle.edm_schema.specs.MemberLists.{member_seen, tree_of}
use Rattle.edm_schema.specs.declared.members.Member.{Member}
use Rattle.edm_model.proofs.build.customs_of.Goals as goal

pub returns : goal.returns
returns c =
    let items = c.args.t.now.definitions.items in
    let made = λ (m : tree.Member). custom_from m.0 m.1 in
    let whole : c.loop-member.customs.items ≡ map (λ (m : Member). custom_from m.name.now (view m.value.now)) items = grind (arith, common_steps) in
    whole ∙ (sym (map-map made member_seen items) ∙ (ap (map made) c.requires.definitions ∙ map-map made (λ (m : tree.Member). (qualifier definition_term m.0, m.1)) (term_members definition_term (tree_of c.args.t.now))))
