use Rattle.std.proofs.Common.{◌≡◌, map, sym, ◌∙◌, ap, arith}
use Rattle.std.proofs.lemmas.Grind.{common_steps}
use Rattle.std.proofs.lemmas.Simd.{map-map}
use Rattle.serde_json.specs.View.{view}
use Rattle.edm_schema.specs.JsonTrees as tree
use Rattle.edm_schema.specs.ModelTrees.{qualifier, hierarchy_term, term_members}
use Rattle.edm_model.specs.ModelFile.{hierarchy_from}
use Rattle.edm_schema.specs.MemberLists.{member_seen, tree_of}
use Rattle.edm_schema.specs.declared.members.Member.{Member}
use Rattle.edm_model.proofs.build.hierarchies_of.Goals as goal

pub returns : goal.returns
returns c =
    let items = c.args.t.now.hierarchies.items in
    let made = λ (m : tree.Member). hierarchy_from (tree_of c.args.t.now) m.0 m.1 in
    let whole : c.loop-member.hierarchies.items ≡ map (λ (m : Member). hierarchy_from (tree_of c.args.t.now) m.name.now (view m.value.now)) items = grind (arith, common_steps) in
    whole ∙ (sym (map-map made member_seen items) ∙ (ap (map made) c.requires.hierarchies ∙ map-map made (λ (m : tree.Member). (qualifier hierarchy_term m.0, m.1)) (term_members hierarchy_term (tree_of c.args.t.now))))
