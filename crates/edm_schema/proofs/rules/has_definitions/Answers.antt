use Rattle.std.proofs.Common.{◌∙◌, rules, tests}
use Rattle.std.proofs.lemmas.Iterator.{YieldsList-from_slice}
use Rattle.std.proofs.lemmas.Iterator.Search.{all_from_yields_List}
use Rattle.edm_schema.specs.declared.members.Member.{Member}
use Rattle.edm_schema.specs.MemberLists.{member_seen, tree_of}
use Rattle.edm_schema.specs.JsonTrees as tree
use Rattle.std.specs.Prelude.{◌&&◌}
use Rattle.edm_schema.specs.ModelTrees.{is_definition, is_custom_name, definition_term}
use Rattle.edm_schema.proofs.RuleFacts.{all_qualified_pass}
use Rattle.edm_schema.proofs.rules.has_definitions.Goals as goal

pub returns : goal.returns
returns c =
    let passes = λ (m : tree.Member). is_definition m.1 && is_custom_name (tree_of c.args.t.now) m.0 in
    all_from_yields_List (λ (m : Member). passes (member_seen m)) _ _ c.all.result c.all.ensures.ran (YieldsList-from_slice c.args.t.now.definitions.items (cc)) (λ x b q k. search (rules, tests))
    ∙ all_qualified_pass passes definition_term (tree_of c.args.t.now) c.args.t.now.definitions.items c.requires.definitions
