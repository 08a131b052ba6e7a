use Rattle.std.proofs.Common.{◌∙◌, rules, tests}
use Rattle.std.proofs.lemmas.Iterator.{YieldsList-from_slice}
use Rattle.std.proofs.lemmas.Iterator.Search.{all_from_yields_List}
use Rattle.edm_schema.specs.declared.members.Member.{Member}
use Rattle.edm_schema.specs.MemberLists.{member_seen}
use Rattle.edm_schema.specs.JsonTrees as tree
use Rattle.std.proofs.Common.{not}
use Rattle.std.specs.Prelude.{◌||◌}
use Rattle.edm_schema.specs.ModelTrees.{is_own, is_property, is_navigation}
use Rattle.edm_schema.proofs.RuleFacts.{all_seen_pass}
use Rattle.edm_schema.proofs.rules.has_known_members.Goals as goal

pub returns : goal.returns
returns c =
    let passes = λ (m : tree.Member). not (is_own m.0) || is_property m.1 || is_navigation m.1 in
    all_from_yields_List (λ (m : Member). passes (member_seen m)) _ _ c.all.result c.all.ensures.ran (YieldsList-from_slice c.args.t.now.members.items (cc)) (λ x b q k. search (rules, tests))
    ∙ all_seen_pass passes c.args.t.now.members.items _ c.requires.members
