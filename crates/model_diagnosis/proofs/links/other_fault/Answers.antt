-- A navigation with another member is among those of the type.
use Rattle.std.proofs.Common.{◌≡◌, true, false, not, ◌∙◌, sym, codes, ap}
use Rattle.std.specs.Prelude.{if◌then◌else◌}
use Rattle.std.proofs.lemmas.Bool.{and_from}
use Rattle.serde_json.specs.View.{view}
use Rattle.edm_schema.specs.JsonTrees.{lacks}
use Rattle.edm_schema.specs.ModelTrees.{navigation_members}
use Rattle.edm_schema.specs.MemberLists.{member_seen, tree_of}
use Rattle.model_diagnosis.specs.Faults.{reference_names, collection_names}
use Rattle.model_diagnosis.specs.Searched.{has_only}
use Rattle.model_diagnosis.proofs.Found.{some_among}
use Rattle.model_diagnosis.proofs.links.other_fault.Goals as goal

pub returns-in-Some-clause-found : goal.returns-in-Some-clause-found
returns-in-Some-clause-found c =
    let n = view c.args.member.value.now in
    let one : lacks (codes "$Collection") n ≡ true = sym c.lacks.ensures.value ∙ c.if-lacks.true in
    λ d k. some_among _ (navigation_members (tree_of c.args.t.now)) (member_seen c.args.member) c.requires.among (and_from (lacks (codes "$Collection") n) _ one c.in-Some.ensures.found)

pub returns-then-lacks-clause-none : goal.returns-then-lacks-clause-none
returns-then-lacks-clause-none c =
    let n = view c.args.member.value.now in
    let one : lacks (codes "$Collection") n ≡ true = sym c.lacks.ensures.value ∙ c.if-lacks.true in
    ap (λ b. has_only (if b then reference_names else collection_names) n) one ∙ c.in_default.ensures.none

pub returns-in-Some-other_in_collection-clause-found : goal.returns-in-Some-other_in_collection-clause-found
returns-in-Some-other_in_collection-clause-found c =
    let n = view c.args.member.value.now in
    let many : lacks (codes "$Collection") n ≡ false = sym c.lacks.ensures.value ∙ c.if-lacks.false in
    λ d k. some_among _ (navigation_members (tree_of c.args.t.now)) (member_seen c.args.member) c.requires.among (and_from (not (lacks (codes "$Collection") n)) _ (ap not many) c.in-Some-other_in_collection.ensures.found)

pub returns-clause-none : goal.returns-clause-none
returns-clause-none c =
    let n = view c.args.member.value.now in
    let many : lacks (codes "$Collection") n ≡ false = sym c.lacks.ensures.value ∙ c.if-lacks.false in
    ap (λ b. has_only (if b then reference_names else collection_names) n) many ∙ c.in_default-other_in_collection.ensures.none
