-- A navigation that fails a test or has another member.
use Rattle.std.proofs.Common.{◌≡◌, ℕ, ◌<◌, true, false, ◌∙◌, length, refl, sym, subst, arith, codes, ap}
use Rattle.std.specs.Prelude.{◌&&◌, IfNone, Option, is_none, if◌then◌else◌}
use Rattle.serde_json.specs.View.{view}
use Rattle.edm_schema.specs.JsonTrees as tree
use Rattle.edm_schema.specs.JsonTrees.{lacks, members_in}
use Rattle.edm_schema.specs.ModelTrees.{is_navigable, is_navigation, is_own, navigation_members, type_place}
use Rattle.edm_schema.specs.MemberLists.{member_seen, root_of, tree_of, IsTypeTree}
use Rattle.edm_schema.proofs.SchemaParts.{tree_at}
use Rattle.model_diagnosis.specs.declared.faults.TypeFault.{TypeFault}
use Rattle.model_diagnosis.specs.Faults.{reference_names, collection_names}
use Rattle.model_diagnosis.specs.Searched.{has_only}
use Rattle.model_diagnosis.proofs.Found.{as_many, some_among, reference_fails, collection_fails}
use Rattle.model_diagnosis.proofs.Unbroken.{kept_passes, reference_holds, collection_holds}
use Rattle.model_diagnosis.proofs.links.navigation_fault.Goals as goal
use Rattle.edm_values.proofs.EachLemmas.{and-right}

pub returns-in-Some-clause-found : goal.returns-in-Some-clause-found
returns-in-Some-clause-found c = c.in-Some.ensures.found (root_of c.args.schema.now) c.args.k

pub returns-in_default-type_place-clause-found : goal.returns-in_default-type_place-clause-found
returns-in_default-type_place-clause-found c =
    some_among (λ n. is_none (type_place (root_of c.args.schema.now) n)) (navigation_members (tree_of c.args.t.now)) (member_seen c.args.member) c.requires.among (ap (λ (o : Option ℕ). is_none o) (sym c.in_default-type_place.ensures.value))

pub failed_reference_test-requires-clause-target : goal.failed_reference_test-requires-clause-target
failed_reference_test-requires-clause-target c =
    let s = c.args.schema.now in
    let place = c.in-Some-type_place.place in
    let within : place < length s.types.items = omega (arith, c.in-Some-type_place.ensures.there, as_many s c.requires.schema) in
    subst IsTypeTree (sym c.index-target.ensures) (c.requires.schema.each place c.index-target.result.now within)

pub failed_collection_test-requires-clause-target : goal.failed_collection_test-requires-clause-target
failed_collection_test-requires-clause-target c =
    let s = c.args.schema.now in
    let place = c.in-Some-type_place.place in
    let within : place < length s.types.items = omega (arith, c.in-Some-type_place.ensures.there, as_many s c.requires.schema) in
    subst IsTypeTree (sym c.index-target.ensures) (c.requires.schema.each place c.index-target.result.now within)

pub returns-then-lacks-clause-found : goal.returns-then-lacks-clause-found
returns-then-lacks-clause-found c =
    let s = c.args.schema.now in
    let place = c.in-Some-type_place.place in
    let within : place < length s.types.items = omega (arith, c.in-Some-type_place.ensures.there, as_many s c.requires.schema) in
    let t = tree_of c.args.t.now in
    let n = view c.args.member.value.now in
    let is = tree_at s c.requires.schema place c.index-target.result.now c.index-target.ensures within in
    let one : lacks (codes "$Collection") n ≡ true = sym c.lacks.ensures.value ∙ c.if-lacks.true in
    (member_seen c.args.member, c.requires.among, refl, reference_fails (root_of s) t (tree_of c.index-target.result.now) n place c.in_ok-test.test c.in-Some-type_place.ensures.value is one c.in_ok-test.ensures.first)

pub returns-in_err-test-clause-none : goal.returns-in_err-test-clause-none
returns-in_err-test-clause-none c =
    let s = c.args.schema.now in
    let place = c.in-Some-type_place.place in
    let within : place < length s.types.items = omega (arith, c.in-Some-type_place.ensures.there, as_many s c.requires.schema) in
    let t = tree_of c.args.t.now in
    let n = view c.args.member.value.now in
    let is = tree_at s c.requires.schema place c.index-target.result.now c.index-target.ensures within in
    let one : lacks (codes "$Collection") n ≡ true = sym c.lacks.ensures.value ∙ c.if-lacks.true in
    let kind : is_navigation n ≡ true = and-right _ _ (kept_passes (λ (m : tree.Member). is_own m.0 && is_navigation m.1) (members_in t) (member_seen c.args.member) c.requires.among) in
    let names : has_only reference_names n ≡ true = ap (λ b. has_only (if b then reference_names else collection_names) n) (sym one) ∙ c.in_default.ensures.none in
    subst (λ (o : Option TypeFault). IfNone o (is_navigable (root_of s) c.args.k t n ≡ true)) (sym c.from_residual.ensures)
    (reference_holds (root_of s) c.args.k t (tree_of c.index-target.result.now) n place c.in-Some-type_place.ensures.value is kind one names c.in_err-test.ensures.none)

pub returns-clause-found : goal.returns-clause-found
returns-clause-found c =
    let s = c.args.schema.now in
    let place = c.in-Some-type_place.place in
    let within : place < length s.types.items = omega (arith, c.in-Some-type_place.ensures.there, as_many s c.requires.schema) in
    let t = tree_of c.args.t.now in
    let n = view c.args.member.value.now in
    let is = tree_at s c.requires.schema place c.index-target.result.now c.index-target.ensures within in
    let many : lacks (codes "$Collection") n ≡ false = sym c.lacks.ensures.value ∙ c.if-lacks.false in
    (member_seen c.args.member, c.requires.among, refl, collection_fails (root_of s) c.args.k (tree_of c.index-target.result.now) n place c.in_ok-test-2.test c.in-Some-type_place.ensures.value is many c.in_ok-test-2.ensures.first)

pub returns-in_err-test-2-clause-none : goal.returns-in_err-test-2-clause-none
returns-in_err-test-2-clause-none c =
    let s = c.args.schema.now in
    let place = c.in-Some-type_place.place in
    let within : place < length s.types.items = omega (arith, c.in-Some-type_place.ensures.there, as_many s c.requires.schema) in
    let t = tree_of c.args.t.now in
    let n = view c.args.member.value.now in
    let is = tree_at s c.requires.schema place c.index-target.result.now c.index-target.ensures within in
    let many : lacks (codes "$Collection") n ≡ false = sym c.lacks.ensures.value ∙ c.if-lacks.false in
    let kind : is_navigation n ≡ true = and-right _ _ (kept_passes (λ (m : tree.Member). is_own m.0 && is_navigation m.1) (members_in t) (member_seen c.args.member) c.requires.among) in
    let names : has_only collection_names n ≡ true = ap (λ b. has_only (if b then reference_names else collection_names) n) (sym many) ∙ c.in_default.ensures.none in
    subst (λ (o : Option TypeFault). IfNone o (is_navigable (root_of s) c.args.k t n ≡ true)) (sym c.from_residual-in_err-test-2.ensures)
    (collection_holds (root_of s) c.args.k t (tree_of c.index-target.result.now) n place c.in-Some-type_place.ensures.value is kind many names c.in_err-test-2.ensures.none)
