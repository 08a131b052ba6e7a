-- The one constraint, from a property to the target's key.
use Rattle.std.proofs.Common.{◌≡◌, true, false, not, cond, Some, None, refl, sym, ◌∙◌, ap, subst, rules, codes}
use Rattle.std.specs.Prelude.{Option, ◌&&◌, is_some}
use Rattle.std.proofs.lemmas.Bool.{and_from}
use Rattle.serde_json.specs.Data.{Data}
use Rattle.serde_json.specs.View.{view}
use Rattle.edm_values.specs.Lists.{is_some_and}
use Rattle.edm_schema.specs.JsonTrees.{Member, is_object, is_text, passes_at}
use Rattle.edm_schema.specs.ModelTrees.{constraint, key_name, property_kind, are_of_one_kind}
use Rattle.edm_schema.specs.MemberLists.{tree_of}
use Rattle.model_diagnosis.specs.declared.faults.ReferenceTest.{ReferenceTest}
use Rattle.model_diagnosis.specs.Faults.{failed_reference}
use Rattle.model_diagnosis.proofs.links.failed_reference_test.Goals as goal

-- a constraint that passes the tests before the last one
kinds_left : (t target n : Data) (m : Member) → passes_at (codes "$ReferentialConstraint") is_object n ≡ true → Some m ≡ constraint n → is_some (property_kind t m.0) ≡ true → is_text (key_name target) m.1 ≡ true
    → failed_reference t target n ≡ cond (not (are_of_one_kind (property_kind t m.0) (property_kind target (key_name target)))) (Some ReferenceTest.Kind) None
kinds_left t target n m object there from key = rw (object, ← there, from, key) refl

pub returns-then-not-are_of_one_kind-clause-first : goal.returns-then-not-are_of_one_kind-clause-first
returns-then-not-are_of_one_kind-clause-first c =
    let t = tree_of c.args.t.now in
    let target = tree_of c.args.target.now in
    let object : c.is_object_at.result ≡ true = search rules in
    let text : c.is_text.result ≡ true = search rules in
    let fails : c.are_of_one_kind.result ≡ false = search rules in
    let from : is_some (property_kind t c.in-Some.constraint.name.now) ≡ true = search rules in
    let to = c.property_kind-to.ensures.value ∙ ap (property_kind target) c.requires.target.key in
    let kinds = c.are_of_one_kind.ensures.value ∙ (ap (λ a. are_of_one_kind a c.property_kind-to.result) c.property_kind-from.ensures.value ∙ ap (are_of_one_kind (property_kind t c.in-Some.constraint.name.now)) to) in
    let key : is_text (key_name target) (view c.in-Some.constraint.value.now) ≡ true = ap (λ k. is_text k (view c.in-Some.constraint.value.now)) (sym c.requires.target.key) ∙ (sym c.is_text.ensures.value ∙ text) in
    sym (kinds_left t target (view c.args.navigation.now) _ (sym c.is_object_at.ensures.value ∙ object) c.in-Some.ensures.value from key ∙ ap (λ b. cond (not b) (Some ReferenceTest.Kind) None) (sym kinds ∙ fails))

pub returns-clause-first : goal.returns-clause-first
returns-clause-first c =
    let t = tree_of c.args.t.now in
    let target = tree_of c.args.target.now in
    let object : c.is_object_at.result ≡ true = search rules in
    let text : c.is_text.result ≡ true = search rules in
    let holds : c.are_of_one_kind.result ≡ true = search rules in
    let from : is_some (property_kind t c.in-Some.constraint.name.now) ≡ true = search rules in
    let to = c.property_kind-to.ensures.value ∙ ap (property_kind target) c.requires.target.key in
    let kinds = c.are_of_one_kind.ensures.value ∙ (ap (λ a. are_of_one_kind a c.property_kind-to.result) c.property_kind-from.ensures.value ∙ ap (are_of_one_kind (property_kind t c.in-Some.constraint.name.now)) to) in
    let key : is_text (key_name target) (view c.in-Some.constraint.value.now) ≡ true = ap (λ k. is_text k (view c.in-Some.constraint.value.now)) (sym c.requires.target.key) ∙ (sym c.is_text.ensures.value ∙ text) in
    sym (kinds_left t target (view c.args.navigation.now) _ (sym c.is_object_at.ensures.value ∙ object) c.in-Some.ensures.value from key ∙ ap (λ b. cond (not b) (Some ReferenceTest.Kind) None) (sym kinds ∙ holds))

pub returns-clause-none : goal.returns-clause-none
returns-clause-none c =
    let t = tree_of c.args.t.now in
    let target = tree_of c.args.target.now in
    let object : c.is_object_at.result ≡ true = search rules in
    let text : c.is_text.result ≡ true = search rules in
    let holds : c.are_of_one_kind.result ≡ true = search rules in
    let to = c.property_kind-to.ensures.value ∙ ap (property_kind target) c.requires.target.key in
    let kinds = c.are_of_one_kind.ensures.value ∙ (ap (λ a. are_of_one_kind a c.property_kind-to.result) c.property_kind-from.ensures.value ∙ ap (are_of_one_kind (property_kind t c.in-Some.constraint.name.now)) to) in
    let key : is_text (key_name target) (view c.in-Some.constraint.value.now) ≡ true = ap (λ k. is_text k (view c.in-Some.constraint.value.now)) (sym c.requires.target.key) ∙ (sym c.is_text.ensures.value ∙ text) in
    and_from _ _ (sym c.is_object_at.ensures.value ∙ object)
    (subst (λ (o : Option Member). is_some_and (λ m. is_text (key_name target) m.1 && are_of_one_kind (property_kind t m.0) (property_kind target (key_name target))) o ≡ true) c.in-Some.ensures.value (and_from _ _ key (sym kinds ∙ holds)))
