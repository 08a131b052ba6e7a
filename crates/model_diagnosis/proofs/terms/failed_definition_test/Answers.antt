-- The custom aggregate of the name, and no property or navigation of it.
use Rattle.std.proofs.Common.{◌≡◌, ℕ, true, false, not, List, [], ◌∷◌, refl, sym, ◌∙◌, ap, rules, codes}
use Rattle.std.specs.Prelude.{is_some}
use Rattle.std.proofs.lemmas.Bool.{and_from}
use Rattle.serde_json.specs.Data.{Data}
use Rattle.serde_json.specs.View.{view}
use Rattle.edm_schema.specs.JsonTrees.{is_object, is_string, passes_at}
use Rattle.edm_schema.specs.ModelTrees.{aggregate_term, method_at, has_groups_or_none, is_custom_name}
use Rattle.edm_schema.specs.MemberLists.{tree_of}
use Rattle.edm_schema.proofs.RuleFacts.{own_has_name, term_has_name}
use Rattle.model_diagnosis.specs.declared.faults.DefinitionTest.{DefinitionTest}
use Rattle.model_diagnosis.specs.Faults.{first_failed, failed_definition, passes_definition}
use Rattle.model_diagnosis.proofs.Tests.{fails_here, passes_here}
use Rattle.model_diagnosis.proofs.terms.failed_definition_test.Goals as goal

-- a definition that passes the tests of its own members
names_left : (t : Data) (name : List ℕ) (d : Data) → is_object d ≡ true → passes_at (codes "Of") is_string d ≡ true → is_some (method_at (codes "With") d) ≡ true → has_groups_or_none d ≡ true
    → failed_definition t name d ≡ first_failed (λ test. passes_definition test t name d) (DefinitionTest.Aggregate ∷ DefinitionTest.Free ∷ [])
names_left t name d object expression method groups = rw (object, expression, method, groups) refl

pub returns-then-is_none-2-clause-first : goal.returns-then-is_none-2-clause-first
returns-then-is_none-2-clause-first c =
    let t = c.args.t.now in
    let name = c.args.name.now in
    let d = view c.args.definition.now in
    let there = ap is_some (rw c.as_slice.ensures.value at c.find_named.ensures.value) ∙ term_has_name aggregate_term t.aggregates.items (tree_of t) name c.requires.aggregates in
    let none : is_some c.find_named.result ≡ false = search rules in
    let object : is_object d ≡ true = search rules in
    let expression : passes_at (codes "Of") is_string d ≡ true = search rules in
    let method : is_some (method_at (codes "With") d) ≡ true = search rules in
    let groups : has_groups_or_none d ≡ true = search rules in
    sym (names_left (tree_of t) name d object expression method groups
    ∙ fails_here (λ test. passes_definition test (tree_of t) name d) DefinitionTest.Aggregate (DefinitionTest.Free ∷ []) (sym there ∙ none))

pub returns-then-is_some-clause-first : goal.returns-then-is_some-clause-first
returns-then-is_some-clause-first c =
    let t = c.args.t.now in
    let name = c.args.name.now in
    let d = view c.args.definition.now in
    let there = ap is_some (rw c.as_slice.ensures.value at c.find_named.ensures.value) ∙ term_has_name aggregate_term t.aggregates.items (tree_of t) name c.requires.aggregates in
    let own = ap is_some (rw c.as_slice-2.ensures.value at c.find_named-2.ensures.value) ∙ own_has_name t.own.items (tree_of t) name c.requires.own in
    let some : is_some c.find_named.result ≡ true = search rules in
    let taken : is_some c.find_named-2.result ≡ true = search rules in
    let object : is_object d ≡ true = search rules in
    let expression : passes_at (codes "Of") is_string d ≡ true = search rules in
    let method : is_some (method_at (codes "With") d) ≡ true = search rules in
    let groups : has_groups_or_none d ≡ true = search rules in
    sym (names_left (tree_of t) name d object expression method groups
    ∙ (passes_here (λ test. passes_definition test (tree_of t) name d) DefinitionTest.Aggregate (DefinitionTest.Free ∷ []) (sym there ∙ some)
    ∙ fails_here (λ test. passes_definition test (tree_of t) name d) DefinitionTest.Free [] (ap not (sym own ∙ taken))))

pub returns-clause-first : goal.returns-clause-first
returns-clause-first c =
    let t = c.args.t.now in
    let name = c.args.name.now in
    let d = view c.args.definition.now in
    let there = ap is_some (rw c.as_slice.ensures.value at c.find_named.ensures.value) ∙ term_has_name aggregate_term t.aggregates.items (tree_of t) name c.requires.aggregates in
    let own = ap is_some (rw c.as_slice-2.ensures.value at c.find_named-2.ensures.value) ∙ own_has_name t.own.items (tree_of t) name c.requires.own in
    let some : is_some c.find_named.result ≡ true = search rules in
    let none : is_some c.find_named-2.result ≡ false = search rules in
    let object : is_object d ≡ true = search rules in
    let expression : passes_at (codes "Of") is_string d ≡ true = search rules in
    let method : is_some (method_at (codes "With") d) ≡ true = search rules in
    let groups : has_groups_or_none d ≡ true = search rules in
    sym (names_left (tree_of t) name d object expression method groups
    ∙ (passes_here (λ test. passes_definition test (tree_of t) name d) DefinitionTest.Aggregate (DefinitionTest.Free ∷ []) (sym there ∙ some)
    ∙ passes_here (λ test. passes_definition test (tree_of t) name d) DefinitionTest.Free [] (ap not (sym own ∙ none))))

pub returns-clause-none : goal.returns-clause-none
returns-clause-none c =
    let t = c.args.t.now in
    let d = view c.args.definition.now in
    let there = ap is_some (rw c.as_slice.ensures.value at c.find_named.ensures.value) ∙ term_has_name aggregate_term t.aggregates.items (tree_of t) c.args.name.now c.requires.aggregates in
    let own = ap is_some (rw c.as_slice-2.ensures.value at c.find_named-2.ensures.value) ∙ own_has_name t.own.items (tree_of t) c.args.name.now c.requires.own in
    let some : is_some c.find_named.result ≡ true = search rules in
    let none : is_some c.find_named-2.result ≡ false = search rules in
    let custom : is_custom_name (tree_of t) c.args.name.now ≡ true = and_from _ _ (sym there ∙ some) (ap not (sym own ∙ none)) in
    let object : is_object d ≡ true = search rules in
    let expression : passes_at (codes "Of") is_string d ≡ true = search rules in
    let method : is_some (method_at (codes "With") d) ≡ true = search rules in
    let groups : has_groups_or_none d ≡ true = search rules in
    rw (object, expression, method, groups, custom) refl
