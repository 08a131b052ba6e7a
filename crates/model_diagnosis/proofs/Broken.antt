-- A file that has a fault breaks a rule.
use Rattle.std.proofs.Common.{◌≡◌, ℕ, zero, suc, Bool, true, false, not, cond, List, [], ◌∷◌, length, Some, None, refl, ◌∙◌, ap, subst, codes}
use Rattle.std.specs.Prelude.{◌&&◌, ◌||◌, Option, option_map, option_and_then, unwrap_or, slice_get, filter, IfSome}
use Rattle.std.specs.List.{list_all}
use Rattle.std.proofs.lemmas.Bool.{false≢true, not_from_true, and_from, false_from_ne_true, both_ways}
use Rattle.std.proofs.lemmas.List.Folds.{list_all-map}
use Rattle.serde_json.specs.Data.{Data, null}
use Rattle.edm_values.specs.Lists.{same_text, is_some_and, places, exactly_one}
use Rattle.edm_values.specs.Names.{is_name}
use Rattle.edm_values.proofs.SameTexts.{same_texts}
use Rattle.edm_values.proofs.EachLemmas.{and-left, and-right}
use Rattle.edm_values.proofs.OptionFacts.{some_and}
use Rattle.edm_values.proofs.ListFacts.{all-both}
use Rattle.edm_values.proofs.PlaceFacts.{all-place}
use Rattle.edm_schema.specs.JsonTrees.{Member, lacks, members_in, is_string}
use Rattle.edm_schema.specs.MemberLists.{qualified_members}
use Rattle.edm_schema.specs.ModelTrees.{is_model, is_type, type_members, type_tree, set_members, has_names, has_one_schema, has_one_container, has_one_set_each, has_one_key, has_known_members, has_simple_parts, has_property_type, has_scale_in_place, is_constrained, has_partner, is_navigable, is_hierarchy, is_definition, is_custom_name, is_entity_set, is_own, is_property, is_navigation, own_members, property_members, navigation_members, term_members, hierarchy_term, aggregate_term, definition_term, qualifier, type_place, leads_to, schema}
use Rattle.model_diagnosis.specs.declared.faults.Fault.{Fault}
use Rattle.model_diagnosis.specs.declared.faults.Fault.TheVariants as whole
use Rattle.model_diagnosis.specs.declared.faults.TypeFault.{TypeFault}
use Rattle.model_diagnosis.specs.declared.faults.TypeFault.TheVariants as part
use Rattle.model_diagnosis.specs.Faults.{SomeAt, some_at, has_simple_name, FailsReference, FailsCollection, passes_root, passes_containers, passes_property, passes_key, passes_reference, passes_collection, passes_hierarchy, passes_definition, passes_set, root_tests, containers_tests, property_tests, key_tests, reference_tests, collection_tests, hierarchy_tests, definition_tests, set_tests, failed_property, failed_reference, failed_collection, failed_hierarchy, failed_definition, failed_set, has_other, root_names, property_names, reference_names, collection_names, hierarchy_names, definition_names, set_names, is_schema_member, type_name, IsTypeFault, IsFault}
use Rattle.model_diagnosis.proofs.Tests.{and_fails, none_any, never_first, passes_among, passes_not_none, first_chosen, second_chosen}
use Rattle.model_diagnosis.proofs.Passes.{no_other, root_passes, containers_pass, property_passes, key_passes, reference_passes, collection_passes, hierarchy_passes, definition_passes, set_passes, not_other}

-- ---- members

-- no member of a name fails a rule that all members keep
none_at : (p : Member → Bool) (name : List ℕ) (has : Data → Bool) (ms : List Member) → list_all p ms ≡ true → ((m : Member) → p m ≡ true → m.0 ≡ name → has m.1 ≡ false) → some_at name has ms ≡ false
none_at p name has ms all h = none_any p (λ m. same_text m.0 name && has m.1) (λ m a. and_fails (same_text m.0 name) (has m.1) (λ e. h m a (same_texts m.0 name e))) ms all

-- of no member of a name this holds, where all members keep a rule that refutes it
none_some : (p : Member → Bool) (name : List ℕ) (Holds : Data → Type 0) (ms : List Member) → list_all p ms ≡ true → ((m : Member) → p m ≡ true → m.0 ≡ name → Holds m.1 → ⊥) → SomeAt name Holds ms → ⊥
none_some p name Holds ms all h at = h at.0 (passes_among p ms at.0 all at.1) at.2 at.3

-- the place that is there fails no test first, where it keeps a rule that refutes this
some_never : {T : Type 0} (p : ℕ → Bool) (failed : ℕ → Option T) (test : T) → ((k : ℕ) → p k ≡ true → failed k ≡ Some test → ⊥) → (o : Option ℕ) → is_some_and p o ≡ true → option_and_then failed o ≡ Some test → ⊥
some_never p failed test h None a first = absurd (false≢true a)
some_never p failed test h (Some k) a first = h k a first

-- what all members of a term pass, by their qualifiers
all_qualified : (p : Member → Bool) (term : List ℕ) (t : Data) → list_all (λ m. p (qualifier term m.0, m.1)) (term_members term t) ≡ true → list_all p (qualified_members term t) ≡ true
all_qualified p term t h = list_all-map p (λ (m : Member). (qualifier term m.0, m.1)) (term_members term t) ∙ h

-- the tree at any place passes what all trees and the empty one pass
tree_passes : (p : Data → Bool) (ms : List Member) (k : ℕ) → p null ≡ true → list_all (λ m. p m.1) ms ≡ true → p (unwrap_or (option_map (λ m. m.1) (slice_get ms k)) null) ≡ true
tree_passes p [] k e h = e
tree_passes p (m ∷ ms) zero e h = and-left (p m.1) (list_all (λ m. p m.1) ms) h
tree_passes p (m ∷ ms) (suc k) e h = tree_passes p ms k e (and-right (p m.1) (list_all (λ m. p m.1) ms) h)

-- each of the own members is a property or a navigation
known : (ms : List Member) → list_all (λ m. not (is_own m.0) || is_property m.1 || is_navigation m.1) ms ≡ true → list_all (λ m. is_property m.1 || is_navigation m.1) (filter (λ m. is_own m.0) ms) ≡ true
known [] h = refl
known (m ∷ ms) h =
    elim (is_own m.0) as (λ b. (not b || is_property m.1 || is_navigation m.1) ≡ true → list_all (λ m. is_property m.1 || is_navigation m.1) (cond b (m ∷ filter (λ m. is_own m.0) ms) (filter (λ m. is_own m.0) ms)) ≡ true) [
      | true ↦ λ a. and_from (is_property m.1 || is_navigation m.1) _ a (known ms (and-right _ _ h))
      | false ↦ λ a. known ms (and-right _ _ h)
    ] (and-left _ _ h)

-- ---- entity types

type_key : (d : Data) (k : ℕ) (t : Data) → is_type d k t ≡ true → has_one_key t ≡ true
type_key d k t h = and-left _ _ (and-left _ _ (and-left _ _ (and-left _ _ (and-left _ _ (and-left _ _ (and-left _ _ h))))))

type_known : (d : Data) (k : ℕ) (t : Data) → is_type d k t ≡ true → has_known_members t ≡ true
type_known d k t h = and-right _ _ (and-left _ _ (and-left _ _ (and-left _ _ (and-left _ _ (and-left _ _ (and-left _ _ h))))))

type_properties : (d : Data) (k : ℕ) (t : Data) → is_type d k t ≡ true → list_all (λ m. has_property_type m.1 && has_scale_in_place m.1) (property_members t) ≡ true
type_properties d k t h = all-both (λ (m : Member). has_property_type m.1) (λ m. has_scale_in_place m.1) (property_members t) (and-right _ _ (and-left _ _ (and-left _ _ (and-left _ _ (and-left _ _ (and-left _ _ h)))))) (and-right _ _ (and-left _ _ (and-left _ _ (and-left _ _ (and-left _ _ h)))))

type_navigations : (d : Data) (k : ℕ) (t : Data) → is_type d k t ≡ true → list_all (λ m. is_navigable d k t m.1) (navigation_members t) ≡ true
type_navigations d k t h = and-right _ _ (and-left _ _ (and-left _ _ (and-left _ _ h)))

type_hierarchies : (d : Data) (k : ℕ) (t : Data) → is_type d k t ≡ true → list_all (λ m. is_hierarchy d k t m.1) (qualified_members hierarchy_term t) ≡ true
type_hierarchies d k t h = all_qualified (λ m. is_hierarchy d k t m.1) hierarchy_term t (and-right _ _ (and-left _ _ (and-left _ _ h)))

type_aggregates : (d : Data) (k : ℕ) (t : Data) → is_type d k t ≡ true → list_all (λ m. is_string m.1) (qualified_members aggregate_term t) ≡ true
type_aggregates d k t h = all_qualified (λ m. is_string m.1) aggregate_term t (and-right _ _ (and-left _ _ h))

type_definitions : (d : Data) (k : ℕ) (t : Data) → is_type d k t ≡ true → list_all (λ m. is_definition m.1 && is_custom_name t m.0) (qualified_members definition_term t) ≡ true
type_definitions d k t h = all_qualified (λ m. is_definition m.1 && is_custom_name t m.0) definition_term t (and-right _ _ h)

single : (d : Data) (k : ℕ) (t n : Data) → is_navigable d k t n ≡ true → lacks (codes "$Collection") n ≡ true → is_some_and (λ p. is_constrained t (type_tree d p) n) (type_place d n) ≡ true
single d k t n = first_chosen (lacks (codes "$Collection") n) (λ p. is_constrained t (type_tree d p) n) (λ p. has_partner d k (type_tree d p) n) (type_place d n)

many : (d : Data) (k : ℕ) (t n : Data) → is_navigable d k t n ≡ true → not (lacks (codes "$Collection") n) ≡ true → is_some_and (λ p. has_partner d k (type_tree d p) n) (type_place d n) ≡ true
many d k t n = second_chosen (lacks (codes "$Collection") n) (λ p. is_constrained t (type_tree d p) n) (λ p. has_partner d k (type_tree d p) n) (type_place d n)

-- a type that keeps its rules has no fault
type_sound : (d : Data) (k : ℕ) (t : Data) → is_type d k t ≡ true → has_simple_parts t ≡ true → (f : TypeFault) → IsTypeFault d k t f → ⊥
type_sound d k t h s (part.Member name) = both_ways _ (none_at (λ m. is_property m.1 || is_navigation m.1) name.now (λ x. not (is_property x) && not (is_navigation x)) (own_members t) (known (members_in t) (type_known d k t h)) (λ m a e. not_other (is_property m.1) (is_navigation m.1) a))
type_sound d k t h s (part.Property name test) = none_some (λ m. has_property_type m.1 && has_scale_in_place m.1) name.now (λ p. failed_property p ≡ Some test) (property_members t) (type_properties d k t h) (λ m a e. never_first (λ x. passes_property x m.1) property_tests test (property_passes m.1 (and-left _ _ a) (and-right _ _ a)))
type_sound d k t h s (part.PropertyMember name other) = both_ways _ (none_at (λ m. has_property_type m.1 && has_scale_in_place m.1) name.now (λ p. has_other property_names p other.now) (property_members t) (type_properties d k t h) (λ m a e. no_other property_names m.1 other.now (and-right _ _ (and-left _ _ (and-left _ _ (and-left _ _ (and-left _ _ a)))))))
type_sound d k t h s (part.Key test) = never_first (λ x. passes_key x t) key_tests test (key_passes t (type_key d k t h))
type_sound d k t h s (part.Target name) = both_ways _ (none_at (λ m. is_navigable d k t m.1) name.now _ (navigation_members t) (type_navigations d k t h) (λ m a e. passes_not_none _ (type_place d m.1) a))
type_sound d k t h s (part.Reference name test) = none_some (λ m. is_navigable d k t m.1) name.now (FailsReference d t test) (navigation_members t) (type_navigations d k t h) (λ m a e fails.
    some_never (λ p. is_constrained t (type_tree d p) m.1) (λ p. failed_reference t (type_tree d p) m.1) test (λ p c. never_first (λ x. passes_reference x t (type_tree d p) m.1) reference_tests test (reference_passes t (type_tree d p) m.1 c)) (type_place d m.1) (single d k t m.1 a fails.0) fails.1)
type_sound d k t h s (part.ReferenceMember name other) = both_ways _ (none_at (λ m. is_navigable d k t m.1) name.now _ (navigation_members t) (type_navigations d k t h) (λ m a e. and_fails (lacks (codes "$Collection") m.1) _ (λ one.
    let c = some_and (λ p. is_constrained t (type_tree d p) m.1) (type_place d m.1) (single d k t m.1 a one) in
    no_other reference_names m.1 other.now (and-right _ _ (and-left _ _ (and-left _ _ c.2))))))
type_sound d k t h s (part.Collection name test) = none_some (λ m. is_navigable d k t m.1) name.now (FailsCollection d k test) (navigation_members t) (type_navigations d k t h) (λ m a e fails.
    some_never (λ p. has_partner d k (type_tree d p) m.1) (λ p. failed_collection d k (type_tree d p) m.1) test (λ p c. never_first (λ x. passes_collection x d k (type_tree d p) m.1) collection_tests test (collection_passes d k (type_tree d p) m.1 c)) (type_place d m.1) (many d k t m.1 a (ap not fails.0)) fails.1)
type_sound d k t h s (part.CollectionMember name other) = both_ways _ (none_at (λ m. is_navigable d k t m.1) name.now _ (navigation_members t) (type_navigations d k t h) (λ m a e. and_fails (not (lacks (codes "$Collection") m.1)) _ (λ some.
    let c = some_and (λ p. has_partner d k (type_tree d p) m.1) (type_place d m.1) (many d k t m.1 a some) in
    no_other collection_names m.1 other.now (and-right _ _ (and-left _ _ (and-left _ _ (and-left _ _ c.2)))))))
type_sound d k t h s (part.Hierarchy name test) = none_some (λ m. is_hierarchy d k t m.1) name.now (λ x. failed_hierarchy d k t x ≡ Some test) (qualified_members hierarchy_term t) (type_hierarchies d k t h) (λ m a e. never_first (λ x. passes_hierarchy x d k t m.1) hierarchy_tests test (hierarchy_passes d k t m.1 a))
type_sound d k t h s (part.HierarchyMember name other) = both_ways _ (none_at (λ m. is_hierarchy d k t m.1) name.now _ (qualified_members hierarchy_term t) (type_hierarchies d k t h) (λ m a e. no_other hierarchy_names m.1 other.now (and-right _ _ (and-left _ _ (and-left _ _ (and-left _ _ a))))))
type_sound d k t h s (part.Aggregate name) = both_ways _ (none_at (λ m. is_string m.1) name.now (λ a. not (is_string a)) (qualified_members aggregate_term t) (type_aggregates d k t h) (λ m a e. not_from_true _ a))
type_sound d k t h s (part.Definition name test) = none_some (λ m. is_definition m.1 && is_custom_name t m.0) name.now (λ c. failed_definition t name.now c ≡ Some test) (qualified_members definition_term t) (type_definitions d k t h) (λ m a e. never_first (λ x. passes_definition x t name.now m.1) definition_tests test (definition_passes t name.now m.1 (and-left _ _ a) (subst (λ n. is_custom_name t n ≡ true) e (and-right _ _ a))))
type_sound d k t h s (part.DefinitionMember name other) = both_ways _ (none_at (λ m. is_definition m.1 && is_custom_name t m.0) name.now _ (qualified_members definition_term t) (type_definitions d k t h) (λ m a e. no_other definition_names m.1 other.now (and-right _ _ (and-left _ _ (and-left _ _ (and-left _ _ (and-left _ _ a)))))))
type_sound d k t h s (part.Name name) = both_ways _ (none_at (λ m. has_simple_name m.0) name.now (λ x. not (has_simple_name name.now)) (members_in t) s (λ m a e. not_from_true _ (subst (λ n. has_simple_name n ≡ true) e a)))

-- ---- the file

in_root : (d : Data) → is_model d ≡ true → has_one_schema d ≡ true
in_root d h = and-left _ _ (and-left _ _ (and-left _ _ (and-left _ _ h)))

in_containers : (d : Data) → is_model d ≡ true → has_one_container d ≡ true
in_containers d h = and-right _ _ (and-left _ _ (and-left _ _ (and-left _ _ h)))

in_types : (d : Data) → is_model d ≡ true → list_all (λ k. is_type d k (type_tree d k)) (places (length (type_members d))) ≡ true
in_types d h = and-right _ _ (and-left _ _ (and-left _ _ h))

in_sets : (d : Data) → is_model d ≡ true → has_one_set_each d ≡ true
in_sets d h = and-right _ _ (and-left _ _ h)

in_names : (d : Data) → is_model d ≡ true → has_names d ≡ true
in_names d h = and-right _ _ h

-- a file that keeps every rule has no fault
pub sound : (d : Data) → is_model d ≡ true → (f : Fault) → IsFault d f → ⊥
sound d h (whole.Root test) = never_first (λ x. passes_root x d) root_tests test (root_passes d (in_root d h))
sound d h (whole.RootMember other) = λ other_at. both_ways _ (no_other (root_names d) d other.now (and-right _ _ (and-left _ _ (and-left _ _ (and-left _ _ (and-left _ _ (in_root d h))))))) other_at.1
sound d h (whole.SchemaMember name) = both_ways _ (none_any is_schema_member (λ m. same_text m.0 name.now && not (is_schema_member m)) (λ m a. and_fails (same_text m.0 name.now) _ (λ e. not_from_true _ a)) (members_in (schema d)) (and-left _ _ (in_containers d h)))
sound d h (whole.Containers test) = never_first (λ x. passes_containers x d) containers_tests test (containers_pass d (in_containers d h))
sound d h (whole.Type name fault) = λ fault_at. type_sound d fault_at.0 (type_tree d fault_at.0) (all-place (λ k. is_type d k (type_tree d k)) (length (type_members d)) fault_at.0 (in_types d h) fault_at.1) (tree_passes has_simple_parts (type_members d) fault_at.0 refl (and-right _ _ (in_names d h))) fault fault_at.3
sound d h (whole.Set name test) = none_some (λ m. is_entity_set d m.1) name.now (λ s. failed_set d s ≡ Some test) (set_members d) (and-left _ _ (in_sets d h)) (λ m a e. never_first (λ x. passes_set x d m.1) set_tests test (set_passes d m.1 a))
sound d h (whole.SetMember name other) = both_ways _ (none_at (λ m. is_entity_set d m.1) name.now _ (set_members d) (and-left _ _ (in_sets d h)) (λ m a e. no_other set_names m.1 other.now (and-right _ _ (and-left _ _ (and-left _ _ a)))))
sound d h (whole.SetCount name) = both_ways _ (none_any (λ k. exactly_one (λ m. leads_to d k m.1) (set_members d)) (λ k. same_text (type_name d k) name.now && not (exactly_one (λ m. leads_to d k m.1) (set_members d))) (λ k a. and_fails (same_text (type_name d k) name.now) _ (λ e. not_from_true _ a)) (places (length (type_members d))) (and-right _ _ (in_sets d h)))
sound d h (whole.TypeName name) = both_ways _ (none_at (λ m. is_name m.0) name.now (λ t. not (is_name name.now)) (type_members d) (and-left _ _ (and-left _ _ (in_names d h))) (λ m a e. not_from_true _ (subst (λ n. is_name n ≡ true) e a)))
sound d h (whole.SetName name) = both_ways _ (none_at (λ m. is_name m.0) name.now (λ s. not (is_name name.now)) (set_members d) (and-right _ _ (and-left _ _ (in_names d h))) (λ m a e. not_from_true _ (subst (λ n. is_name n ≡ true) e a)))

-- a file that has a fault breaks a rule
pub fault_breaks : (d : Data) (f : Fault) → IsFault d f → is_model d ≡ false
fault_breaks d f h = false_from_ne_true (is_model d) (λ m. sound d m f h)

-- so where a fault is found
pub found_breaks : (d : Data) (o : Option Fault) → IfSome o (λ f. IsFault d f) → IfSome o (λ f. is_model d ≡ false)
found_breaks d None h = h
found_breaks d (Some f) h = fault_breaks d f h
