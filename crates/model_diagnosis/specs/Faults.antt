-- What is at fault in a model file that breaks a rule (CSDL JSON 4.01): a part of the file, and the test that it fails. Each rule of `ModelTrees` is the tests that are listed here for its parts.
use Rattle.std.specs.Prelude.{◌≡◌, ℕ, ◌<◌, ◌||◌, ◌&&◌, Bool, true, false, not, List, [], ◌∷◌, length, codes, Option, None, Some, option_map, option_and_then, unwrap_or, slice_get, find, is_none, is_some, if◌then◌else◌}
use Rattle.std.specs.List.{Contains, list_any, list_all, after_last, slice_split}
use Rattle.serde_json.specs.Data.{Data}
use Rattle.edm_values.specs.Lists.{same_text, is_one_of, exactly_one, is_some_and, places}
use Rattle.edm_values.specs.declared.EdmType.{EdmType}
use Rattle.edm_values.specs.Literals.{is_point}
use Rattle.edm_values.specs.Names.{is_name}
use Rattle.edm_schema.specs.JsonTrees.{Member, only, members_in, is_object, is_string, is_boolean, is_true, is_text, only_string, passes_at, passes_if_at, lacks, text_at}
use Rattle.edm_schema.specs.MemberLists.{qualified_members}
use Rattle.edm_schema.specs.ModelTrees.{own_members, is_unread, container_path, namespace, schema, is_object_of_kind, type_members, container_members, set_members, is_property, is_navigation, is_own, property_members, navigation_members, hierarchy_term, aggregate_term, definition_term, qualifier, named, kind_name, kind_named, kind_of, is_decimal_property, scale_of, precision_of, is_nullable, property_kind, key_name, is_key_kind, type_place, type_tree, leads_to, constraint, is_reference_to, has_scale_in_place, are_of_one_kind, method_at, has_groups_or_none, is_of_term, is_simply_qualified}
use Rattle.model_diagnosis.specs.declared.faults.Fault.{Fault}
use Rattle.model_diagnosis.specs.declared.faults.Fault.TheVariants as whole
use Rattle.model_diagnosis.specs.declared.faults.TypeFault.{TypeFault}
use Rattle.model_diagnosis.specs.declared.faults.TypeFault.TheVariants as part
use Rattle.model_diagnosis.specs.declared.faults.RootTest.{RootTest}
use Rattle.model_diagnosis.specs.declared.faults.ContainerTest.{ContainerTest}
use Rattle.model_diagnosis.specs.declared.faults.PropertyTest.{PropertyTest}
use Rattle.model_diagnosis.specs.declared.faults.KeyTest.{KeyTest}
use Rattle.model_diagnosis.specs.declared.faults.ReferenceTest.{ReferenceTest}
use Rattle.model_diagnosis.specs.declared.faults.CollectionTest.{CollectionTest}
use Rattle.model_diagnosis.specs.declared.faults.HierarchyTest.{HierarchyTest}
use Rattle.model_diagnosis.specs.declared.faults.DefinitionTest.{DefinitionTest}
use Rattle.model_diagnosis.specs.declared.faults.SetTest.{SetTest}

-- ---- the tests of a part

-- the first of these tests that fails
abbrev pub first_failed : {T : Type 0} → (T → Bool) → List T → Option T
first_failed passes tests = find (λ test. not (passes test)) tests

-- the object has a member of this name, which is read and has none of these names
abbrev pub has_other : List (List ℕ) → Data → List ℕ → Bool
has_other names d name = list_any (λ m. same_text m.0 name) (members_in d) && not (is_unread name) && not (is_one_of names name)

-- the root
abbrev pub passes_root : RootTest → Data → Bool
passes_root RootTest.Object d = is_object d
passes_root RootTest.Version d = passes_at (codes "$Version") is_string d
passes_root RootTest.ContainerPath d = passes_at (codes "$EntityContainer") is_string d
passes_root RootTest.Namespace d = list_all is_name (slice_split is_point (namespace d))
passes_root RootTest.Schema d = passes_at (namespace d) is_object d

-- the tests of the root, in their order
abbrev pub root_tests : List RootTest
root_tests = RootTest.Object ∷ RootTest.Version ∷ RootTest.ContainerPath ∷ RootTest.Namespace ∷ RootTest.Schema ∷ []

-- the first test that the root fails
abbrev pub failed_root : Data → Option RootTest
failed_root d = first_failed (λ test. passes_root test d) root_tests

-- the names of the members that the root may have
abbrev pub root_names : Data → List (List ℕ)
root_names d = codes "$Version" ∷ codes "$EntityContainer" ∷ namespace d ∷ []

-- a member of the schema
abbrev pub is_schema_member : Member → Bool
is_schema_member m = is_unread m.0 || is_object_of_kind (codes "EntityType") m.1 || is_object_of_kind (codes "EntityContainer") m.1

-- the containers of the schema
abbrev pub passes_containers : ContainerTest → Data → Bool
passes_containers ContainerTest.One d = is_some (only (container_members d))
passes_containers ContainerTest.Name d = is_some_and (λ m. same_text m.0 (after_last is_point (container_path d))) (only (container_members d))

-- the tests of the containers, in their order
abbrev pub containers_tests : List ContainerTest
containers_tests = ContainerTest.One ∷ ContainerTest.Name ∷ []

-- the first test that the containers of the schema fail
abbrev pub failed_containers : Data → Option ContainerTest
failed_containers d = first_failed (λ test. passes_containers test d) containers_tests

-- a property
abbrev pub passes_property : PropertyTest → Data → Bool
passes_property PropertyTest.TypeText p = passes_if_at (codes "$Type") is_string p
passes_property PropertyTest.NullableFlag p = passes_if_at (codes "$Nullable") is_boolean p
passes_property PropertyTest.TypeName p = is_some (kind_named (kind_name p) (Some (EdmType.Dec 0 18)))
passes_property PropertyTest.Scale p = not (is_decimal_property p) || is_some (scale_of p)
passes_property PropertyTest.Precision p = not (is_decimal_property p) || is_some (precision_of p)
passes_property PropertyTest.ScaleInPrecision p = is_some (kind_of p)
passes_property PropertyTest.ScaleInPlace p = has_scale_in_place p

-- the tests of a property, in their order
abbrev pub property_tests : List PropertyTest
property_tests = PropertyTest.TypeText ∷ PropertyTest.NullableFlag ∷ PropertyTest.TypeName ∷ PropertyTest.Scale ∷ PropertyTest.Precision ∷ PropertyTest.ScaleInPrecision ∷ PropertyTest.ScaleInPlace ∷ []

-- the first test that a property fails
abbrev pub failed_property : Data → Option PropertyTest
failed_property p = first_failed (λ test. passes_property test p) property_tests

-- the names of the members that a property may have
abbrev pub property_names : List (List ℕ)
property_names = codes "$Kind" ∷ codes "$Type" ∷ codes "$Nullable" ∷ codes "$Scale" ∷ codes "$Precision" ∷ []

-- the key of a type
abbrev pub passes_key : KeyTest → Data → Bool
passes_key KeyTest.Text t = passes_at (codes "$Key") (λ k. is_some (only_string k)) t
passes_key KeyTest.Property t = is_some (named (property_members t) (key_name t))
passes_key KeyTest.Null t = is_some_and (λ p. not (is_nullable p)) (named (property_members t) (key_name t))
passes_key KeyTest.Type t = is_some_and (λ p. is_some_and is_key_kind (kind_of p)) (named (property_members t) (key_name t))

-- the tests of a key, in their order
abbrev pub key_tests : List KeyTest
key_tests = KeyTest.Text ∷ KeyTest.Property ∷ KeyTest.Null ∷ KeyTest.Type ∷ []

-- the first test that the key of a type fails
abbrev pub failed_key : Data → Option KeyTest
failed_key t = first_failed (λ test. passes_key test t) key_tests

-- a single-valued navigation of a type to a target
abbrev pub passes_reference : ReferenceTest → Data → Data → Data → Bool
passes_reference ReferenceTest.Constraint t target n = passes_at (codes "$ReferentialConstraint") is_object n
passes_reference ReferenceTest.One t target n = is_some (constraint n)
passes_reference ReferenceTest.Property t target n = is_some_and (λ c. is_some (property_kind t c.0)) (constraint n)
passes_reference ReferenceTest.Key t target n = is_some_and (λ c. is_text (key_name target) c.1) (constraint n)
passes_reference ReferenceTest.Kind t target n = is_some_and (λ c. are_of_one_kind (property_kind t c.0) (property_kind target (key_name target))) (constraint n)

-- the tests of a single-valued navigation, in their order
abbrev pub reference_tests : List ReferenceTest
reference_tests = ReferenceTest.Constraint ∷ ReferenceTest.One ∷ ReferenceTest.Property ∷ ReferenceTest.Key ∷ ReferenceTest.Kind ∷ []

-- the first test that a single-valued navigation to a target fails
abbrev pub failed_reference : Data → Data → Data → Option ReferenceTest
failed_reference t target n = first_failed (λ test. passes_reference test t target n) reference_tests

-- the names of the members that a single-valued navigation may have
abbrev pub reference_names : List (List ℕ)
reference_names = codes "$Kind" ∷ codes "$Type" ∷ codes "$Nullable" ∷ codes "$Partner" ∷ codes "$ReferentialConstraint" ∷ []

-- a collection-valued navigation of the type at this place to a target
abbrev pub passes_collection : CollectionTest → Data → ℕ → Data → Data → Bool
passes_collection CollectionTest.Flag d k target n = passes_at (codes "$Collection") is_true n
passes_collection CollectionTest.PartnerText d k target n = passes_at (codes "$Partner") is_string n
passes_collection CollectionTest.Partner d k target n = is_some_and (lacks (codes "$Collection")) (named (navigation_members target) (text_at (codes "$Partner") n))
passes_collection CollectionTest.Back d k target n = is_reference_to d k target (text_at (codes "$Partner") n)

-- the tests of a collection-valued navigation, in their order
abbrev pub collection_tests : List CollectionTest
collection_tests = CollectionTest.Flag ∷ CollectionTest.PartnerText ∷ CollectionTest.Partner ∷ CollectionTest.Back ∷ []

-- the first test that a collection-valued navigation to a target fails
abbrev pub failed_collection : Data → ℕ → Data → Data → Option CollectionTest
failed_collection d k target n = first_failed (λ test. passes_collection test d k target n) collection_tests

-- the names of the members that a collection-valued navigation may have
abbrev pub collection_names : List (List ℕ)
collection_names = codes "$Kind" ∷ codes "$Type" ∷ codes "$Nullable" ∷ codes "$Collection" ∷ codes "$Partner" ∷ []

-- the names of the members that this navigation may have
abbrev pub navigation_names : Data → List (List ℕ)
navigation_names n = if lacks (codes "$Collection") n then reference_names else collection_names

-- a hierarchy of the type at this place
abbrev pub passes_hierarchy : HierarchyTest → Data → ℕ → Data → Data → Bool
passes_hierarchy HierarchyTest.Object d k t h = is_object h
passes_hierarchy HierarchyTest.Node d k t h = passes_at (codes "NodeProperty") (is_text (key_name t)) h
passes_hierarchy HierarchyTest.ParentText d k t h = passes_at (codes "ParentNavigationProperty") is_string h
passes_hierarchy HierarchyTest.Parent d k t h = is_reference_to d k t (text_at (codes "ParentNavigationProperty") h)

-- the tests of a hierarchy, in their order
abbrev pub hierarchy_tests : List HierarchyTest
hierarchy_tests = HierarchyTest.Object ∷ HierarchyTest.Node ∷ HierarchyTest.ParentText ∷ HierarchyTest.Parent ∷ []

-- the first test that a hierarchy fails
abbrev pub failed_hierarchy : Data → ℕ → Data → Data → Option HierarchyTest
failed_hierarchy d k t h = first_failed (λ test. passes_hierarchy test d k t h) hierarchy_tests

-- the names of the members that a hierarchy may have
abbrev pub hierarchy_names : List (List ℕ)
hierarchy_names = codes "NodeProperty" ∷ codes "ParentNavigationProperty" ∷ []

-- the definition of a custom aggregate of this name in a type
abbrev pub passes_definition : DefinitionTest → Data → List ℕ → Data → Bool
passes_definition DefinitionTest.Object t name c = is_object c
passes_definition DefinitionTest.Expression t name c = passes_at (codes "Of") is_string c
passes_definition DefinitionTest.Method t name c = is_some (method_at (codes "With") c)
passes_definition DefinitionTest.Groups t name c = has_groups_or_none c
passes_definition DefinitionTest.Aggregate t name c = list_any (λ m. is_of_term aggregate_term m.0 && same_text (qualifier aggregate_term m.0) name) (members_in t)
passes_definition DefinitionTest.Free t name c = not (list_any (λ m. is_own m.0 && same_text m.0 name) (members_in t))

-- the tests of a definition, in their order
abbrev pub definition_tests : List DefinitionTest
definition_tests = DefinitionTest.Object ∷ DefinitionTest.Expression ∷ DefinitionTest.Method ∷ DefinitionTest.Groups ∷ DefinitionTest.Aggregate ∷ DefinitionTest.Free ∷ []

-- the first test that a definition fails
abbrev pub failed_definition : Data → List ℕ → Data → Option DefinitionTest
failed_definition t name c = first_failed (λ test. passes_definition test t name c) definition_tests

-- the names of the members that a definition may have
abbrev pub definition_names : List (List ℕ)
definition_names = codes "Of" ∷ codes "With" ∷ codes "Per" ∷ codes "Then" ∷ []

-- an entity set
abbrev pub passes_set : SetTest → Data → Data → Bool
passes_set SetTest.Object d s = is_object s
passes_set SetTest.Flag d s = passes_at (codes "$Collection") is_true s
passes_set SetTest.Type d s = is_some (type_place d s)

-- the tests of an entity set, in their order
abbrev pub set_tests : List SetTest
set_tests = SetTest.Object ∷ SetTest.Flag ∷ SetTest.Type ∷ []

-- the first test that an entity set fails
abbrev pub failed_set : Data → Data → Option SetTest
failed_set d s = first_failed (λ test. passes_set test d s) set_tests

-- the names of the members that a set may have
abbrev pub set_names : List (List ℕ)
set_names = codes "$Collection" ∷ codes "$Type" ∷ []

-- a member of a type is a simple identifier or has one as its qualifier
abbrev pub has_simple_name : List ℕ → Bool
has_simple_name name = (not (is_own name) || is_name name) && is_simply_qualified hierarchy_term name && is_simply_qualified aggregate_term name && is_simply_qualified definition_term name

-- ---- what is at fault

-- some member of this name has the fault
abbrev pub some_at : List ℕ → (Data → Bool) → List Member → Bool
some_at name has ms = list_any (λ m. same_text m.0 name && has m.1) ms

-- of some member of this name this holds
abbrev pub SomeAt : List ℕ → (Data → Type 0) → List Member → Type 0
SomeAt name Holds ms = (m : Member) × Contains ms m × (m.0 ≡ name) × Holds m.1

-- the single-valued navigation leads to a type of the schema, and this is the first test that it fails
abbrev pub FailsReference : Data → Data → ReferenceTest → Data → Type 0
FailsReference d t test n = (lacks (codes "$Collection") n ≡ true) × (option_and_then (λ p. failed_reference t (type_tree d p) n) (type_place d n) ≡ Some test)

-- the collection-valued navigation leads to a type of the schema, and this is the first test that it fails
abbrev pub FailsCollection : Data → ℕ → CollectionTest → Data → Type 0
FailsCollection d k test n = (lacks (codes "$Collection") n ≡ false) × (option_and_then (λ p. failed_collection d k (type_tree d p) n) (type_place d n) ≡ Some test)

-- a part of the entity type at this place is at fault; where it fails a test, it passes those that stand before it
abbrev pub IsTypeFault : Data → ℕ → Data → TypeFault → Type 0
IsTypeFault d k t (part.Member name) = some_at name.now (λ x. not (is_property x) && not (is_navigation x)) (own_members t) ≡ true
IsTypeFault d k t (part.Property name test) = SomeAt name.now (λ p. failed_property p ≡ Some test) (property_members t)
IsTypeFault d k t (part.PropertyMember name other) = some_at name.now (λ p. has_other property_names p other.now) (property_members t) ≡ true
IsTypeFault d k t (part.Key test) = failed_key t ≡ Some test
IsTypeFault d k t (part.Target name) = some_at name.now (λ n. is_none (type_place d n)) (navigation_members t) ≡ true
IsTypeFault d k t (part.Reference name test) = SomeAt name.now (FailsReference d t test) (navigation_members t)
IsTypeFault d k t (part.ReferenceMember name other) = some_at name.now (λ n. lacks (codes "$Collection") n && has_other reference_names n other.now) (navigation_members t) ≡ true
IsTypeFault d k t (part.Collection name test) = SomeAt name.now (FailsCollection d k test) (navigation_members t)
IsTypeFault d k t (part.CollectionMember name other) = some_at name.now (λ n. not (lacks (codes "$Collection") n) && has_other collection_names n other.now) (navigation_members t) ≡ true
IsTypeFault d k t (part.Hierarchy name test) = SomeAt name.now (λ h. failed_hierarchy d k t h ≡ Some test) (qualified_members hierarchy_term t)
IsTypeFault d k t (part.HierarchyMember name other) = some_at name.now (λ h. has_other hierarchy_names h other.now) (qualified_members hierarchy_term t) ≡ true
IsTypeFault d k t (part.Aggregate name) = some_at name.now (λ a. not (is_string a)) (qualified_members aggregate_term t) ≡ true
IsTypeFault d k t (part.Definition name test) = SomeAt name.now (λ c. failed_definition t name.now c ≡ Some test) (qualified_members definition_term t)
IsTypeFault d k t (part.DefinitionMember name other) = some_at name.now (λ c. has_other definition_names c other.now) (qualified_members definition_term t) ≡ true
IsTypeFault d k t (part.Name name) = some_at name.now (λ x. not (has_simple_name name.now)) (members_in t) ≡ true

-- the name of the type at this place
abbrev pub type_name : Data → ℕ → List ℕ
type_name d k = unwrap_or (option_map (λ m. m.0) (slice_get (type_members d) k)) []

-- a part of the file is at fault; where it fails a test, it passes those that stand before it
abbrev pub IsFault : Data → Fault → Type 0
IsFault d (whole.Root test) = failed_root d ≡ Some test
IsFault d (whole.RootMember other) = (failed_root d ≡ None) × (has_other (root_names d) d other.now ≡ true)
IsFault d (whole.SchemaMember name) = list_any (λ m. same_text m.0 name.now && not (is_schema_member m)) (members_in (schema d)) ≡ true
IsFault d (whole.Containers test) = failed_containers d ≡ Some test
IsFault d (whole.Type name fault) = (k : ℕ) × (k < length (type_members d)) × (type_name d k ≡ name.now) × IsTypeFault d k (type_tree d k) fault
IsFault d (whole.Set name test) = SomeAt name.now (λ s. failed_set d s ≡ Some test) (set_members d)
IsFault d (whole.SetMember name other) = some_at name.now (λ s. has_other set_names s other.now) (set_members d) ≡ true
IsFault d (whole.SetCount name) = list_any (λ k. same_text (type_name d k) name.now && not (exactly_one (λ m. leads_to d k m.1) (set_members d))) (places (length (type_members d))) ≡ true
IsFault d (whole.TypeName name) = some_at name.now (λ t. not (is_name name.now)) (type_members d) ≡ true
IsFault d (whole.SetName name) = some_at name.now (λ s. not (is_name name.now)) (set_members d) ≡ true
