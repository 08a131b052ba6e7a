-- A part that keeps its rules passes each of its tests.
use Rattle.std.proofs.Common.{◌≡◌, ℕ, Bool, true, false, not, List, [], ◌∷◌, Some, None, refl, subst, codes}
use Rattle.std.specs.Prelude.{◌&&◌, ◌||◌, Option, is_some, if◌then◌else◌}
use Rattle.std.specs.List.{list_all, list_any}
use Rattle.std.proofs.lemmas.Bool.{false≢true}
use Rattle.serde_json.specs.Data.{Data}
use Rattle.edm_values.specs.declared.EdmType.{EdmType}
use Rattle.edm_values.specs.Lists.{same_text, is_one_of, is_some_and}
use Rattle.edm_values.proofs.SameTexts.{same_texts}
use Rattle.edm_values.proofs.OptionFacts.{some_and-there}
use Rattle.edm_values.proofs.EachLemmas.{and-left, and-right}
use Rattle.edm_schema.specs.JsonTrees.{Member, is_text, lacks, members_in, text_at}
use Rattle.edm_schema.specs.ModelTrees.{is_unread, has_one_schema, has_one_container, has_one_key, has_property_type, has_scale_in_place, is_constrained, has_partner, is_hierarchy, is_definition, is_custom_name, is_entity_set, is_nullable, is_key_kind, kind_of, kind_name, kind_named, decimal_kind, is_decimal_property, scale_of, precision_of, property_kind, key_name, constraint, are_of_one_kind, property_members, navigation_members, named, leads_to}
use Rattle.model_diagnosis.specs.declared.faults.RootTest.{RootTest}
use Rattle.model_diagnosis.specs.declared.faults.ContainerTest.{ContainerTest}
use Rattle.model_diagnosis.specs.declared.faults.PropertyTest.{PropertyTest}
use Rattle.model_diagnosis.specs.declared.faults.KeyTest.{KeyTest}
use Rattle.model_diagnosis.specs.declared.faults.ReferenceTest.{ReferenceTest}
use Rattle.model_diagnosis.specs.declared.faults.CollectionTest.{CollectionTest}
use Rattle.model_diagnosis.specs.declared.faults.HierarchyTest.{HierarchyTest}
use Rattle.model_diagnosis.specs.declared.faults.DefinitionTest.{DefinitionTest}
use Rattle.model_diagnosis.specs.declared.faults.SetTest.{SetTest}
use Rattle.model_diagnosis.specs.Faults.{passes_root, passes_containers, passes_property, passes_key, passes_reference, passes_collection, passes_hierarchy, passes_definition, passes_set, has_other}
use Rattle.model_diagnosis.specs.Searched.{has_only}
use Rattle.model_diagnosis.proofs.Tests.{passes_first, passes_second, some_weaker}

-- ---- members that no rule names

pub not_other : (a b : Bool) → (a || b) ≡ true → (not a && not b) ≡ false
not_other true b h = refl
not_other false true h = refl
not_other false false h = absurd (false≢true h)

-- an object with only members of these names has no other
pub no_other : (names : List (List ℕ)) (d : Data) (name : List ℕ) → has_only names d ≡ true → has_other names d name ≡ false
no_other names d name h = among (members_in d) h
  where
    among : (ms : List Member) → list_all (λ m. is_unread m.0 || is_one_of names m.0) ms ≡ true → (list_any (λ m. same_text m.0 name) ms && not (is_unread name) && not (is_one_of names name)) ≡ false
    among [] a = refl
    among (m ∷ ms) a = elim (same_text m.0 name) as (λ b. same_text m.0 name ≡ b → ((b || list_any (λ m. same_text m.0 name) ms) && not (is_unread name) && not (is_one_of names name)) ≡ false) [
      | true ↦ λ e. not_other (is_unread name) (is_one_of names name) (subst (λ n. (is_unread n || is_one_of names n) ≡ true) (same_texts m.0 name e) (and-left _ _ a))
      | false ↦ λ e. among ms (and-right _ _ a)
    ] refl

-- ---- types of properties

-- a name that is of a type with one type of decimals is of a type with another
kind_other : (name : List ℕ) (o : Option EdmType) (k : EdmType) → is_some (kind_named name o) ≡ true → is_some (kind_named name (Some k)) ≡ true
kind_other name o k h = chosen (same_text name (codes "Edm.Int64")) (same_text name (codes "Edm.Decimal")) _ h
  where
    chosen : (a b : Bool) (rest : Option EdmType) → is_some (if a then Some EdmType.Int else (if b then o else rest)) ≡ true → is_some (if a then Some EdmType.Int else (if b then Some k else rest)) ≡ true
    chosen true b rest g = refl
    chosen false true rest g = refl
    chosen false false rest g = g

both_there : (s p : Option ℕ) → is_some (decimal_kind s p) ≡ true → (is_some s ≡ true) × (is_some p ≡ true)
both_there None p h = absurd (false≢true h)
both_there (Some s) None h = absurd (false≢true h)
both_there (Some s) (Some p) h = (refl, refl)

-- a decimal with a type has a scale and a precision
decimal_parts : (p : Data) → is_some (kind_of p) ≡ true → is_decimal_property p ≡ true → (is_some (scale_of p) ≡ true) × (is_some (precision_of p) ≡ true)
decimal_parts p h e = both_there (scale_of p) (precision_of p) (subst (λ n. is_some (kind_named n (decimal_kind (scale_of p) (precision_of p))) ≡ true) (same_texts (kind_name p) (codes "Edm.Decimal") e) h)

if_decimal : (a b : Bool) → (a ≡ true → b ≡ true) → (not a || b) ≡ true
if_decimal true b h = h refl
if_decimal false b h = refl

pub property_passes : (p : Data) → has_property_type p ≡ true → has_scale_in_place p ≡ true → (test : PropertyTest) → passes_property test p ≡ true
property_passes p h s PropertyTest.TypeText = and-right _ _ (and-left _ _ (and-left _ _ h))
property_passes p h s PropertyTest.NullableFlag = and-right _ _ (and-left _ _ h)
property_passes p h s PropertyTest.TypeName = kind_other (kind_name p) (decimal_kind (scale_of p) (precision_of p)) (EdmType.Dec 0 18) (and-right _ _ h)
property_passes p h s PropertyTest.Scale = if_decimal (is_decimal_property p) _ (λ e. (decimal_parts p (and-right _ _ h) e).0)
property_passes p h s PropertyTest.Precision = if_decimal (is_decimal_property p) _ (λ e. (decimal_parts p (and-right _ _ h) e).1)
property_passes p h s PropertyTest.ScaleInPrecision = and-right _ _ h
property_passes p h s PropertyTest.ScaleInPlace = s

-- ---- the other parts

pub root_passes : (d : Data) → has_one_schema d ≡ true → (test : RootTest) → passes_root test d ≡ true
root_passes d h RootTest.Object = and-left _ _ (and-left _ _ (and-left _ _ (and-left _ _ (and-left _ _ h))))
root_passes d h RootTest.Version = and-right _ _ (and-left _ _ (and-left _ _ (and-left _ _ h)))
root_passes d h RootTest.ContainerPath = and-right _ _ (and-left _ _ (and-left _ _ h))
root_passes d h RootTest.Namespace = and-right _ _ (and-left _ _ h)
root_passes d h RootTest.Schema = and-right _ _ h

pub containers_pass : (d : Data) → has_one_container d ≡ true → (test : ContainerTest) → passes_containers test d ≡ true
containers_pass d h ContainerTest.One = some_and-there _ _ (and-right _ _ h)
containers_pass d h ContainerTest.Name = and-right _ _ h

pub key_passes : (t : Data) → has_one_key t ≡ true → (test : KeyTest) → passes_key test t ≡ true
key_passes t h KeyTest.Text = and-left _ _ h
key_passes t h KeyTest.Property = some_and-there _ _ (and-right _ _ h)
key_passes t h KeyTest.Null = passes_first (λ p. not (is_nullable p)) (λ p. is_some_and is_key_kind (kind_of p)) (named (property_members t) (key_name t)) (and-right _ _ h)
key_passes t h KeyTest.Type = passes_second (λ p. not (is_nullable p)) (λ p. is_some_and is_key_kind (kind_of p)) (named (property_members t) (key_name t)) (and-right _ _ h)

abbrev to_key : Data → Member → Bool
to_key target c = is_text (key_name target) c.1

abbrev of_one_kind : Data → Data → Member → Bool
of_one_kind t target c = are_of_one_kind (property_kind t c.0) (property_kind target (key_name target))

pub reference_passes : (t target n : Data) → is_constrained t target n ≡ true → (test : ReferenceTest) → passes_reference test t target n ≡ true
reference_passes t target n h ReferenceTest.Constraint = and-right _ _ (and-left _ _ h)
reference_passes t target n h ReferenceTest.One = some_and-there _ _ (and-right _ _ h)
reference_passes t target n h ReferenceTest.Property = some_weaker (of_one_kind t target) (λ (c : Member). is_some (property_kind t c.0)) (λ c a. some_and-there _ _ a) (constraint n) (passes_second (to_key target) (of_one_kind t target) (constraint n) (and-right _ _ h))
reference_passes t target n h ReferenceTest.Key = passes_first (to_key target) (of_one_kind t target) (constraint n) (and-right _ _ h)
reference_passes t target n h ReferenceTest.Kind = passes_second (to_key target) (of_one_kind t target) (constraint n) (and-right _ _ h)

pub collection_passes : (d : Data) (k : ℕ) (target n : Data) → has_partner d k target n ≡ true → (test : CollectionTest) → passes_collection test d k target n ≡ true
collection_passes d k target n h CollectionTest.Flag = and-right _ _ (and-left _ _ (and-left _ _ h))
collection_passes d k target n h CollectionTest.PartnerText = and-right _ _ (and-left _ _ h)
collection_passes d k target n h CollectionTest.Partner = passes_first (lacks (codes "$Collection")) (leads_to d k) (named (navigation_members target) (text_at (codes "$Partner") n)) (and-right _ _ h)
collection_passes d k target n h CollectionTest.Back = and-right _ _ h

pub hierarchy_passes : (d : Data) (k : ℕ) (t x : Data) → is_hierarchy d k t x ≡ true → (test : HierarchyTest) → passes_hierarchy test d k t x ≡ true
hierarchy_passes d k t x h HierarchyTest.Object = and-left _ _ (and-left _ _ (and-left _ _ (and-left _ _ h)))
hierarchy_passes d k t x h HierarchyTest.Node = and-right _ _ (and-left _ _ (and-left _ _ h))
hierarchy_passes d k t x h HierarchyTest.ParentText = and-right _ _ (and-left _ _ h)
hierarchy_passes d k t x h HierarchyTest.Parent = and-right _ _ h

pub definition_passes : (t : Data) (name : List ℕ) (c : Data) → is_definition c ≡ true → is_custom_name t name ≡ true → (test : DefinitionTest) → passes_definition test t name c ≡ true
definition_passes t name c h n DefinitionTest.Object = and-left _ _ (and-left _ _ (and-left _ _ (and-left _ _ h)))
definition_passes t name c h n DefinitionTest.Expression = and-right _ _ (and-left _ _ (and-left _ _ h))
definition_passes t name c h n DefinitionTest.Method = and-right _ _ (and-left _ _ h)
definition_passes t name c h n DefinitionTest.Groups = and-right _ _ h
definition_passes t name c h n DefinitionTest.Aggregate = and-left _ _ n
definition_passes t name c h n DefinitionTest.Free = and-right _ _ n

pub set_passes : (d s : Data) → is_entity_set d s ≡ true → (test : SetTest) → passes_set test d s ≡ true
set_passes d s h SetTest.Object = and-left _ _ (and-left _ _ (and-left _ _ h))
set_passes d s h SetTest.Flag = and-right _ _ (and-left _ _ h)
set_passes d s h SetTest.Type = and-right _ _ h
