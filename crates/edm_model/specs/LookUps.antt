-- The parts of a model, by their places and by their names (CSDL JSON 4.01).
use Rattle.std.specs.Prelude.{ℕ, ◌<◌, ◌==◌, length, List, [], ◌∷◌, Option, Some, None, map, find, filter_map, flat_map, position, slice_get, option_and_then, option_map, unwrap_or, if◌then◌else◌}
use Rattle.std.specs.List.{enumerate_from}
use Rattle.edm_values.specs.Lists.{places, same_text}
use Rattle.edm_values.specs.Names.{Name, Path}
use Rattle.edm_model.specs.Models.{Property, Navigation, Hierarchy, Custom, EntityType, Model, Part}

-- ---- by their places

-- the entity type at this place
abbrev pub type_at : Model → ℕ → Option EntityType
type_at m t = slice_get m.types t

-- a list of the type at this place among these types
abbrev pub list_at : {X : Type 0} → (EntityType → List X) → List EntityType → ℕ → List X
list_at items ts t = unwrap_or (option_map items (slice_get ts t)) []

-- a list of the type at this place
abbrev pub of_type_at : {X : Type 0} → (EntityType → List X) → Model → ℕ → List X
of_type_at items m t = list_at items m.types t

-- the properties of the type at this place
abbrev pub properties_of : Model → ℕ → List Property
properties_of = of_type_at (λ e. e.properties)

-- the navigations of the type at this place
abbrev pub navigations_of : Model → ℕ → List Navigation
navigations_of = of_type_at (λ e. e.navigations)

-- the hierarchies of the type at this place
abbrev pub hierarchies_of_type : Model → ℕ → List Hierarchy
hierarchies_of_type = of_type_at (λ e. e.hierarchies)

-- the custom aggregates of the type at this place
abbrev pub customs_of_type : Model → ℕ → List Custom
customs_of_type = of_type_at (λ e. e.customs)

-- this property
abbrev pub property_at : Model → Part → Option Property
property_at m p = slice_get (properties_of m p.of) p.at

-- this navigation
abbrev pub navigation_on : Model → Part → Option Navigation
navigation_on m n = slice_get (navigations_of m n.of) n.at

-- this hierarchy
abbrev pub hierarchy_on : Model → Part → Option Hierarchy
hierarchy_on m h = slice_get (hierarchies_of_type m h.of) h.at

-- this custom aggregate
abbrev pub custom_on : Model → Part → Option Custom
custom_on m c = slice_get (customs_of_type m c.of) c.at

-- the key of the type at this place
abbrev pub key_of : Model → ℕ → Part
key_of m t = record { of = t; at = unwrap_or (option_map (λ e. e.key) (type_at m t)) 0 }

-- the property that refers to the target's key, of a single-valued navigation
abbrev pub dependent_of : Part → Navigation → Part
dependent_of n v = record { of = n.of; at = v.dependent }

-- the navigation that leads back, of a collection-valued navigation
abbrev pub partner_of : Navigation → Part
partner_of v = record { of = v.target; at = v.partner }

-- the navigation from a node of a hierarchy to its parent
abbrev pub parent_of : Part → Hierarchy → Part
parent_of h q = record { of = h.of; at = q.parent }

-- the parts of a type whose list has so many elements
abbrev pub parts : ℕ → ℕ → List Part
parts t n = map (λ k. record { of = t; at = k }) (places n)

-- ---- which places there are

-- there is a set at this place
abbrev pub IsSet : Model → ℕ → Type 0
IsSet m s = s < length m.sets

-- there is a type at this place
abbrev pub IsType : Model → ℕ → Type 0
IsType m t = t < length m.types

-- there is this property
abbrev pub IsProperty : Model → Part → Type 0
IsProperty m p = IsType m p.of × (p.at < length (properties_of m p.of))

-- there is this navigation
abbrev pub IsNavigation : Model → Part → Type 0
IsNavigation m n = IsType m n.of × (n.at < length (navigations_of m n.of))

-- there is this hierarchy
abbrev pub IsHierarchy : Model → Part → Type 0
IsHierarchy m h = IsType m h.of × (h.at < length (hierarchies_of_type m h.of))

-- there is this custom aggregate
abbrev pub IsCustom : Model → Part → Type 0
IsCustom m c = IsType m c.of × (c.at < length (customs_of_type m c.of))

-- ---- sets and their types

-- the place of a set's type
abbrev pub set_type : Model → ℕ → ℕ
set_type m s = unwrap_or (option_map (λ es. es.of) (slice_get m.sets s)) 0

-- the type of a set
abbrev pub type_of_set : Model → ℕ → Option EntityType
type_of_set m s = option_and_then (λ es. type_at m es.of) (slice_get m.sets s)

-- the set of a type
abbrev pub set_of_type : Model → ℕ → ℕ
set_of_type m t = unwrap_or (position (λ s. s.of == t) m.sets) 0

-- a navigation of a set's type
abbrev pub navigation_at : Model → ℕ → ℕ → Option Navigation
navigation_at m s n = option_and_then (λ t. slice_get t.navigations n) (type_of_set m s)

-- the place of the key among the properties of a set's type
abbrev pub key_at : Model → ℕ → ℕ
key_at m s = unwrap_or (option_map (λ t. t.key) (type_of_set m s)) 0

-- the name of the set at this place
abbrev pub set_name : Model → ℕ → Name
set_name m s = unwrap_or (option_map (λ es. es.name) (slice_get m.sets s)) []

-- the name of the type at this place
abbrev pub type_name : Model → ℕ → Name
type_name m t = unwrap_or (option_map (λ e. e.name) (type_at m t)) []

-- ---- by their names

-- the place of the set of this name
abbrev pub set_named : Model → Name → Option ℕ
set_named m name = position (λ s. same_text s.name name) m.sets

-- the first item of this name, with its place
abbrev pub item_named : {X : Type 0} → (X → Name) → Name → List X → Option (ℕ × X)
item_named name n xs = find (λ x. same_text (name x.1) n) (enumerate_from 0 xs)

-- the properties, navigations, hierarchies or custom aggregates of a type, by name
abbrev pub of_type : {X : Type 0} → (EntityType → List X) → (X → Name) → Model → ℕ → Name → Option (ℕ × X)
of_type items name m t n = option_and_then (λ e. item_named name n (items e)) (type_at m t)

-- a property of a type by name, with its place
abbrev pub property_named : Model → ℕ → Name → Option (ℕ × Property)
property_named = of_type (λ e. e.properties) (λ p. p.name)

-- a navigation of a type by name, with its place
abbrev pub navigation_named : Model → ℕ → Name → Option (ℕ × Navigation)
navigation_named = of_type (λ e. e.navigations) (λ n. n.name)

-- a custom aggregate of a type by name, with its place
abbrev pub custom_named : Model → ℕ → Name → Option (ℕ × Custom)
custom_named = of_type (λ e. e.customs) (λ c. c.name)

-- a hierarchy of a type by qualifier, with its place
abbrev pub hierarchy_of_type_named : Model → ℕ → Name → Option (ℕ × Hierarchy)
hierarchy_of_type_named = of_type (λ e. e.hierarchies) (λ h. h.qualifier)

-- the part at the place that was found
abbrev pub found_part : {X : Type 0} → ℕ → Option (ℕ × X) → Option Part
found_part t found = option_map (λ x. record { of = t; at = x.0 }) found

-- the navigation of this name, if it is single-valued
abbrev pub one_named : Model → ℕ → Name → Option Navigation
one_named m t n = option_and_then (λ x. if (x.1).many then None else Some x.1) (navigation_named m t n)

-- the navigation of this name, if it is collection-valued
abbrev pub many_named : Model → ℕ → Name → Option Navigation
many_named m t n = option_and_then (λ x. if (x.1).many then Some x.1 else None) (navigation_named m t n)

-- the property that a path of single-valued navigations leads to from a type (URL Conventions 4.01, section 5.1.1.15)
abbrev pub property_on : Model → ℕ → Path → Option Property
property_on m t [] = None
property_on m t (n ∷ []) = option_map (λ x. x.1) (property_named m t n)
property_on m t (n ∷ (n' ∷ p)) = option_and_then (λ v. property_on m v.target (n' ∷ p)) (one_named m t n)

-- the custom aggregates of a model with their types, by type name and then by name
abbrev pub all_customs : Model → List (ℕ × Custom)
all_customs m = flat_map (λ t. map (λ u. (t.0, u)) (t.1).customs) (enumerate_from 0 m.types)

-- ---- hierarchies (Data Aggregation 4.0, section 5.5.2)

-- a hierarchy as a model has it: the set of its nodes, their type and its key, which is the node property
pub record HierarchyPlace : Type 0 where
  pub set : ℕ
  pub type : ℕ
  pub key : Property
  pub hierarchy : Hierarchy

-- a hierarchy over a set; every type of an accepted model has its key
abbrev pub placed : Model → ℕ → Hierarchy → Option HierarchyPlace
placed m s h = option_and_then (λ t. option_map (λ k. record { set = s; type = set_type m s; key = k; hierarchy = h }) (slice_get t.properties t.key)) (type_of_set m s)

-- the hierarchy of a set and a qualifier
abbrev pub hierarchy_named : Model → Name → Name → Option HierarchyPlace
hierarchy_named m set qualifier =
    option_and_then (λ s. option_and_then (λ t. option_and_then (placed m s) (find (λ h. same_text h.qualifier qualifier) t.hierarchies)) (type_of_set m s)) (set_named m set)

-- all hierarchies, by type name and then by qualifier
abbrev pub hierarchies_of : Model → List HierarchyPlace
hierarchies_of m = flat_map (λ t. filter_map (placed m (set_of_type m t.0)) t.1.hierarchies) (enumerate_from 0 m.types)
