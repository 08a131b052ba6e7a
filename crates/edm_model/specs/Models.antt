-- Models: entity types and entity sets. Texts and names are lists of bytes; a model refers to its parts by their place in its lists.
use Rattle.std.specs.Prelude.{ℕ, Bool, List, Option}
use Rattle.edm_values.specs.declared.EdmType.{EdmType}
use Rattle.edm_values.specs.declared.Method.{Method}

-- a structural property (CSDL JSON 4.01, section 7)
pub record Property : Type 0 where
  pub name : List ℕ
  pub kind : EdmType
  pub nullable : Bool

-- a navigation property (CSDL JSON 4.01, section 8): the type that it leads to; single-valued, the property of this type that refers to the target's key; collection-valued, the navigation of the target that leads back
pub record Navigation : Type 0 where
  pub name : List ℕ
  pub target : ℕ
  pub many : Bool
  pub dependent : ℕ
  pub partner : ℕ

-- a recursive hierarchy (Data Aggregation 4.0, section 5.5.2): its qualifier, and the navigation from a node to its parent. The node property is the key
pub record Hierarchy : Type 0 where
  pub qualifier : List ℕ
  pub parent : ℕ

-- a custom aggregate (Data Aggregation 4.0, section 5.2) with its definition: the method over the values of an expression, and with paths of groups the outer method over the groups' results
pub record Custom : Type 0 where
  pub name : List ℕ
  pub of : List ℕ
  pub method : Method
  pub per : List (List ℕ)
  pub outer : Option Method

-- an entity type (CSDL JSON 4.01, section 6), its lists in byte order of names
pub record EntityType : Type 0 where
  pub name : List ℕ
  pub properties : List Property
  pub key : ℕ
  pub navigations : List Navigation
  pub hierarchies : List Hierarchy
  pub customs : List Custom

-- an entity set (CSDL JSON 4.01, section 13.2) and the place of its type
pub record EntitySet : Type 0 where
  pub name : List ℕ
  pub of : ℕ

-- the entity types and the entity sets, each list in byte order of names (CSDL JSON 4.01, sections 6 and 13)
pub record Model : Type 0 where
  pub types : List EntityType
  pub sets : List EntitySet

-- a property, navigation, hierarchy or custom aggregate of a model: the place of its type, and its own place in that type's list
pub record Part : Type 0 where
  pub of : ℕ
  pub at : ℕ
