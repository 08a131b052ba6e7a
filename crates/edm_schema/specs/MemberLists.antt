-- Lists of members, as the program holds them.
use Rattle.std.specs.Prelude.{ℕ, ◌≡◌, List, map}
use Rattle.std.specs.List.{All}
use Rattle.serde_json.specs.Data.{Data}
use Rattle.serde_json.specs.View.{view}
use Rattle.edm_schema.specs.JsonTrees as tree
use Rattle.edm_schema.specs.JsonTrees.{members_in}
use Rattle.edm_schema.specs.ModelTrees.{qualifier, hierarchy_term, aggregate_term, definition_term, key_name, namespace, schema, container_members, type_members, set_members, own_members, property_members, navigation_members, term_members}
use Rattle.edm_schema.specs.NameOrders.{AreOrdered, InOrder}
use Rattle.edm_schema.specs.declared.members.Member.{Member}
use Rattle.edm_schema.specs.declared.schema.Schema.{Schema}
use Rattle.edm_schema.specs.declared.schema.TypeTree.{TypeTree}

-- a member with its name and its value
abbrev pub member_seen : Member → tree.Member
member_seen m = (m.name.now, view m.value.now)

-- the members of a type that are of this term, each with its qualifier as its name
abbrev pub qualified_members : List ℕ → Data → List tree.Member
qualified_members term t = map (λ m. (qualifier term m.0, m.1)) (term_members term t)

-- these members have their names in byte order
abbrev pub AreInOrder : List Member → Type 0
AreInOrder ms = AreOrdered (map (λ m. m.name.now) ms)

-- the tree of an entity type
abbrev pub tree_of : TypeTree → Data
tree_of t = view t.value.now

-- an entity type with its name and its tree
abbrev pub type_seen : TypeTree → tree.Member
type_seen t = (t.name.now, tree_of t)

-- the key's name and the lists of members are those of the type; the lists that are searched stand in byte order of names
pub record IsTypeTree (t : TypeTree) : Type 0 where
  pub key : t.key.now ≡ key_name (tree_of t)
  pub members : map member_seen t.members.items ≡ members_in (tree_of t)
  pub own : map member_seen t.own.items ≡ own_members (tree_of t)
  pub properties : map member_seen t.properties.items ≡ property_members (tree_of t)
  pub navigations : map member_seen t.navigations.items ≡ navigation_members (tree_of t)
  pub hierarchies : map member_seen t.hierarchies.items ≡ qualified_members hierarchy_term (tree_of t)
  pub aggregates : map member_seen t.aggregates.items ≡ qualified_members aggregate_term (tree_of t)
  pub definitions : map member_seen t.definitions.items ≡ qualified_members definition_term (tree_of t)
  pub own_ordered : AreInOrder t.own.items
  pub properties_ordered : AreInOrder t.properties.items
  pub navigations_ordered : AreInOrder t.navigations.items
  pub aggregates_ordered : AreInOrder t.aggregates.items

-- the root of a file
abbrev pub root_of : Schema → Data
root_of s = view s.root.now

-- the namespace, the entity types and the other parts are those of the file
pub record IsSchema (s : Schema) : Type 0 where
  pub namespace : s.namespace.now ≡ namespace (root_of s)
  pub members : map member_seen s.members.items ≡ members_in (schema (root_of s))
  pub containers : map member_seen s.containers.items ≡ container_members (root_of s)
  pub types : map type_seen s.types.items ≡ type_members (root_of s)
  pub each : All IsTypeTree s.types.items
  pub sets : map member_seen s.sets.items ≡ set_members (root_of s)
  pub types_ordered : AreOrdered (map (λ t. t.name.now) s.types.items)
  pub in_order : InOrder (root_of s)
