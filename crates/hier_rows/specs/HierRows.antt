-- Rows by their nodes in a hierarchy (Data Aggregation 4.0, section 6), and what calls over them return.
use Rattle.std.specs.Prelude.{ℕ, ◌≡◌, ◌<◌, ◌++◌, true, false, Bool, List, map, filter_map, Option, Some, None, IfSome, option_map, if◌then◌else◌}
use Rattle.std.specs.declared.result.Result as result
use Rattle.std.specs.Global.{Vec}
use Rattle.std.specs.List.{All, list_any}
use Rattle.edm_values.specs.declared.Value.{Value}
use Rattle.edm_values.specs.declared.refusals.Refused.{Refused}
use Rattle.edm_values.specs.Names.{Path}
use Rattle.edm_values.specs.Values.{is_beyond}
use Rattle.edm_values.specs.Refusals.{Returns}
use Rattle.edm_model.specs.LookUps.{HierarchyPlace, navigation_on, set_of_type}
use Rattle.edm_model.specs.Models.{Model, Navigation, Part}
use Rattle.edm_data.specs.Hierarchies.{ancestor_rows, descendant_rows, traversed_rows}
use Rattle.edm_data.specs.Nodes.{parents_of}
use Rattle.edm_data.specs.References.{by_key}
use Rattle.edm_data.specs.Worlds.{World}
use Rattle.apply_ast.specs.Trees.{TraverseStep}
use Rattle.apply_meaning.specs.Instances.{Instance, lookup, root_of, rows}
use Rattle.apply_meaning.specs.Meaning.{node, node_ranks, order_values, refused_at_beyond}

-- ---- nodes

-- the node of an instance among the entities of a set: that whose key equals the value of the path
abbrev pub node_in : World → ℕ → Path → Instance → Option ℕ
node_in w s p i = option_map (λ e. e.at) (by_key w s (lookup w i p))

-- the node that has a key
abbrev pub node_by : World → ℕ → Value → Option ℕ
node_by w s v = option_map (λ e. e.at) (by_key w s v)

-- by this navigation entities refer to those of a set through the property at this place
pub record IsReferenceBy (m : Model) (n : Part) (q s : ℕ) : Type 0 where
  pub navigation : Navigation
  pub is : navigation_on m n ≡ Some navigation
  pub one : navigation.many ≡ false
  pub dependent : navigation.dependent ≡ q
  pub target : set_of_type m navigation.target ≡ s

-- the values of a path on instances
abbrev pub path_values : World → Path → List Instance → List Value
path_values w p l = map (λ i. lookup w i p) l

-- the set and the parents of the nodes are those of this hierarchy
abbrev pub IsNodesOf : World → HierarchyPlace → ℕ → List (Option ℕ) → Type 0
IsNodesOf w f set parents = (set ≡ f.set) × (parents ≡ parents_of w f)

-- each node is one of this many
abbrev pub AreNodesBelow : ℕ → List ℕ → Type 0
AreNodesBelow count nodes = All (λ x. x < count) nodes

-- each node that there is, is one of this many
abbrev pub AreOptionsBelow : ℕ → List (Option ℕ) → Type 0
AreOptionsBelow count nodes = All (λ n. IfSome n (λ x. x < count)) nodes

-- each instance's entity at the empty prefix, if it has one, is one of this many
abbrev pub AreRootsBelow : ℕ → List Instance → Type 0
AreRootsBelow count l = All (λ i. IfSome (root_of i) (λ e. e.at < count)) l

-- ---- what was returned; `Memory` says nothing

-- of instances whose values at a path are these: something, or a refusal where one is Beyond
abbrev pub GivesFor : {T : Type 0} → (T → Type 0) → List Value → result.Result T Refused → Type 0
GivesFor IsRight vs r = Returns (λ v. IsRight v × (list_any is_beyond vs ≡ false)) (list_any is_beyond vs ≡ true) r

-- of one key: the node that has it, or a refusal where it is Beyond
abbrev pub GivesNodeBy : World → ℕ → Value → result.Result (Option ℕ) Refused → Type 0
GivesNodeBy w s v r = Returns (λ (n : Option ℕ). (n ≡ node_by w s v) × (is_beyond v ≡ false)) (is_beyond v ≡ true) r

-- entities that were found, if they were, where the places are known
abbrev pub GivesPlaces : result.Result (Option (Vec ℕ)) Refused → Option (List ℕ) → Type 0
GivesPlaces r m = Returns (λ (o : Option (Vec ℕ)). IfSome o (λ v. m ≡ Some v.items)) (m ≡ None) r

-- ---- places of rows

-- the places of the instances that a climb keeps: those whose node is an ancestor, or else a descendant, of the node of a start instance
abbrev pub climbed_places : World → Bool → HierarchyPlace → Path → Option ℕ → Bool → List Instance → List Instance → List ℕ
climbed_places w up f p limit keep starts l = (if up then ancestor_rows else descendant_rows) (parents_of w f) limit keep (filter_map (node w f p) starts) (map (node w f p) l)

-- the same, refused where the value of the path is Beyond on one of the instances
abbrev pub climb_outcome : World → Bool → HierarchyPlace → Path → Option ℕ → Bool → List Instance → List Instance → Option (List ℕ)
climb_outcome w up f p limit keep starts l = refused_at_beyond (path_values w p (l ++ starts)) (climbed_places w up f p limit keep starts l)

-- the places of the instances that have a node, node by node
abbrev pub traversed_places : World → HierarchyPlace → TraverseStep → List Instance → List ℕ
traversed_places w f t l = traversed_rows t.post (parents_of w f) (node_ranks w f t.items) (map (node w f t.path) l)

-- the same, refused where the value of the path is Beyond on one of the instances, or an item's on a node
abbrev pub traverse_outcome : World → HierarchyPlace → TraverseStep → List Instance → Option (List ℕ)
traverse_outcome w f t l = refused_at_beyond (path_values w t.path l ++ order_values w t.items (rows w f.set)) (traversed_places w f t l)
