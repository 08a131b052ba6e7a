-- Recursive rollups with plain keys beside them, whose groups an aggregation makes one row each (Data Aggregation 4.0, sections 3.2.1 and 6.3).
use Rattle.std.specs.Prelude.{◌≡◌, ℕ, ◌<◌, ◌++◌, List, [], ◌∷◌, Option, Some, true, false, IsTrue, filter, flat_map, get_or, length, map, nat_lt, slice_get}
use Rattle.std.specs.declared.result.Result as result
use Rattle.std.specs.Global.{Vec}
use Rattle.std.specs.List.{list_all}
use Rattle.edm_values.specs.declared.Value.{Value}
use Rattle.edm_values.specs.declared.refusals.Refused.{Refused}
use Rattle.edm_values.specs.Lists.{at_places}
use Rattle.edm_values.specs.Names.{Path}
use Rattle.edm_values.specs.Refusals.{Returns}
use Rattle.edm_model.specs.LookUps.{HierarchyPlace}
use Rattle.edm_data.specs.Nodes.{identifier}
use Rattle.edm_data.specs.Worlds.{World}
use Rattle.apply_ast.specs.Trees.{AggItem, Keys, Step}
use Rattle.context_typing.specs.Readings.{readings}
use Rattle.context_typing.specs.Shapes.{Shape}
use Rattle.context_typing.specs.Typing.{Customs, plain_paths}
use Rattle.apply_meaning.specs.Instances.{Instance, no_instance}
use Rattle.apply_meaning.specs.Meaning.{at_or_below, group, item_value, key_list, keyed, keys}
use Rattle.apply_meaning.specs.RowViews.{columns_differ}
use Rattle.group_rollup.specs.Groupings.{has_beyond_key}
use Rattle.group_rollup.specs.NumberedBy.{AreNumberedBy}
use Rattle.numbered_groups.specs.Numbered.{Numbering, places_with}
use Rattle.rollup_rec.specs.NodeRows.{NodeRowsState}
use Rattle.step_run.specs.Conditions.{ItemsRun}
use Rattle.step_run.specs.Contexts.{Context}
use Rattle.step_run.specs.GroupTotals.{grouped_step}
use Rattle.step_run.specs.ItemLists.{item_list}
use Rattle.step_run.specs.Totals.{AreNodeLists, AreNodesOf}

-- the row of the items over instances, which has the columns of a key list behind them, and then the identifier of a node
abbrev pub keyed_row : World → Customs → Shape → List AggItem → List Path → List Value → Path → Value → List Instance → Instance
keyed_row w c S items ks k p v l = record no_instance { columns = (map (item_value w c S l) items ++ keyed ks k) ++ (p, v) ∷ [] }

-- the row of the instances of a key that are at a node or below it
abbrev pub key_row : World → Customs → Shape → HierarchyPlace → List AggItem → List Path → Path → List Instance → ℕ → List Value → Instance
key_row w c S f items ks p l x k = keyed_row w c S items ks k p (identifier w f x) (group w ks k (filter (at_or_below w f p x) l))

-- the rows of a node: one for each key of the instances at it or below it
abbrev pub keyed_at : World → Customs → Shape → HierarchyPlace → List AggItem → List Path → Path → List Instance → ℕ → List Instance
keyed_at w c S f items ks p l x = map (key_row w c S f items ks p l x) (keys w ks (filter (at_or_below w f p x) l))

-- the rows of all nodes that are shown, in their order
abbrev pub keyed_totals : World → Customs → Shape → HierarchyPlace → List AggItem → List Path → Path → List ℕ → List Instance → List Instance
keyed_totals w c S f items ks p shown l = flat_map (keyed_at w c S f items ks p l) shown

-- the rows of the keys of a node that has groups
abbrev pub rolled_rows : World → Customs → Shape → HierarchyPlace → List AggItem → List Path → Path → List Instance → ℕ × List (List Value × List ℕ) → List Instance
rolled_rows w c S f items ks p l e = map (λ g. key_row w c S f items ks p l e.0 g.0) e.1

-- the items can be evaluated on any of the instances, and their columns differ from those of the keys and of the node
abbrev pub KeyedReady : Context → Option ℕ → List AggItem → List Path → Path → List Instance → Type 0
KeyedReady x root items ks p l = (S : Shape) × ((js : List ℕ) (k : List Value) (v : Value)
    → ItemsRun x root S items (at_places l js) × (length k ≡ length ks → IsTrue (columns_differ (keyed_row x.world (readings x.customs) S items ks k p v (at_places l js)).columns)))

-- what is kept of the instances of a key: which of them are at a node or below it, the places of those that have a node, in the order of the numbers of their nodes, and for each item its value at each node, where it is known
pub record KeyRowsState : Type 0 where
  pub order : NodeRowsState
  pub places : List ℕ
  pub known : List (Option (List Value))

-- it is kept of the instances at these places
pub record AreKeyRows (w : World) (items : List AggItem) (l : List Instance) (own : List ℕ) (r : KeyRowsState) : Type 0 where
  pub long : length r.order.nodes ≡ length own
  pub rows_within : IsTrue (list_all (λ k. nat_lt k (length own)) r.order.rows)
  pub places_are : r.places ≡ at_places own r.order.rows
  pub known_are : AreNodeLists w (at_places l own) r.order.parents r.order.nodes items r.known

-- what is kept of each list of instances, with the nodes of each
abbrev pub AreRowsOfKeys : World → List AggItem → List Instance → List (Option ℕ) → List (List (Option ℕ)) → List (List ℕ) → List KeyRowsState → Type 0
AreRowsOfKeys w items l parents nodes members all = (j : ℕ) (r : KeyRowsState) → slice_get all j ≡ Some r
    → AreKeyRows w items l (get_or members j []) r × (r.order.parents ≡ parents) × (r.order.nodes ≡ get_or nodes j [])

-- the values of an item are those of its expression on the instances
abbrev pub AreSeenLists : World → List Instance → List AggItem → List (Option (List Value)) → Type 0
AreSeenLists w l items lists = (k : ℕ) (i : AggItem) (v : List Value) → slice_get items k ≡ Some i → slice_get lists k ≡ Some (Some v) → item_list w l i ≡ Some v

-- the first instance of a group stands at one of these places, and has the key of the group
pub record HasFirst (w : World) (ks : List Path) (l : List Instance) (firsts : List ℕ) (g : List Value × List ℕ) : Type 0 where
  pub place : ℕ
  pub rest : List ℕ
  pub places_are : g.1 ≡ place ∷ rest
  pub there : place < length firsts
  pub within : get_or firsts place 0 < length l
  pub key_is : key_list w ks (get_or l (get_or firsts place 0) no_instance) ≡ g.0

-- each group has such an instance
abbrev pub HaveFirsts : World → List Path → List Instance → List ℕ → List (List Value × List ℕ) → Type 0
HaveFirsts w ks l firsts gs = (k : ℕ) (g : List Value × List ℕ) → slice_get gs k ≡ Some g → HasFirst w ks l firsts g

-- of each number the instances that have it: they are kept, and they are those that have the key of one that has the number
pub record AreOfNumbers (w : World) (items : List AggItem) (ks : List Path) (l : List Instance) (numbers : List ℕ) (all : List KeyRowsState) : Type 0 where
  pub there : (r : ℕ) → r < length l → get_or numbers r 0 < length all
  pub long : length numbers ≡ length l
  pub same : (r : ℕ) → r < length l → at_places l (places_with numbers (get_or numbers r 0)) ≡ group w ks (key_list w ks (get_or l r no_instance)) l
  pub kept : (j : ℕ) (r : KeyRowsState) → slice_get all j ≡ Some r → AreKeyRows w items l (places_with numbers j) r

-- these are the nodes of the instances of each number
abbrev pub AreNodesOfAll : World → HierarchyPlace → Path → List Instance → ℕ → List ℕ → List KeyRowsState → Type 0
AreNodesOfAll w f p l set numbers all = (j : ℕ) (r : KeyRowsState) → slice_get all j ≡ Some r → AreNodesOf w f p (at_places l (places_with numbers j)) set r.order.parents r.order.nodes

-- the node is one of theirs
abbrev pub IsNodeOfAll : ℕ → List KeyRowsState → Type 0
IsNodeOfAll x all = (j : ℕ) (r : KeyRowsState) → slice_get all j ≡ Some r → x < length r.order.parents

-- what such a grouping gives of the nodes that are shown, or a refusal where a key is Beyond; `Memory` says nothing
abbrev pub GivesKeyed : result.Result (Vec Instance) Refused → Context → Shape → HierarchyPlace → List AggItem → List Path → Path → List ℕ → List Instance → Type 0
GivesKeyed r x S f items ks p shown l =
    Returns (λ (v : Vec Instance). (v.items ≡ keyed_totals x.world (readings x.customs) S f items ks p shown l) × (has_beyond_key x.world (ks ++ p ∷ []) l ≡ false)) (has_beyond_key x.world (ks ++ p ∷ []) l ≡ true) r

-- the transformation is a grouping by these keys whose inner pipeline is an aggregation of these items alone, and these are the groups of the list by the plain keys
pub record IsKeyedBy (w : World) (s : Step) (ks : Keys) (items : List AggItem) (l : List Instance) (n : Numbering) : Type 0 where
  pub step_is : s ≡ grouped_step ks items
  pub numbered : AreNumberedBy w (plain_paths ks) l n
