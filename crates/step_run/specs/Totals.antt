-- Recursive rollups whose groups an aggregation makes one row each (Data Aggregation 4.0, sections 3.2.1 and 6.3).
use Rattle.std.specs.Prelude.{◌≡◌, ℕ, ◌<◌, ◌++◌, List, [], ◌∷◌, Option, Some, None, true, false, IsTrue, filter, flat_map, if◌then◌else◌, length, map, slice_get, slice_index_or}
use Rattle.std.specs.declared.result.Result as result
use Rattle.std.specs.Global.{Vec}
use Rattle.edm_values.specs.declared.Value.{Value}
use Rattle.edm_values.specs.declared.refusals.Refused.{Refused}
use Rattle.edm_values.specs.Lists.{at_places, is_nonempty}
use Rattle.edm_values.specs.Names.{Path}
use Rattle.edm_values.specs.Refusals.{Returns}
use Rattle.edm_model.specs.LookUps.{HierarchyPlace}
use Rattle.edm_data.specs.Hierarchies.{rows_under}
use Rattle.edm_data.specs.Nodes.{identifier, parents_of}
use Rattle.edm_data.specs.Worlds.{World}
use Rattle.apply_ast.specs.Trees.{AggItem, HierName, Key, Keys, OptPipe, Pipe, Step}
use Rattle.context_typing.specs.Readings.{readings}
use Rattle.context_typing.specs.Shapes.{Shape}
use Rattle.context_typing.specs.Typing.{Customs}
use Rattle.apply_meaning.specs.Instances.{Instance, no_instance}
use Rattle.apply_meaning.specs.Aggregates.{aggregate}
use Rattle.apply_meaning.specs.Meaning.{at_or_below, item_value, node, values}
use Rattle.apply_meaning.specs.RowViews.{columns_differ}
use Rattle.group_rollup.specs.Groupings.{has_beyond_key}
use Rattle.step_run.specs.Conditions.{ItemsRun}
use Rattle.step_run.specs.Contexts.{Context}

-- a grouping whose only key is a recursive rollup, and whose inner pipeline is an aggregation alone
abbrev pub totals_step : HierName → Path → OptPipe → List AggItem → Step
totals_step h p shown items = Step.GroupBy (Keys.MoreKeys (Key.Recursive h p shown) Keys.NoKeys) (OptPipe.SomePipe (Pipe.Then (Step.Aggregate items) Pipe.End))

-- the row of the items over instances, which has the identifier of a node behind them
abbrev pub total_row : World → Customs → Shape → List AggItem → Path → Value → List Instance → Instance
total_row w c S items p v l = record no_instance { columns = map (item_value w c S l) items ++ (p, v) ∷ [] }

-- the row of the instances at a node or below it, where there are some
abbrev pub totals_at : World → Customs → Shape → HierarchyPlace → List AggItem → Path → List Instance → ℕ → List Instance
totals_at w c S f items p l x = let own = filter (at_or_below w f p x) l in if is_nonempty own then total_row w c S items p (identifier w f x) own ∷ [] else []

-- the rows of all nodes that are shown, in their order
abbrev pub totals : World → Customs → Shape → HierarchyPlace → List AggItem → Path → List ℕ → List Instance → List Instance
totals w c S f items p shown l = flat_map (totals_at w c S f items p l) shown

-- the items can be evaluated on any of the instances, and their columns differ from that of the node
abbrev pub TotalsReady : Context → Option ℕ → List AggItem → Path → List Instance → Type 0
TotalsReady x root items p l = (S : Shape) × ((ks : List ℕ) (v : Value)
    → ItemsRun x root S items (at_places l ks) × IsTrue (columns_differ (map (item_value x.world (readings x.customs) S (at_places l ks)) items ++ (p, v) ∷ [])))

-- the value of an item on instances, where it is the aggregate of the values of an expression by a method
abbrev pub item_outcome : World → List Instance → AggItem → Option Value
item_outcome w l (AggItem.Standard e f a) = Some (aggregate f (values w e l))
item_outcome w l i = None

-- one value for each node: the value of an item on the instances at it or below it
abbrev pub AreAtNodes : World → List Instance → List (Option ℕ) → List (Option ℕ) → AggItem → List Value → Type 0
AreAtNodes w l parents nodes i vs = (length vs ≡ length parents) × ((x : ℕ) → x < length parents → item_outcome w (at_places l (rows_under parents x nodes)) i ≡ Some (slice_index_or vs x Value.Null))

-- the values that are known are those of the items at their places
abbrev pub AreNodeLists : World → List Instance → List (Option ℕ) → List (Option ℕ) → List AggItem → List (Option (List Value)) → Type 0
AreNodeLists w l parents nodes items lists = (k : ℕ) (i : AggItem) (v : List Value) → slice_get items k ≡ Some i → slice_get lists k ≡ Some (Some v) → AreAtNodes w l parents nodes i v

-- at a node, those that are known are the values of the items on these instances
abbrev pub AreKnownAt : World → List Instance → List AggItem → ℕ → List (Option (List Value)) → Type 0
AreKnownAt w l items x lists = (k : ℕ) (i : AggItem) (v : List Value) → slice_get items k ≡ Some i → slice_get lists k ≡ Some (Some v) → (x < length v) × (item_outcome w l i ≡ Some (slice_index_or v x Value.Null))

-- these are the parents of the nodes of a hierarchy, and the nodes of instances in it
pub record AreNodesOf (w : World) (f : HierarchyPlace) (p : Path) (l : List Instance) (set : ℕ) (parents nodes : List (Option ℕ)) : Type 0 where
  pub set_is : f.set ≡ set
  pub parents_are : parents ≡ parents_of w f
  pub nodes_are : nodes ≡ map (node w f p) l

-- what such a grouping gives of the nodes that are shown, or a refusal where the value of the path is Beyond; `Memory` says nothing
abbrev pub GivesTotals : result.Result (Vec Instance) Refused → Context → Shape → HierarchyPlace → List AggItem → Path → List ℕ → List Instance → Type 0
GivesTotals r x S f items p shown l =
    Returns (λ (v : Vec Instance). (v.items ≡ totals x.world (readings x.customs) S f items p shown l) × (has_beyond_key x.world (p ∷ []) l ≡ false)) (has_beyond_key x.world (p ∷ []) l ≡ true) r
