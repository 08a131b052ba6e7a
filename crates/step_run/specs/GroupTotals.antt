-- Groupings by plain keys and the levels of a rollup whose groups an aggregation makes one row each (Data Aggregation 4.0, sections 3.2.1 and 3.2.3).
use Rattle.std.specs.Prelude.{◌≡◌, ◌⊎◌, ℕ, ◌++◌, All, Bool, List, [], ◌∷◌, Option, Some, None, true, false, IfSome, IsTrue, flat_map, length, map, pos, slice_get}
use Rattle.std.specs.declared.result.Result as result
use Rattle.edm_values.specs.declared.Value.{Value}
use Rattle.edm_values.specs.declared.refusals.Refused.{Refused}
use Rattle.edm_values.specs.Lists.{at_places, places}
use Rattle.edm_values.specs.Names.{Name, Path}
use Rattle.edm_values.specs.Refusals.{Returns}
use Rattle.edm_data.specs.Worlds.{World}
use Rattle.apply_ast.specs.Trees.{AggItem, Keys, OptPipe, Pipe, Step}
use Rattle.context_typing.specs.Typing.{group_keys, key_paths}
use Rattle.apply_meaning.specs.Aggregates.{aggregate}
use Rattle.apply_meaning.specs.Instances.{Instance, no_instance}
use Rattle.apply_meaning.specs.Meaning.{Outcome, keyed, values}
use Rattle.apply_meaning.specs.RowViews.{columns_differ}
use Rattle.aggregate_ops.specs.Partials.{AreFoldable}
use Rattle.group_rollup.specs.Groupings.{has_beyond_key}
use Rattle.numbered_groups.specs.Numbered.{Numbering, places_with}
use Rattle.step_run.specs.Levels.{Level, level_on, levels_of}

-- a grouping whose inner pipeline is an aggregation alone
abbrev pub grouped_step : Keys → List AggItem → Step
grouped_step ks items = Step.GroupBy ks (OptPipe.SomePipe (Pipe.Then (Step.Aggregate items) Pipe.End))

-- a grouping by these keys whose groups become a row of these items and the key each, or of the key alone
abbrev pub IsGroupedBy : Step → Keys → List AggItem → Type 0
IsGroupedBy s ks items = (s ≡ grouped_step ks items) ⊎ ((s ≡ Step.GroupBy ks OptPipe.NoPipe) × (items ≡ []))

-- a count, or an aggregate by a method
abbrev pub is_folded : AggItem → Bool
is_folded (AggItem.Custom n a) = false
is_folded i = true

-- the name of the result of an item
abbrev pub item_name : AggItem → Name
item_name (AggItem.Count a) = a
item_name (AggItem.Standard e f a) = a
item_name (AggItem.Custom n a) = a

-- the value of such an item on instances
abbrev pub folded_value : World → List Instance → AggItem → Value
folded_value w l (AggItem.Standard e f a) = aggregate f (values w e l)
folded_value w l (AggItem.Count a) = Value.Int (pos (length l))
folded_value w l (AggItem.Custom n a) = Value.Null

-- its column
abbrev pub folded_column : World → List Instance → AggItem → Path × Value
folded_column w l i = (item_name i ∷ [], folded_value w l i)

-- the values of an item's expression are of one type that its method takes
abbrev pub IsFoldable : World → List Instance → AggItem → Type 0
IsFoldable w l (AggItem.Standard e f a) = AreFoldable f (values w e l)
IsFoldable w l i = Unit {0}

-- the values of an item on each group of a list, by the number of each instance's group
abbrev pub values_by : World → List Instance → Numbering → AggItem → List Value
values_by w l n (AggItem.Standard e f a) = map (λ j. aggregate f (at_places (values w e l) (places_with n.numbers j))) (places (length n.firsts))
values_by w l n (AggItem.Count a) = map (λ j. Value.Int (pos (length (places_with n.numbers j)))) (places (length n.firsts))
values_by w l n (AggItem.Custom m a) = []

-- the same with the path of the item's column
abbrev pub listed_column : World → List Instance → Numbering → AggItem → Path × List Value
listed_column w l n i = (item_name i ∷ [], values_by w l n i)

-- the row of the items over the instances of a group, which has the columns of its key behind them
abbrev pub group_total : World → List AggItem → List Path → List Instance → List Value × List ℕ → Instance
group_total w items ks l g = record no_instance { columns = map (folded_column w (at_places l g.1)) items ++ keyed ks g.0 }

-- the rows of the groups of a level
abbrev pub level_totals : World → List AggItem → List Instance → Level → List Instance
level_totals w items l level = map (group_total w items level.0 l) level.1

-- the rows of all levels
abbrev pub group_totals : World → Keys → List AggItem → List Instance → List Instance
group_totals w ks items l = flat_map (level_totals w items l) (map (level_on w l) (levels_of ks))

-- the columns of each row of a level differ
abbrev pub AreApart : World → List AggItem → List Instance → Level → Type 0
AreApart w items l level = (k : ℕ) (g : List Value × List ℕ) → slice_get level.1 k ≡ Some g → IsTrue (columns_differ (group_total w items level.0 l g).columns)

-- the items can be folded on the instances, and the columns of each row differ
pub record GroupsReady (w : World) (ks : Keys) (items : List AggItem) (l : List Instance) : Type 0 where
  pub foldable : All (IsFoldable w l) items
  pub apart : All (λ level. AreApart w items l (level_on w l level)) (levels_of ks)

-- what such a grouping gives on a list, or a refusal where a key is Beyond; `Memory` says nothing
abbrev pub GivesGroupTotals : result.Result (List Instance) Refused → World → Keys → List AggItem → List Instance → Type 0
GivesGroupTotals r w ks items l =
    Returns (λ (f : List Instance). (f ≡ group_totals w ks items l) × (has_beyond_key w (key_paths (group_keys ks)) l ≡ false)) (has_beyond_key w (key_paths (group_keys ks)) l ≡ true) r

-- the instances of a result, where there are any, are what is meant, and a refusal is meant; `Memory` says nothing
abbrev pub GivesFound : result.Result (Option (List Instance)) Refused → Outcome → Type 0
GivesFound r m = Returns (λ (found : Option (List Instance)). IfSome found (λ f. m ≡ Some f)) (m ≡ None) r
