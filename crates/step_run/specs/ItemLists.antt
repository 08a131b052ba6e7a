-- The values of the items of an aggregation on a whole list, of which each group takes those at its places.
use Rattle.std.specs.Prelude.{◌≡◌, ℕ, List, Option, Some, None, slice_get}
use Rattle.std.specs.Global.{Vec}
use Rattle.edm_values.specs.declared.Value.{Value}
use Rattle.edm_data.specs.Worlds.{World}
use Rattle.apply_ast.specs.Trees.{AggItem, Pipe, Step}
use Rattle.apply_meaning.specs.Instances.{Instance}
use Rattle.apply_meaning.specs.Meaning.{values}

-- the values of an item on a list, where it aggregates an expression by a method
abbrev pub item_list : World → List Instance → AggItem → Option (List Value)
item_list w l (AggItem.Standard e f a) = Some (values w e l)
item_list w l i = None

-- the values that are known are those of the items at their places
abbrev pub AreItemLists : World → List Instance → List AggItem → List (Option (Vec Value)) → Type 0
AreItemLists w l items lists = (k : ℕ) (i : AggItem) (v : Vec Value) → slice_get items k ≡ Some i → slice_get lists k ≡ Some (Some v) → item_list w l i ≡ Some v.items

-- the same of the aggregation that a pipeline begins with, where it begins with one
abbrev pub AreFirstLists : World → List Instance → Pipe → List (Option (Vec Value)) → Type 0
AreFirstLists w l p lists = (items : List AggItem) (rest : Pipe) → p ≡ Pipe.Then (Step.Aggregate items) rest → AreItemLists w l items lists
