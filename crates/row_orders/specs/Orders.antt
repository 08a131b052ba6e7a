-- The orders of rows by the values of items, each evaluated once.
use Rattle.std.specs.Prelude.{◌≡◌, ℕ, Bool, true, false, if◌then◌else◌, List, [], ◌∷◌, map, drop}
use Rattle.std.specs.declared.result.Result as result
use Rattle.std.specs.declared.cmp.Ordering.{Ordering}
use Rattle.std.specs.declared.cmp.Ordering.TheVariants.{Equal}
use Rattle.std.specs.Global.{Vec}
use Rattle.std.specs.List.{list_any}
use Rattle.std.specs.Ordering.{ordering_then, flip_args, is_lt}
use Rattle.edm_data.specs.Worlds.{World}
use Rattle.edm_values.specs.declared.Value.{Value}
use Rattle.edm_values.specs.declared.refusals.Refused.{Refused}
use Rattle.edm_values.specs.Values.{is_beyond, value_cmp}
use Rattle.edm_values.specs.Refusals.{Returns}
use Rattle.apply_ast.specs.Trees.{OrderItem}
use Rattle.apply_meaning.specs.Instances.{Instance, val}

-- the values of the items on an instance
abbrev pub item_values : World → List OrderItem → Instance → List Value
item_values w items i = map (λ x. val w i x.expr) items

-- an instance with values
abbrev pub RankedRow : Type 0
RankedRow = List Value × Instance

-- an instance's place with values
abbrev pub RankedPlace : Type 0
RankedPlace = List Value × ℕ

-- an instance with its values of the items
abbrev pub ranked : World → List OrderItem → Instance → RankedRow
ranked w items i = (item_values w items i, i)

-- whether one of an instance's values is `Beyond`
abbrev pub has_beyond : World → List OrderItem → Instance → Bool
has_beyond w items i = list_any is_beyond (item_values w items i)

-- what the values of a row are, refused where one is `Beyond`
abbrev pub GivesValues : result.Result (Vec Value) Refused → List Value → Type 0
GivesValues r vs = Returns (λ (v : Vec Value). (v.items ≡ vs) × (list_any is_beyond vs ≡ false)) (list_any is_beyond vs ≡ true) r

-- what the only value of a row is, refused where it is `Beyond`
abbrev pub GivesValue : result.Result Value Refused → List Value → Type 0
GivesValue r vs = Returns (λ (v : Value). (v ∷ [] ≡ vs) × (list_any is_beyond vs ≡ false)) (list_any is_beyond vs ≡ true) r

-- the rows with their values, refused where one is `Beyond`
abbrev pub GivesRanked : result.Result (Vec RankedRow) Refused → World → List OrderItem → List Instance → Type 0
GivesRanked r w items l = Returns (λ (v : Vec RankedRow). (v.items ≡ map (ranked w items) l) × (list_any (has_beyond w items) l ≡ false)) (list_any (has_beyond w items) l ≡ true) r

-- the first value of a list, null where there is none
abbrev pub first_value : List Value → Value
first_value [] = Value.Null
first_value (v ∷ vs) = v

-- an item's order of two values
abbrev pub item_cmp : Bool → Value → Value → Ordering
item_cmp desc = if desc then flip_args value_cmp else value_cmp

-- the order of two lists of values, one for each item, by the items from left to right
abbrev pub values_cmp : List OrderItem → List Value → List Value → Ordering
values_cmp [] vs us = Equal
values_cmp (x ∷ xs) vs us = ordering_then (item_cmp x.desc (first_value vs) (first_value us)) (values_cmp xs (drop 1 vs) (drop 1 us))

-- the order of what has values of the items
abbrev pub before : {X : Type 0} → List OrderItem → List Value × X → List Value × X → Bool
before items a b = is_lt (values_cmp items a.0 b.0)
