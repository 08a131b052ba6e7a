-- The ranks of rows by the values of items.
use Rattle.std.specs.Prelude.{◌≡◌, ℕ, suc, ◌<◌, Bool, true, false, List, [], ◌∷◌, Option, Some, None, count_by, length, map, slice_index, slice_index_or}
use Rattle.std.specs.declared.result.Result as result
use Rattle.std.specs.Global.{Vec}
use Rattle.std.specs.List.{list_any}
use Rattle.std.specs.List.Sorted.{IsSortedBy, IsStableBy}
use Rattle.edm_values.specs.declared.refusals.Refused.{Refused}
use Rattle.edm_values.specs.Refusals.{Returns}
use Rattle.edm_data.specs.Worlds.{World}
use Rattle.apply_ast.specs.Trees.{OrderItem}
use Rattle.apply_meaning.specs.Instances.{Instance}
use Rattle.apply_meaning.specs.Meaning.{order_before}
use Rattle.row_orders.specs.Orders.{RankedPlace, before, has_beyond, item_values}

-- each instance's rank: how many of the list stand before it by the items
abbrev pub ranks : World → List OrderItem → List Instance → List ℕ
ranks w items l = map (λ i. count_by (λ j. order_before w items j i) l) l

-- what was returned, where the numbers are known: `Memory` says nothing
abbrev pub GivesNumbers : result.Result (Vec ℕ) Refused → Option (List ℕ) → Type 0
GivesNumbers r m = Returns (λ (v : Vec ℕ). m ≡ Some v.items) (m ≡ None) r

-- the places of instances, counted from n, with the values of the items
abbrev pub placed_from : World → List OrderItem → ℕ → List Instance → List RankedPlace
placed_from w items n [] = []
placed_from w items n (i ∷ l) = (item_values w items i, n) ∷ placed_from w items (suc n) l

-- the places with the values, refused where a value is `Beyond`
abbrev pub GivesPlaced : result.Result (Vec RankedPlace) Refused → World → List OrderItem → List Instance → Type 0
GivesPlaced r w items l = Returns (λ (v : Vec RankedPlace). (v.items ≡ placed_from w items 0 l) × (list_any (has_beyond w items) l ≡ false)) (list_any (has_beyond w items) l ≡ true) r

-- the places with the values in the order of the items, those that tie in their own, refused where a value is `Beyond`
abbrev pub GivesSorted : result.Result (Vec RankedPlace) Refused → World → List OrderItem → List Instance → Type 0
GivesSorted r w items l = Returns (λ (v : Vec RankedPlace). IsSortedBy (before items) v.items × IsStableBy (before items) (placed_from w items 0 l) v.items × (list_any (has_beyond w items) l ≡ false)) (list_any (has_beyond w items) l ≡ true) r

-- how many of a list are less than x
abbrev pub rank_in : {X : Type 0} → (X → X → Bool) → List X → X → ℕ
rank_in less ys x = count_by (λ y. less y x) ys

-- the places are below their number, and differ
pub record ArePlaces (ys : List RankedPlace) : Type 0 where
  pub below : (k : ℕ) (d : RankedPlace) → k < length ys → (slice_index_or ys k d).1 < length ys
  pub differ : (j k : ℕ) (d : RankedPlace) → j < k → k < length ys → (slice_index_or ys j d).1 ≡ (slice_index_or ys k d).1 → ⊥

-- the rank of the one before k
abbrev pub IsFormerRank : {X : Type 0} → (X → X → Bool) → List X → ℕ → ℕ → Type 0
IsFormerRank {X} less ys k rank = (j : ℕ) (d : X) → suc j ≡ k → rank ≡ rank_in less ys (slice_index_or ys j d)

-- at each of the first n places stands its rank
pub record HaveRanks (less : RankedPlace → RankedPlace → Bool) (ys : List RankedPlace) (ranks : List ℕ) (n : ℕ) : Type 0 where
  pub size : length ranks ≡ length ys
  pub stands : (k : ℕ) (d : RankedPlace) → k < n → slice_index ranks (slice_index_or ys k d).1 ≡ rank_in less ys (slice_index_or ys k d)
