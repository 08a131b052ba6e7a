-- The places of values in an order.
use Rattle.std.specs.Prelude.{◌≡◌, ℕ, suc, true, false, List, [], ◌∷◌, Some, None, map}
use Rattle.std.specs.declared.result.Result as result
use Rattle.std.specs.Global.{Vec}
use Rattle.std.specs.List.{list_any}
use Rattle.std.specs.List.Sorted.{IsSortedBy, IsStableBy}
use Rattle.edm_values.specs.declared.Value.{Value}
use Rattle.edm_values.specs.declared.refusals.Refused.{Refused}
use Rattle.edm_values.specs.Lists.{at_places}
use Rattle.edm_values.specs.Values.{is_beyond}
use Rattle.edm_values.specs.Refusals.{Returns}
use Rattle.apply_meaning.specs.Instances.{Instance}
use Rattle.apply_meaning.specs.Meaning.{Outcome}
use Rattle.apply_ast.specs.Trees.{OrderItem}
use Rattle.row_orders.specs.Orders.{RankedPlace, before}

-- values with their places, counted from n
abbrev pub numbered : ℕ → List Value → List RankedPlace
numbered n [] = []
numbered n (v ∷ vs) = (v ∷ [], n) ∷ numbered (suc n) vs

-- the values with their places, refused where one is `Beyond`
abbrev pub GivesNumbered : result.Result (Vec RankedPlace) Refused → List Value → Type 0
GivesNumbered r vs = Returns (λ (v : Vec RankedPlace). (v.items ≡ numbered 0 vs) × (list_any is_beyond vs ≡ false)) (list_any is_beyond vs ≡ true) r

-- the places at which these instances are those of the outcome, refused where that is
abbrev pub GivesOrder : result.Result (Vec ℕ) Refused → List Instance → Outcome → Type 0
GivesOrder r l m = Returns (λ (v : Vec ℕ). m ≡ Some (at_places l v.items)) (m ≡ None) r

-- places of values in the order of an item, those that tie as before
pub record ArePlacesInOrder (x : OrderItem) (zs : List RankedPlace) (places : List ℕ) : Type 0 where
  pub list : List RankedPlace
  pub up : IsSortedBy (before (x ∷ [])) list
  pub stable : IsStableBy (before (x ∷ [])) zs list
  pub are : places ≡ map (λ r. r.1) list
