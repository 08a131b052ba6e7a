-- The places of keys in the order of the keys, by which a key is found without going over all of them.
use Rattle.std.specs.Prelude.{◌≡◌, ℕ, ◌<◌, Bool, true, false, List, take, map, position, slice_get, slice_index_or}
use Rattle.std.specs.List.{list_any}
use Rattle.std.specs.List.Sorted.{IsStrictlySortedBy}
use Rattle.std.specs.Map.{lookup}
use Rattle.std.specs.Ordering.{is_eq}
use Rattle.std.specs.declared.cmp.Ordering.{Ordering}
use Rattle.edm_values.specs.Lists.{is_some_and}

-- the key at this place stands earlier in the list
abbrev pub is_twice : {K : Type 0} → (K → K → Ordering) → List K → ℕ → Bool
is_twice cmp keys k = is_some_and (λ x. list_any (λ y. is_eq (cmp x y)) (take k keys)) (slice_get keys k)

-- this is the first place whose key stands earlier
pub record IsFirstTwice {K : Type 0} (cmp : K → K → Ordering) (keys : List K) (k : ℕ) : Type 0 where
  pub here : is_twice cmp keys k ≡ true
  pub before : (q : ℕ) → q < k → is_twice cmp keys q ≡ false

-- no key stands earlier
abbrev pub AreDistinct : {K : Type 0} → (K → K → Ordering) → List K → Type 0
AreDistinct cmp keys = (k : ℕ) → is_twice cmp keys k ≡ false

-- places, each with the key that stands there
abbrev pub keyed : {K : Type 0} → K → List K → List ℕ → List (K × ℕ)
keyed d keys order = map (λ p. (slice_index_or keys p d, p)) order

-- the keys at these places rise, and a search among them finds the place of each key
pub record IsKeyOrder {K : Type 0} (cmp : K → K → Ordering) (keys : List K) (order : List ℕ) : Type 0 where
  pub rises : (d : K) → IsStrictlySortedBy cmp (map (λ p. slice_index_or keys p d) order)
  pub finds : (d q : K) → lookup (λ x. is_eq (cmp q x)) (keyed d keys order) ≡ position (λ x. is_eq (cmp q x)) keys
