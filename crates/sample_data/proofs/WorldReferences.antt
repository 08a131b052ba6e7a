-- No reference of the generated world leads nowhere.
use Rattle.std.proofs.Common.{◌≡◌, ℕ, zero, suc, ◌-◌, ◌/◌, ◌<◌, ◌==◌, Bool, true, false, not, ◌&&◌, ◌||◌, List, [], map, refl, ◌∙◌, ap, arith, Some, None, inl, inr}
use Rattle.std.specs.Prelude.{if◌then◌else◌, position, is_none, option_map, Option}
use Rattle.std.proofs.lemmas.Bool.{cases_Bool, eqb-false}
use Rattle.std.proofs.lemmas.Simd.{map-map}
use Rattle.edm_values.specs.declared.Value.{Value}
use Rattle.edm_values.specs.Lists.{places}
use Rattle.edm_values.specs.Values.{is_null, same_value, value_in}
use Rattle.edm_values.specs.OrderLaws.{same_value_itself}
use Rattle.edm_data.specs.Worlds.{entity_at}
use Rattle.edm_data.specs.DataFile.{World', Dangling, unless_found, is_dangling, references_reading}
use Rattle.sample_data.specs.Generator.{customer, customer_name, org, org_name}
use Rattle.edm_data.proofs.FirstPlaces.{size_at, find-all_places_none}
use Rattle.sample_data.proofs.PlaceLists.{made_length, made_at, found_made}
use Rattle.sample_data.proofs.WorldKeys.{sale_row, world_of_sales}

-- a value that is not null is none of these keys of a set
abbrev is_lost : ℕ → List Value → Value → Bool
is_lost set keys v = not (is_null v) && is_none (if is_null v then None else option_map (entity_at set) (position (same_value v) keys))

-- the keys of a set
abbrev keys : (ℕ → List Value) → ℕ → ℕ → List Value
keys f p m = map (λ vs. value_in vs p) (map f (places m))

mapped_some : {X Y : Type 0} (f : X → Y) (o : Option X) → is_none o ≡ false → is_none (option_map f o) ≡ false
mapped_some f None h = h
mapped_some f (Some x) h = refl

-- the text is the key of an entity
found : (f : ℕ → List Value) (p m k set : ℕ) (t : List ℕ) → k < m → value_in (f k) p ≡ Value.Text t → is_lost set (keys f p m) (Value.Text t) ≡ false
found f p m k set t h is =
    let passes : same_value (Value.Text t) (value_in (f k) p) ≡ true = ap (same_value (Value.Text t)) is ∙ same_value_itself (Value.Text t) in
    mapped_some (entity_at set) (position (same_value (Value.Text t)) (keys f p m)) (ap (λ ks. is_none (position (same_value (Value.Text t)) ks)) (map-map (λ vs. value_in vs p) f (places m)) ∙ found_made (same_value (Value.Text t)) (λ j. value_in (f j) p) m k h passes)

parent_found : (g q : ℕ) → q < g → is_lost 1 (keys org 0 g) (value_in (org q) 1) ≡ false
parent_found g q h = elim (cases_Bool (q == 0)) as (λ b. is_lost 1 (keys org 0 g) (value_in (org q) 1) ≡ false) [
  | inl root ↦ ap (λ b. is_lost 1 (keys org 0 g) (if b then Value.Null else Value.Text (org_name ((q - 1) / 4)))) root
  | inr other ↦ (let some : q ≡ 0 → ⊥ = eqb-false q 0 other in
      let above : (q - 1) / 4 < g = omega arith in
      ap (λ b. is_lost 1 (keys org 0 g) (if b then Value.Null else Value.Text (org_name ((q - 1) / 4)))) other ∙ found org 0 g ((q - 1) / 4) 1 (org_name ((q - 1) / 4)) above refl)
]

module _ (c g n : ℕ) (amounts : ℕ → Value) (buyers sellers : ℕ → ℕ) (bought : (k : ℕ) → k < n → buyers k < c) (sold : (k : ℕ) → k < n → sellers k < g) where
  none_dangles : (s q : ℕ) → q < size_at ((world_of_sales c g n amounts buyers sellers).entities) s → is_dangling (world_of_sales c g n amounts buyers sellers) (record { set = s; at = q }) ≡ false
  none_dangles zero q h = refl
  none_dangles (suc zero) q h =
      let within : q < g = omega (arith, made_length org g) in
      ap (λ vs. is_lost 1 (keys org 0 g) (value_in vs 1) || false) (made_at org [] g q within) ∙ ap (λ b. b || false) (parent_found g q within)
  none_dangles (suc (suc zero)) q h =
      let row = sale_row amounts buyers sellers in
      let within : q < n = omega (arith, made_length row n) in
      let customer_there = found customer 1 c (buyers q) 0 (customer_name (buyers q)) (bought q within) refl in
      let org_there = found org 0 g (sellers q) 1 (org_name (sellers q)) (sold q within) refl in
      ap (λ vs. is_lost 0 (keys customer 1 c) (value_in vs 1) || (is_lost 1 (keys org 0 g) (value_in vs 3) || false)) (made_at row [] n q within) ∙ (λ i. customer_there i || (org_there i || false))
  none_dangles (suc (suc (suc s))) q h = absurd (omega arith)

  -- every reference leads to an entity
  pub references_accepted : references_reading (world_of_sales c g n amounts buyers sellers) ≡ World' (world_of_sales c g n amounts buyers sellers)
  references_accepted =
      let w = world_of_sales c g n amounts buyers sellers in
      ap (λ o. unless_found o Dangling (World' w)) (find-all_places_none (is_dangling w) w.entities none_dangles)
