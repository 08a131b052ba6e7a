-- No key of the generated world stands earlier.
use Rattle.std.proofs.Common.{◌≡◌, ℕ, zero, suc, ◌+◌, ◌<◌, ◌^◌, false, List, [], ◌∷◌, map, take, ◌∙◌, ap, arith, decimal, pos, inl, inr}
use Rattle.std.specs.Prelude.{slice_get, unwrap_or}
use Rattle.std.specs.List.{list_any}
use Rattle.std.proofs.lemmas.Bool.{cases_Bool}
use Rattle.std.proofs.lemmas.Fmt.{decimal_injective}
use Rattle.std.proofs.lemmas.Simd.{map-map}
use Rattle.edm_values.specs.declared.Value.{Value}
use Rattle.edm_values.specs.Lists.{places}
use Rattle.edm_values.specs.Values.{same_value, value_in}
use Rattle.edm_values.specs.OrderLaws.{same_value_is}
use Rattle.edm_model.specs.SampleModel.{sample_model}
use Rattle.edm_data.specs.Worlds.{World}
use Rattle.edm_data.specs.DataFile.{World', TwiceKey, unless_found, has_earlier_key, keys_reading}
use Rattle.sample_data.specs.Generator.{customer, customer_name, org, org_name}
use Rattle.edm_data.proofs.FirstPlaces.{size_at, find-all_places_none}
use Rattle.sample_data.proofs.PlaceLists.{made_length, made_at, made_front, none_made}

-- a sale by its amount, customer and organisation
abbrev pub sale_row : (ℕ → Value) → (ℕ → ℕ) → (ℕ → ℕ) → ℕ → List Value
sale_row amounts buyers sellers k = amounts k ∷ Value.Text (customer_name (buyers k)) ∷ Value.Int (pos (k + 1)) ∷ Value.Text (org_name (sellers k)) ∷ []

-- a world of so many customers, organisations and sales
abbrev pub world_of_sales : ℕ → ℕ → ℕ → (ℕ → Value) → (ℕ → ℕ) → (ℕ → ℕ) → World
world_of_sales c g n amounts buyers sellers = record { model = sample_model; entities = map customer (places c) ∷ map org (places g) ∷ map (sale_row amounts buyers sellers) (places n) ∷ [] }

-- ---- different values

pub differ : (a b : Value) → (a ≡ b → ⊥) → same_value a b ≡ false
differ a b h = elim (cases_Bool (same_value a b)) as (λ s. same_value a b ≡ false) [ inl same ↦ absurd (h (same_value_is a b same)) | inr not ↦ not ]

pub names_differ : (letter i j : ℕ) → i < 2 ^ 64 → j < i → Value.Text (letter ∷ decimal i) ≡ Value.Text (letter ∷ decimal j) → ⊥
names_differ letter i j small less e =
    let digits : decimal i ≡ decimal j = cc in
    let same = decimal_injective i j small (omega arith) digits in
    omega arith

pub numbers_differ : (i j : ℕ) → j < i → Value.Int (pos (i + 1)) ≡ Value.Int (pos (j + 1)) → ⊥
numbers_differ i j less e =
    let same : i + 1 ≡ j + 1 = cc in
    omega arith

-- ---- the keys of a set

no_earlier : (f : ℕ → List Value) (p m q : ℕ) → q < m → ((j : ℕ) → j < q → value_in (f q) p ≡ value_in (f j) p → ⊥)
    → list_any (same_value (value_in (unwrap_or (slice_get (map f (places m)) q) []) p)) (take q (map (λ vs. value_in vs p) (map f (places m)))) ≡ false
no_earlier f p m q h apart =
    (λ i. list_any (same_value (value_in (made_at f [] m q h i) p)) (take q (map-map (λ vs. value_in vs p) f (places m) i)))
    ∙ ap (list_any (same_value (value_in (f q) p))) (made_front (λ k. value_in (f k) p) q m (omega arith))
    ∙ none_made (same_value (value_in (f q) p)) (λ k. value_in (f k) p) q (λ j less. differ (value_in (f q) p) (value_in (f j) p) (apart j less))

module _ (c g n : ℕ) (amounts : ℕ → Value) (buyers sellers : ℕ → ℕ) (few_customers : c < 2 ^ 64) (few_orgs : g < 2 ^ 64) where
  no_earlier_key : (s q : ℕ) → q < size_at ((world_of_sales c g n amounts buyers sellers).entities) s → has_earlier_key (world_of_sales c g n amounts buyers sellers) (record { set = s; at = q }) ≡ false
  no_earlier_key zero q h = let within : q < c = omega (arith, made_length customer c) in no_earlier customer 1 c q within (λ j less. names_differ 67 q j (omega arith) less)
  no_earlier_key (suc zero) q h = let within : q < g = omega (arith, made_length org g) in no_earlier org 0 g q within (λ j less. names_differ 79 q j (omega arith) less)
  no_earlier_key (suc (suc zero)) q h =
      let sold = sale_row amounts buyers sellers in
      let within : q < n = omega (arith, made_length sold n) in no_earlier sold 2 n q within (λ j less. numbers_differ q j less)
  no_earlier_key (suc (suc (suc s))) q h = absurd (omega arith)

  -- the keys of each set differ
  pub keys_accepted : keys_reading (world_of_sales c g n amounts buyers sellers) ≡ World' (world_of_sales c g n amounts buyers sellers)
  keys_accepted =
      let w = world_of_sales c g n amounts buyers sellers in
      ap (λ o. unless_found o TwiceKey (World' w)) (find-all_places_none (has_earlier_key w) w.entities no_earlier_key)
