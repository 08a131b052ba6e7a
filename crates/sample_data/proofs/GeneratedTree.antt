-- The generated file is read as the generated world.
use Rattle.std.proofs.Common.{◌≡◌, ℕ, zero, suc, ◌+◌, ◌/◌, ◌<◌, ◌≤◌, ◌^◌, true, false, ◌||◌, List, [], ◌∷◌, length, map, refl, sym, ◌∙◌, ap, arith, codes, pos, Some, None}
use Rattle.std.proofs.lemmas.Nat.{mod_below}
use Rattle.std.proofs.lemmas.Simd.{map-map}
use Rattle.std.specs.Prelude.{is_none, slice_get, unwrap_or, Option, if◌then◌else◌, ◌==◌, ◌-◌}
use Rattle.serde_json.specs.Data.{Data, depth, items_depth, string}
use Rattle.serde_json.specs.View.{items_of}
use Rattle.serde_json.specs.Written.{has_float, items_have_float}
use Rattle.edm_values.specs.declared.Value.{Value}
use Rattle.edm_values.specs.Lists.{places}
use Rattle.edm_values.specs.Values.{dec}
use Rattle.edm_model.specs.JsonTrees.{object_of, array_of}
use Rattle.edm_model.specs.LookUps.{properties_of}
use Rattle.edm_model.specs.SampleModel.{sample_model}
use Rattle.edm_data.specs.DataFile.{World', Shape, unless_found, with_world, entity_of, is_no_entity, rows_reading, entities_in_tree, keys_reading, references_reading, data_tree_reading}
use Rattle.sample_data.specs.Generator.{customer_count, org_count, drawn, amount, buyer, seller, customer, customer_tree, org, org_name, org_tree, sale, sale_tree, generated_tree, generated_world}
use Rattle.edm_data.proofs.FirstPlaces.{size_at, find-all_places_none}
use Rattle.edm_data.proofs.ShapeLemmas.{item_list-of}
use Rattle.edm_data.proofs.TreeLemmas.{values_of_rows}
use Rattle.sample_data.proofs.EntityTrees.{customer_read, org_read, sale_read}
use Rattle.sample_data.proofs.WorldKeys.{keys_accepted}
use Rattle.sample_data.proofs.WorldReferences.{references_accepted}
use Rattle.edm_values.proofs.PlaceFacts.{map-agree_places}

-- ---- the entities that the file lists

-- a file with these customers, organisations and sales
abbrev tree_of : List Data → List Data → List Data → Data
tree_of customers orgs sales = object_of ((codes "Customers", array_of customers) ∷ (codes "Orgs", array_of orgs) ∷ (codes "Sales", array_of sales) ∷ [])

-- what each item of the file is
abbrev tree_rows : List Data → List Data → List Data → List (List (Option (List Value)))
tree_rows customers orgs sales = map (entity_of (properties_of sample_model 0)) customers ∷ map (entity_of (properties_of sample_model 1)) orgs ∷ map (entity_of (properties_of sample_model 2)) sales ∷ []

tree_entities : (customers orgs sales : List Data) → entities_in_tree sample_model (tree_of customers orgs sales) ≡ rows_reading sample_model (tree_rows customers orgs sales)
tree_entities customers orgs sales = λ i. rows_reading sample_model (tree_rows (item_list-of customers i) (item_list-of orgs i) (item_list-of sales i))

-- ---- items that are entities

held : {X : Type 0} (xs : List X) (q : ℕ) → q < length (map Some xs) → is_none (unwrap_or (slice_get (map Some xs) q) None) ≡ false
held [] q h = absurd (omega arith)
held (x ∷ xs) zero h = refl
held (x ∷ xs) (suc q) h = held xs q (omega arith)

rows_held : (a b c : List (List Value)) → rows_reading sample_model (map Some a ∷ map Some b ∷ map Some c ∷ []) ≡ World' (record { model = sample_model; entities = a ∷ b ∷ c ∷ [] })
rows_held a b c =
    let rows = map Some a ∷ map Some b ∷ map Some c ∷ [] in
    ap (λ o. unless_found o Shape (World' (record { model = sample_model; entities = map (map (λ o. unwrap_or o [])) rows }))) (find-all_places_none (is_no_entity rows) rows none)
    ∙ (λ i. World' (record { model = sample_model; entities = values_of_rows a i ∷ values_of_rows b i ∷ values_of_rows c i ∷ [] }))
  where
    none : (s q : ℕ) → q < size_at (map Some a ∷ map Some b ∷ map Some c ∷ []) s → is_no_entity (map Some a ∷ map Some b ∷ map Some c ∷ []) (record { set = s; at = q }) ≡ false
    none zero q h = held a q h
    none (suc zero) q h = held b q h
    none (suc (suc zero)) q h = held c q h
    none (suc (suc (suc s))) q h = absurd (omega arith)

-- ---- the whole

read_each : (f : Data → Option (List Value)) (tree : ℕ → Data) (row : ℕ → List Value) (n : ℕ) → ((k : ℕ) → k < n → f (tree k) ≡ Some (row k)) → map f (map tree (places n)) ≡ map Some (map row (places n))
read_each f tree row n h = map-map f tree (places n) ∙ map-agree_places (λ k. f (tree k)) (λ k. Some (row k)) n h ∙ sym (map-map Some row (places n))

-- a file of so many customers, organisations and sales
made_world : (c g n : ℕ) (trees : ℕ → Data) (rows : ℕ → List Value) → ((k : ℕ) → k < n → entity_of (properties_of sample_model 2) (trees k) ≡ Some (rows k))
    → entities_in_tree sample_model (tree_of (map customer_tree (places c)) (map org_tree (places g)) (map trees (places n))) ≡ World' (record { model = sample_model; entities = map customer (places c) ∷ map org (places g) ∷ map rows (places n) ∷ [] })
made_world c g n trees rows h =
    tree_entities (map customer_tree (places c)) (map org_tree (places g)) (map trees (places n))
    ∙ (λ i. rows_reading sample_model (read_each (entity_of (properties_of sample_model 0)) customer_tree customer c (λ k less. customer_read k) i ∷ read_each (entity_of (properties_of sample_model 1)) org_tree org g (λ k less. org_read k) i ∷ read_each (entity_of (properties_of sample_model 2)) trees rows n h i ∷ []))
    ∙ rows_held (map customer (places c)) (map org (places g)) (map rows (places n))

-- the generated file is a data file of the generated world
pub generated_is_read : (n : ℕ) → n < 2 ^ 63 → data_tree_reading sample_model (generated_tree n) ≡ World' (generated_world n)
generated_is_read n few =
    let world = made_world customer_count (org_count n) n (λ k. sale_tree n (k + 1)) (λ k. sale n (k + 1)) (λ k less. sale_read n (k + 1) (mod_below (drawn (k + 1)) 10000 (omega arith)) (omega arith)) in
    let keys = keys_accepted customer_count (org_count n) n (λ k. dec (pos (amount (k + 1))) 2) (λ k. buyer (k + 1)) (λ k. seller n (k + 1)) (omega arith) (omega arith) in
    let references = references_accepted customer_count (org_count n) n (λ k. dec (pos (amount (k + 1))) 2) (λ k. buyer (k + 1)) (λ k. seller n (k + 1)) (λ k less. mod_below (drawn (k + 1) / 65536) customer_count (omega arith)) (λ k less. mod_below (drawn (k + 1) / 1024) (org_count n) (omega arith)) in
    ap (λ r. with_world (with_world r keys_reading) references_reading) world ∙ ap (λ r. with_world r references_reading) keys ∙ references

-- ---- its depth

items_depth_most : (f : ℕ → Data) (m n : ℕ) → ((k : ℕ) → depth (f k) ≤ m) → items_depth (items_of (map f (places n))) ≤ m
items_depth_most f m n h = each (places n)
  where
    each : (ks : List ℕ) → items_depth (items_of (map f ks)) ≤ m
    each [] = omega arith
    each (k ∷ ks) = omega (arith, h k, each ks)

org_depth : (j : ℕ) → depth (org_tree j) ≤ 1
org_depth j = elim (j == 0) as (λ b. depth (object_of ((codes "ID", string (org_name j)) ∷ (if b then [] else (codes "ParentID", string (org_name ((j - 1) / 4))) ∷ []))) ≤ 1) [ true ↦ omega arith | false ↦ omega arith ]

pub generated_depth : (n : ℕ) → depth (generated_tree n) ≤ 127
generated_depth n =
    let customers = items_depth_most customer_tree 1 customer_count (λ j. omega arith) in
    let orgs = items_depth_most org_tree 1 (org_count n) org_depth in
    let sales = items_depth_most (λ k. sale_tree n (k + 1)) 1 n (λ k. omega arith) in
    omega (arith, customers, orgs, sales)

-- ---- it has no float

items_whole : (f : ℕ → Data) (n : ℕ) → ((k : ℕ) → has_float (f k) ≡ false) → items_have_float (items_of (map f (places n))) ≡ false
items_whole f n h = each (places n)
  where
    each : (ks : List ℕ) → items_have_float (items_of (map f ks)) ≡ false
    each [] = refl
    each (k ∷ ks) = λ i. h k i || each ks i

org_whole : (j : ℕ) → has_float (org_tree j) ≡ false
org_whole j = elim (j == 0) as (λ b. has_float (object_of ((codes "ID", string (org_name j)) ∷ (if b then [] else (codes "ParentID", string (org_name ((j - 1) / 4))) ∷ []))) ≡ false) [ true ↦ refl | false ↦ refl ]

pub generated_whole : (n : ℕ) → has_float (generated_tree n) ≡ false
generated_whole n =
    λ i. items_whole customer_tree customer_count (λ j. refl) i || (items_whole org_tree (org_count n) org_whole i || (items_whole (λ k. sale_tree n (k + 1)) n (λ k. refl) i || false))
