-- The ids that a model lists are there.
use Rattle.std.proofs.Common.{◌≡◌, ℕ, zero, suc, ◌+◌, ◌<◌, List, [], ◌∷◌, length, arith}
use Rattle.std.specs.List.{All, enumerate_from}
use Rattle.std.proofs.lemmas.List.Elements.{All-nil, All-cons, All-append, All-map, All-weaker}
use Rattle.edm_values.specs.Lists.{places}
use Rattle.edm_model.specs.Models.{Model, Part, Custom as ModelCustom}
use Rattle.edm_model.specs.LookUps.{parts, hierarchies_of_type, customs_of_type, IsType, IsHierarchy, IsCustom}
use Rattle.edm_model.specs.IdLists.{hierarchy_parts, custom_list, custom_entry, customs_in}
use Rattle.edm_model.specs.declared.parts.Custom.{Custom}
use Rattle.edm_values.proofs.PlaceFacts.{All-flat_map_below}

-- the places of a list are within it
pub places_within : (n : ℕ) → All (λ k. k < n) (places n)
places_within zero = All-nil (λ k. k < 0)
places_within (suc n) =
    All-append (λ k. k < suc n) (places n) (n ∷ []) (All-weaker (λ k. k < n) (λ k. k < suc n) (λ k below. omega arith) (places n) (places_within n)) (All-cons (λ k. k < suc n) n [] (omega arith) (All-nil (λ k. k < suc n)))

-- what holds of each place below a number holds of each of so many parts of a type
pub parts_there : (P : Part → Type 0) (t n : ℕ) → ((k : ℕ) → k < n → P (record { of = t; at = k })) → All P (parts t n)
parts_there P t n h =
    All-map P (λ k. record { of = t; at = k }) (places n) (All-weaker (λ k. k < n) (λ k. P (record { of = t; at = k })) h (places n) (places_within n))

-- all hierarchies are there
pub all_parts_there : (m : Model) → All (IsHierarchy m) (hierarchy_parts m)
all_parts_there m = All-flat_map_below (IsHierarchy m) (λ t. parts t (length (hierarchies_of_type m t))) (length m.types) type_parts (places (length m.types)) (places_within (length m.types))
  where
    type_parts : (t : ℕ) → IsType m t → All (IsHierarchy m) (parts t (length (hierarchies_of_type m t)))
    type_parts t is = parts_there (IsHierarchy m) t (length (hierarchies_of_type m t)) (λ k below. (is, below))

numbered : {X : Type 0} (i n : ℕ) (xs : List X) → i + length xs ≡ n → All (λ x. x.0 < n) (enumerate_from i xs)
numbered i n [] h = All-nil (λ x. x.0 < n)
numbered i n (x ∷ xs) h = All-cons (λ x. x.0 < n) (i, x) (enumerate_from (i + 1) xs) (omega arith) (numbered (i + 1) n xs (omega arith))

-- all custom aggregates are there
pub all_customs_there : (m : Model) → All (λ c. IsCustom m c.id) (custom_list m)
all_customs_there m = All-flat_map_below here (customs_in m) (length m.types) of_type (places (length m.types)) (places_within (length m.types))
  where
    here : Custom → Type 0
    here c = IsCustom m c.id

    of_type : (t : ℕ) → IsType m t → All here (customs_in m t)
    of_type t is =
        let n = length (customs_of_type m t) in
        let below : ℕ × ModelCustom → Type 0 = λ c. c.0 < n in
        All-map here (custom_entry t) (enumerate_from 0 (customs_of_type m t)) (All-weaker below (λ c. here (custom_entry t c)) (λ c within. (is, within)) (enumerate_from 0 (customs_of_type m t)) (numbered 0 n (customs_of_type m t) (omega arith)))
