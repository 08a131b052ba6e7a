-- Items of a list by their names.
use Rattle.std.proofs.Common.{◌≡◌, ℕ, ◌+◌, Bool, true, false, List, [], ◌∷◌, Some, None, refl, sym, ◌∙◌, ap, cond}
use Rattle.std.specs.Prelude.{Option, option_map, option_and_then, unwrap_or, find, position}
use Rattle.std.specs.List.{enumerate_from, position_from}
use Rattle.std.proofs.lemmas.Iterator.Adapters.{position_from-zero}
use Rattle.edm_values.specs.Lists.{same_text}
use Rattle.edm_model.specs.Models.{EntityType}
use Rattle.edm_model.specs.LookUps.{item_named, found_part}

find_place : {X : Type 0} (test : X → Bool) (i : ℕ) (xs : List X) → option_map {U = ℕ} (λ x. x.0) (find (λ x. test x.1) (enumerate_from i xs)) ≡ position_from test i xs
find_place test i [] = refl
find_place test i (x ∷ xs) = elim (test x) as (λ b. option_map {U = ℕ} (λ x. x.0) (cond b (Some (i, x)) (find (λ x. test x.1) (enumerate_from (i + 1) xs))) ≡ cond b (Some i) (position_from test (i + 1) xs)) [ true ↦ refl | false ↦ find_place test (i + 1) xs ]

-- the place of the item of a name
pub item_place : {X : Type 0} (name : X → List ℕ) (n : List ℕ) (xs : List X) → option_map {U = ℕ} (λ x. x.0) (item_named name n xs) ≡ position (λ x. same_text (name x) n) xs
item_place name n xs = find_place (λ x. same_text (name x) n) 0 xs ∙ sym (position_from-zero (λ x. same_text (name x) n) xs)

part_of_found : {X : Type 0} (t : ℕ) (o : Option (ℕ × X)) → found_part t o ≡ option_map (λ k. record { of = t; at = k }) (option_map {U = ℕ} (λ x. x.0) o)
part_of_found t None = refl
part_of_found t (Some x) = refl

-- the part of a name in one of a type's lists
pub found_place : {X : Type 0} (items : EntityType → List X) (name : X → List ℕ) (n : List ℕ) (t : ℕ) (o : Option EntityType) → found_part t (option_and_then (λ e. item_named name n (items e)) o) ≡ option_map (λ k. record { of = t; at = k }) (position (λ x. same_text (name x) n) (unwrap_or (option_map items o) []))
found_place items name n t None = refl
found_place items name n t (Some e) = part_of_found t (item_named name n (items e)) ∙ ap (option_map (λ k. record { of = t; at = k })) (item_place name n (items e))

-- there is no part of a name that no item has
pub no_found_place : {X : Type 0} (items : EntityType → List X) (name : X → List ℕ) (n : List ℕ) (t : ℕ) (o : Option EntityType) → None ≡ position (λ x. same_text (name x) n) (unwrap_or (option_map items o) []) → None ≡ found_part t (option_and_then (λ e. item_named name n (items e)) o)
no_found_place items name n t o none = ap (option_map (λ k. record { of = t; at = k })) none ∙ sym (found_place items name n t o)
