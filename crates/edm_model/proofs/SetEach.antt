-- One set for each type, counted on the trees and on the sets of the model.
use Rattle.std.proofs.Common.{◌≡◌, ℕ, ◌+◌, ◌==◌, Bool, true, List, [], ◌∷◌, map, cond, Some, None, refl, sym, ◌∙◌, ap, arith, nat_eq}
use Rattle.std.specs.Prelude.{◌&&◌, Option, unwrap_or, is_some, count_by}
use Rattle.std.specs.List.{list_all}
use Rattle.std.proofs.lemmas.List.Sums.{sum_by-cons}
use Rattle.std.proofs.lemmas.Bool.Decides.{nat_tests}
use Rattle.serde_json.specs.Data.{Data}
use Rattle.edm_values.specs.Lists.{places, exactly_one, is_some_and}
use Rattle.edm_schema.specs.JsonTrees.{Member}
use Rattle.edm_schema.specs.ModelTrees.{is_entity_set, leads_to, type_place}
use Rattle.edm_model.specs.ModelFile.{set_of}
use Rattle.edm_values.proofs.EachLemmas.{and-left, and-right}

leads_same : (k : ℕ) (o : Option ℕ) → is_some o ≡ true → is_some_and (nat_eq k) o ≡ (unwrap_or o 0 == k)
leads_same k None h = cc
leads_same k (Some p) h = grind (arith, nat_tests)

-- a set that leads to a type has its place
pub leads_of : (d : Data) (k : ℕ) (m : Member) → is_entity_set d m.1 ≡ true → leads_to d k m.1 ≡ ((set_of d m).of == k)
leads_of d k m h = leads_same k (type_place d m.1) (and-right _ _ h)

count_same : (d : Data) (k : ℕ) (ms : List Member) → list_all (λ m. is_entity_set d m.1) ms ≡ true → count_by (λ m. leads_to d k m.1) ms ≡ count_by (λ s. s.of == k) (map (set_of d) ms)
count_same d k [] h = refl
count_same d k (m ∷ ms) h =
    sum_by-cons (λ x. cond (leads_to d k x.1) 1 0) m ms ∙ (ap (λ b. cond b 1 0 + count_by (λ x. leads_to d k x.1) ms) (leads_of d k m (and-left _ _ h)) ∙ (ap (λ n. cond ((set_of d m).of == k) 1 0 + n) (count_same d k ms (and-right _ _ h)) ∙ sym (sum_by-cons (λ s. cond (s.of == k) 1 0) (set_of d m) (map (set_of d) ms))))

all_same : (p q : ℕ → Bool) → ((k : ℕ) → p k ≡ q k) → (xs : List ℕ) → list_all p xs ≡ list_all q xs
all_same p q h [] = refl
all_same p q h (x ∷ xs) = ap (λ b. b && list_all p xs) (h x) ∙ ap (λ b. q x && b) (all_same p q h xs)

-- each type has one set among the trees as among the sets
pub set_each_same : (d : Data) (n : ℕ) (ms : List Member) → list_all (λ m. is_entity_set d m.1) ms ≡ true → list_all (λ k. exactly_one (λ m. leads_to d k m.1) ms) (places n) ≡ list_all (λ k. exactly_one (λ s. s.of == k) (map (set_of d) ms)) (places n)
set_each_same d n ms h = all_same (λ k. exactly_one (λ m. leads_to d k m.1) ms) (λ k. exactly_one (λ s. s.of == k) (map (set_of d) ms)) (λ k. ap (λ c. c == 1) (count_same d k ms h)) (places n)
