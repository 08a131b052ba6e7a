-- What an entity refers to, by what the model says of a navigation.
use Rattle.std.proofs.Common.{◌≡◌, ℕ, zero, suc, ◌<◌, List, [], ◌∷◌, length, get_or, refl, sym, ◌∙◌, ap, arith, Some, None}
use Rattle.std.proofs.lemmas.List.{length-map, get_or-map}
use Rattle.edm_values.specs.Lists.{places}
use Rattle.edm_values.proofs.TopPlaces.{length-places}
use Rattle.edm_data.proofs.PlaceLemmas.{get_or-places}
use Rattle.std.specs.declared.option.Option.{Option}
use Rattle.std.specs.Option.{option_map, option_and_then, unwrap_or}
use Rattle.std.specs.List.{slice_get}
use Rattle.edm_model.specs.Models.{Model, EntitySet, EntityType, Part}
use Rattle.edm_model.specs.LookUps.{type_at, type_of_set, set_type, navigation_at, navigation_on, navigations_of, parts, IsSet, IsType, IsNavigation}
use Rattle.edm_data.specs.References.{navigations_in}

-- the type of a set, by its place among the types
pub type_same : (m : Model) (s : ℕ) → IsSet m s → type_at m (set_type m s) ≡ type_of_set m s
type_same m s there = types m.sets (type_at m) s there where
  types : {T : Type 0} (sets : List EntitySet) (type : ℕ → Option T) (s : ℕ) → s < length sets → type (unwrap_or (option_map (λ es. es.of) (slice_get sets s)) 0) ≡ option_and_then (λ es. type es.of) (slice_get sets s)
  types [] type s h = absurd (omega arith)
  types (e ∷ es) type zero h = refl
  types (e ∷ es) type (suc s) h = types es type s (omega arith)

-- the navigations of a set's type
pub navs_same : (m : Model) (s : ℕ) → IsSet m s → navigations_of m (set_type m s) ≡ navigations_in m s
navs_same m s there = ap (λ o. unwrap_or (option_map (λ t. t.navigations) o) []) (type_same m s there)

-- a navigation at its place
pub nav_at : (m : Model) (s k : ℕ) → navigation_at m s k ≡ slice_get (navigations_in m s) k
nav_at m s k = inside (type_of_set m s) where
  inside : (o : Option EntityType) → option_and_then (λ t. slice_get t.navigations k) o ≡ slice_get (unwrap_or (option_map (λ t. t.navigations) o) []) k
  inside None = refl
  inside (Some t) = refl

pub nav_same : (m : Model) (s : ℕ) (n : Part) → IsSet m s → n.of ≡ set_type m s → navigation_on m n ≡ navigation_at m s n.at
nav_same m s n there of = ap (λ t. slice_get (navigations_of m t) n.at) of ∙ ap (λ l. slice_get l n.at) (navs_same m s there) ∙ sym (nav_at m s n.at)

-- ---- the navigations of an entity's type, one after another

-- an element of the list of a type's navigations
pub record IsNavAt (m : Model) (s i : ℕ) (n : Part) : Type 0 where
  pub of : n.of ≡ set_type m s
  pub there : IsNavigation m n
  pub at : n.at ≡ i

pub part_number : (items : List Part) (t n : ℕ) → items ≡ parts t n → length items ≡ n
part_number items t n are = ap length are ∙ length-map (places n) (λ k. record { of = t; at = k }) ∙ length-places n

pub part_is : (items : List Part) (t n i : ℕ) (x : Part) → items ≡ parts t n → i < length items → x ≡ get_or items i x → x ≡ record { of = t; at = i }
part_is items t n i x are within item =
    let size : length items ≡ n = ap length are ∙ length-map (places n) (λ k. record { of = t; at = k }) ∙ length-places n in
    let inside : i < n = omega arith in
    let first : i < length (places n) = rw (length-places n) inside in
    item ∙ ap (λ l. get_or l i x) are ∙ get_or-map (λ k. record { of = t; at = k }) (places n) i 0 x first ∙ ap (λ k. record { of = t; at = k }) (get_or-places n i 0 inside)

pub nav_number : (m : Model) (s : ℕ) (items : List Part) → IsSet m s → items ≡ parts (set_type m s) (length (navigations_of m (set_type m s))) → length items ≡ length (navigations_in m s)
nav_number m s items there are =
    ap length are ∙ length-map (places (length (navigations_of m (set_type m s)))) (λ k. record { of = set_type m s; at = k }) ∙ length-places (length (navigations_of m (set_type m s))) ∙ ap length (navs_same m s there)

pub nav_item : (m : Model) (s : ℕ) (items : List Part) (i : ℕ) (x : Part) → IsType m (set_type m s) → items ≡ parts (set_type m s) (length (navigations_of m (set_type m s))) → i < length items → x ≡ get_or items i x → IsNavAt m s i x
nav_item m s items i x type are within item =
    let n = length (navigations_of m (set_type m s)) in
    let is : x ≡ record { of = set_type m s; at = i } = part_is items (set_type m s) n i x are within item in
    let size : length items ≡ n = ap length are ∙ length-map (places n) (λ k. record { of = set_type m s; at = k }) ∙ length-places n in
    record {
      of = ap (λ q. q.of) is;
      there = rw is (type, rw size at within);
      at = ap (λ q. q.at) is;
    }
