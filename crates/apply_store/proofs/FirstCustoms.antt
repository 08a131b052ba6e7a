-- The custom aggregates of a model: in a row with their types, all with typed readings, and the first that has none.
use Rattle.std.proofs.Common.{◌≡◌, ℕ, zero, suc, ◌+◌, ◌<◌, ◌≤◌, List, [], ◌∷◌, ◌++◌, refl, sym, ap, ◌∙◌, map, take, length, get_or, arith}
use Rattle.std.specs.Prelude.{flat_map, option_map, unwrap_or}
use Rattle.std.specs.List.{enumerate_from}
use Rattle.std.proofs.lemmas.List.{map-append, take_all}
use Rattle.std.proofs.lemmas.Option.{slice_get-get_or}
use Rattle.std.proofs.lemmas.Grind.{flat_map-append}
use Rattle.std.proofs.lemmas.List.{append-nil}
use Rattle.edm_values.specs.Lists.{places}
use Rattle.edm_model.specs.Models.{Custom, EntityType, Model}
use Rattle.edm_model.specs.LookUps.{all_customs, customs_of_type}
use Rattle.edm_model.specs.IdLists.{custom_entry, custom_list, customs_in}
use Rattle.edm_model.proofs.Counted.{enumerate_more, flat_places_more}
use Rattle.context_typing.specs.Typing.{Customs}
use Rattle.custom_readings.proofs.ReadLists.{zipped}
use Rattle.apply_store.specs.CustomReadings.{IsTypedReading, AreCustoms, IsFirstUntyped}
use Rattle.apply_store.specs.FirstCustoms.{owned}

-- where all have typed readings, none is the first without
pub not_both : (m : Model) (c : Customs) (u : ℕ × Custom) → AreCustoms m c → IsFirstUntyped m u → ⊥
not_both m c u all first =
    let r = zipped (IsTypedReading m) first.place (all_customs m) c u all first.stands in
    first.untyped r.0 r.1

-- ---- in a row

map-flat : {A B C : Type 0} (h : B → C) (f : A → List B) (xs : List A) → map h (flat_map f xs) ≡ flat_map (λ x. map h (f x)) xs
map-flat h f [] = refl
map-flat h f (x ∷ xs) = map-append h (f x) (flat_map f xs) ∙ ap (λ l. map h (f x) ++ l) (map-flat h f xs)

entries-owned : (t k : ℕ) (us : List Custom) → map owned (map (custom_entry t) (enumerate_from k us)) ≡ map (λ u. (t, u)) us
entries-owned t k [] = refl
entries-owned t k (u ∷ us) = ap (λ l. (t, u) ∷ l) (entries-owned t (k + 1) us)

abbrev of_type : ℕ × EntityType → List (ℕ × Custom)
of_type t = map (λ u. (t.0, u)) (t.1).customs

no_type : EntityType
no_type = record { name = []; properties = []; key = 0; navigations = []; hierarchies = []; customs = [] }

module _ (m : Model) where
  abbrev at_type : ℕ → List (ℕ × Custom)
  at_type t = map owned (customs_in m t)

  type-owned : (t : ℕ) → t < length m.types → at_type t ≡ of_type (t, get_or m.types t no_type)
  type-owned t within =
      entries-owned t 0 (customs_of_type m t) ∙ ap (λ o. map (λ (u : Custom). (t, u)) (unwrap_or (option_map (λ (e : EntityType). e.customs) o) [])) (slice_get-get_or m.types t no_type within)

  up_to : (k : ℕ) → k ≤ length m.types → flat_map at_type (places k) ≡ flat_map of_type (enumerate_from 0 (take k m.types))
  up_to zero h = refl
  up_to (suc k) h =
      let here : k < length m.types = omega arith in
      let next : suc k ≡ k + 1 = omega arith in
      ap (λ n. flat_map at_type (places n)) next ∙ flat_places_more at_type k
      ∙ (λ i. up_to k (omega arith) i ++ type-owned k here i)
      ∙ ap (λ l. flat_map of_type (enumerate_from 0 (take k m.types)) ++ l) (sym (append-nil (of_type (k, get_or m.types k no_type))))
      ∙ sym (flat_map-append of_type (enumerate_from 0 (take k m.types)) ((k, get_or m.types k no_type) ∷ []))
      ∙ ap (flat_map of_type) (sym (enumerate_more m.types k no_type here))
      ∙ ap (λ n. flat_map of_type (enumerate_from 0 (take n m.types))) (sym next)

  -- the program's row is the model's
  pub customs-owned : map owned (custom_list m) ≡ all_customs m
  customs-owned =
      map-flat owned (customs_in m) (places (length m.types)) ∙ up_to (length m.types) (omega arith)
      ∙ ap (λ ts. flat_map of_type (enumerate_from 0 ts)) (take_all (length m.types) m.types (omega arith))
