-- The lists of ids of a model, from what each is made of.
use Rattle.std.proofs.Common.{◌≡◌, ℕ, ◌<◌, ◌==◌, List, map, length, Some, sym, ◌∙◌, ap}
use Rattle.std.specs.Prelude.{flat_map, slice_get, option_map, position, unwrap_or}
use Rattle.std.specs.List.{enumerate_from}
use Rattle.std.proofs.lemmas.Option.{slice_get-map}
use Rattle.edm_values.specs.Lists.{places}
use Rattle.edm_model.specs.Models.{EntityType, EntitySet}
use Rattle.edm_model.specs.LookUps.{parts, list_at}
use Rattle.edm_model.specs.IdLists.{HasIds, custom_entry}
use Rattle.edm_model.specs.declared.parts.Ids.{Ids}
use Rattle.edm_schema.proofs.Counted.{mapped_place}

seen_at : {X Y : Type 0} (items : X → Y) (f : ℕ → Y) (xs : List X) (n t : ℕ) → map items xs ≡ map f (places n) → t < n → option_map items (slice_get xs t) ≡ Some (f t)
seen_at items f xs n t same below = sym (slice_get-map items xs t) ∙ (ap (λ ys. slice_get ys t) same ∙ mapped_place f n t below)

-- the ids hold
pub ids_hold : (ts : List EntityType) (ss : List EntitySet) (ids : Ids) → ids.sets.items ≡ places (length ss) → ids.type_sets.items ≡ map (λ t. unwrap_or (position (λ s. s.of == t) ss) 0) (places (length ts)) → map (λ v. v.items) ids.properties.items ≡ map (λ t. parts t (length (list_at (λ e. e.properties) ts t))) (places (length ts)) → map (λ v. v.items) ids.navigations.items ≡ map (λ t. parts t (length (list_at (λ e. e.navigations) ts t))) (places (length ts)) → ids.hierarchies.items ≡ flat_map (λ t. parts t (length (list_at (λ e. e.hierarchies) ts t))) (places (length ts)) → ids.customs.items ≡ flat_map (λ t. map (custom_entry t) (enumerate_from 0 (list_at (λ e. e.customs) ts t))) (places (length ts)) → HasIds (record { types = ts; sets = ss }) ids
ids_hold ts ss ids sets type_sets properties navigations hierarchies customs = record {
  sets = sets;
  type_sets = λ t below. ap (λ xs. slice_get xs t) type_sets ∙ mapped_place (λ t. unwrap_or (position (λ s. s.of == t) ss) 0) (length ts) t below;
  properties = λ t below. seen_at (λ v. v.items) (λ t. parts t (length (list_at (λ e. e.properties) ts t))) ids.properties.items (length ts) t properties below;
  navigations = λ t below. seen_at (λ v. v.items) (λ t. parts t (length (list_at (λ e. e.navigations) ts t))) ids.navigations.items (length ts) t navigations below;
  hierarchies = hierarchies;
  customs = customs;
}
