-- The instances of the entities of a set, one after the other.
use Rattle.std.proofs.Common.{◌≡◌, ℕ, ◌+◌, [], ◌∷◌, ◌++◌, length, map, ◌∙◌, ap, add-one}
use Rattle.std.proofs.lemmas.List.{length-map, map-append}
use Rattle.edm_values.proofs.TopPlaces.{length-places}
use Rattle.edm_values.specs.Lists.{places}
use Rattle.edm_data.specs.References.{count, entities_in}
use Rattle.edm_data.specs.Worlds.{World, entity_at}
use Rattle.apply_meaning.specs.Instances.{entity_instance, rows}

-- one entity more is one instance more
pub next_rows : (s n : ℕ) → map entity_instance (map (entity_at s) (places (n + 1))) ≡ map entity_instance (map (entity_at s) (places n)) ++ entity_instance (entity_at s n) ∷ []
next_rows s n =
    ap (λ k. map entity_instance (map (entity_at s) (places k))) (add-one n)
    ∙ ap (map entity_instance) (map-append (entity_at s) (places n) (n ∷ []))
    ∙ map-append entity_instance (map (entity_at s) (places n)) (entity_at s n ∷ [])

-- there is an instance for each entity
pub rows-length : (w : World) (s : ℕ) → length (rows w s) ≡ count w s
rows-length w s = length-map (entities_in w s) entity_instance ∙ length-map (places (count w s)) (entity_at s) ∙ length-places (count w s)
