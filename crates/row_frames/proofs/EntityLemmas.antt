-- Entities of a set that are picked in a table of all of them.
use Rattle.std.proofs.Common.{◌≡◌, ℕ, ◌<◌, ◌∙◌, ap, refl, List, [], ◌∷◌, map}
use Rattle.std.specs.List.{All}
use Rattle.std.proofs.lemmas.List.Elements.{All-map}
use Rattle.edm_data.specs.Worlds.{entity_at}
use Rattle.apply_meaning.specs.Instances.{entity_instance}
use Rattle.row_frames.specs.declared.tables.Pick.{Pick}
use Rattle.row_frames.specs.declared.tables.Table.{Table}
use Rattle.row_frames.specs.Frames.{all_picked, first_pick, instance_at, picked}
use Rattle.row_frames.specs.Related.{placed}

-- the instances of the entities at these places
pub entities-picked : (s : ℕ) (ks : List ℕ) (t : Table) (ts : List Table) (xs : List Pick) → ts ≡ t ∷ [] → xs ≡ map first_pick ks → ((k : ℕ) → instance_at t k ≡ entity_instance (entity_at s k))
    → all_picked ts xs ≡ map (placed s) ks
entities-picked s ks t ts xs e f h = ap (λ y. all_picked y xs) e ∙ ap (all_picked (t ∷ [])) f ∙ go ks
  where
    go : (ks : List ℕ) → map (picked (t ∷ [])) (map first_pick ks) ≡ map (placed s) ks
    go [] = refl
    go (k ∷ ks) = ap (λ y. y ∷ map (picked (t ∷ [])) (map first_pick ks)) (h k) ∙ ap (λ l. placed s k ∷ l) (go ks)

-- the table is there
pub entities-within : (m : ℕ) (ks : List ℕ) → 0 < m → All (λ (x : Pick). x.table < m) (map first_pick ks)
entities-within m ks z = All-map (λ (x : Pick). x.table < m) first_pick ks (λ k d h. z)
