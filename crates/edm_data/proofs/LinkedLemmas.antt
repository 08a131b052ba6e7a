-- The references of every set, and what they say of the world.
use Rattle.std.proofs.Common.{◌≡◌, ℕ, ◌<◌, ◌≤◌, false, length, refl, sym, ap, subst, arith, Some, None}
use Rattle.std.specs.List.{find}
use Rattle.edm_data.specs.Worlds.{World, entity_at, all_places}
use Rattle.edm_data.specs.References.{count}
use Rattle.edm_data.specs.Fitting.{FitsModel}
use Rattle.edm_data.specs.Links.{IsFirstDangling}
use Rattle.edm_data.specs.DataFile.{World', Dangling, unless_found, is_dangling, references_reading}
use Rattle.edm_data.specs.Refusals.{Tells}
use Rattle.edm_data.specs.declared.DataRefused.{DataRefused}
use Rattle.edm_data.specs.declared.references.LinksRefused.{LinksRefused}
use Rattle.edm_data.proofs.FirstPlaces.{find-all_places_none, find-all_places_first}
use Rattle.edm_data.proofs.KeyedLemmas.{set_within}

-- no entity of a set refers to a key that is not there
abbrev pub AreSound : World → ℕ → Type 0
AreSound w s = (k : ℕ) → k < count w s → is_dangling w (entity_at s k) ≡ false

-- every reference is found
pub references_sound : (w : World) → FitsModel w → (n : ℕ) → length w.model.sets ≤ n → ((s : ℕ) → s < n → AreSound w s) → references_reading w ≡ World' w
references_sound w fits n all sound =
    let none : find (is_dangling w) (all_places w.entities) ≡ None = find-all_places_none (is_dangling w) w.entities (λ s q h. sound s (omega (arith, set_within w fits s q h)) q h) in
    ap (λ o. unless_found o Dangling (World' w)) none

-- the first reference that is not found
pub references_dangling : (w : World) → (s k : ℕ) → ((j : ℕ) → j < s → AreSound w j) → IsFirstDangling w s k → references_reading w ≡ Dangling (entity_at s k)
references_dangling w s k sound first =
    let found : find (is_dangling w) (all_places w.entities) ≡ Some (entity_at s k) = find-all_places_first (is_dangling w) w.entities s k first.within first.here (λ j q less h. sound j less q h) first.before in
    ap (λ o. unless_found o Dangling (World' w)) found

-- what the refusal of a set's references says of the file
pub Tells-dangling : (w : World) (s : ℕ) (e : LinksRefused) (r : DataRefused) → ((k : ℕ) → e ≡ LinksRefused.Dangling k → r ≡ DataRefused.Dangling s k) → (e ≡ LinksRefused.Memory → r ≡ DataRefused.Memory) → ((j : ℕ) → j < s → AreSound w j) → ((k : ℕ) → e ≡ LinksRefused.Dangling k → IsFirstDangling w s k) → Tells r (references_reading w)
Tells-dangling w s (LinksRefused.Dangling k) r dangling memory sound first = subst (λ x. Tells x (references_reading w)) (sym (dangling k refl)) (references_dangling w s k sound (first k refl))
Tells-dangling w s LinksRefused.Memory r dangling memory sound first = subst (λ x. Tells x (references_reading w)) (sym (memory refl)) tt
