-- An entity that has a key is the one that is found by it, since the keys of a set differ.
use Rattle.std.proofs.Common.{◌≡◌, ℕ, zero, suc, ◌<◌, Bool, true, false, List, [], ◌∷◌, length, take, map, get_or, refl, sym, ◌∙◌, ap, arith, ⊎_elim, Option, Some, None}
use Rattle.std.specs.Option.{option_map, unwrap_or, is_some}
use Rattle.std.specs.List.{slice_get, find, list_any, position}
use Rattle.std.proofs.lemmas.Bool.{cases_lt, false≢true}
use Rattle.std.proofs.lemmas.List.{length-map, length-take, get_or-take}
use Rattle.std.proofs.lemmas.List.Folds.{list_any_at}
use Rattle.std.proofs.lemmas.List.Quantifiers.{position-Some}
use Rattle.edm_values.specs.declared.Value.{Value}
use Rattle.edm_values.specs.Values.{same_value, value_in}
use Rattle.edm_values.specs.OrderLaws.{same_value_is, same_value_itself}
use Rattle.edm_model.specs.LookUps.{key_at}
use Rattle.edm_data.specs.DataFile.{World', TwiceKey, unless_found, has_earlier_key, keys_reading}
use Rattle.edm_data.specs.References.{by_key, count, entities_of, key, keys_of}
use Rattle.edm_data.specs.Worlds.{World, Entity, entity_at, all_places}
use Rattle.edm_data.proofs.FirstPlaces.{none-in_all_places}
use Rattle.edm_values.proofs.SearchFacts.{is_some-position}

-- ---- the first place that passes

first-place : {X : Type 0} (p : X → Bool) (xs : List X) (k : ℕ) (d : X) → k < length xs → p (get_or xs k d) ≡ true → list_any p (take k xs) ≡ false → position p xs ≡ Some k
first-place {X = X} p xs k d less here before = go (position p xs) refl
  where
    go : (o : Option ℕ) → position p xs ≡ o → position p xs ≡ Some k
    go None e = absurd (false≢true (sym (ap is_some e) ∙ is_some-position p xs ∙ list_any_at p xs k d less here))
    go (Some j) e =
        let r = position-Some p xs j d e in
        let below = r.0 in
        let found = r.1 in
        let earlier = r.2 in
        ⊎_elim
        (λ j-less. absurd (false≢true (sym before ∙ list_any_at p (take k xs) j d (let size = length-take k xs in omega (arith, size)) (ap p (get_or-take k xs j d j-less) ∙ found))))
        (λ j-more. ⊎_elim (λ k-less. absurd (false≢true (sym (earlier k k-less) ∙ here))) (λ k-more. let same : j ≡ k = omega arith in e ∙ ap Some same) (cases_lt k j))
        (cases_lt j k)

-- ---- keys

no-fault : (o : Option Entity) (w : World) → unless_found o TwiceKey (World' w) ≡ World' w → o ≡ None
no-fault None w h = refl
no-fault (Some e) w h = absurd cc

-- the key of an entity at a place of the list of keys
pub key-here : {X : Type 0} (xs : List X) (f : X → Value) (e d : X) (k : ℕ) → k < length xs → get_or (map f xs) k (f d) ≡ f (unwrap_or (slice_get xs k) e)
key-here [] f e d k less = absurd (omega arith)
key-here (x ∷ xs) f e d zero less = refl
key-here (x ∷ xs) f e d (suc k) less = key-here xs f e d k (omega arith)

-- the entity at a place whose key is this value is found by it
pub found-by-key : (w : World) (s k : ℕ) (v : Value) → keys_reading w ≡ World' w → k < count w s → same_value v (key w (entity_at s k)) ≡ true → by_key w s v ≡ Some (entity_at s k)
found-by-key w s k v distinct less same =
    let f : List Value → Value = λ vs. value_in vs (key_at w.model s) in
    let own = key w (entity_at s k) in
    let is : v ≡ own = same_value_is v own same in
    let none : find (has_earlier_key w) (all_places w.entities) ≡ None = no-fault (find (has_earlier_key w) (all_places w.entities)) w distinct in
    let before : list_any (same_value own) (take k (keys_of w s)) ≡ false = none-in_all_places (has_earlier_key w) w.entities none s k less in
    let here : same_value own (get_or (keys_of w s) k (f [])) ≡ true = ap (same_value own) (key-here (entities_of w s) f [] [] k less) ∙ same_value_itself own in
    let there : k < length (keys_of w s) = let size = length-map (entities_of w s) f in omega (arith, size, less) in
    ap (by_key w s) is ∙ ap (option_map (entity_at s)) (first-place (same_value own) (keys_of w s) k (f []) there here before)
