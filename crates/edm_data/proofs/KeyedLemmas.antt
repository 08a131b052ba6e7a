-- The order of the keys of every set, and what it says of the world.
use Rattle.std.proofs.Common.{◌≡◌, ℕ, ◌+◌, ◌<◌, ◌≤◌, List, [], ◌∷◌, ◌++◌, length, take, map, refl, sym, ◌∙◌, ap, subst, arith, ⊎_elim, Some, None, Result, Ok, Err, IfOk, Vec}
use Rattle.std.specs.declared.alloc.Global.{Global}
use Rattle.std.specs.declared.cmp.Ordering.{Ordering}
use Rattle.std.specs.Option.{option_map, unwrap_or}
use Rattle.std.specs.List.{slice_get, list_any, find}
use Rattle.std.specs.List.Sorted.{IsStrictlySortedBy}
use Rattle.std.specs.Ordering.{is_eq}
use Rattle.std.proofs.lemmas.Bool.{false≢true, cases_lt}
use Rattle.std.proofs.lemmas.List.{length-map}
use Rattle.std.proofs.lemmas.Option.{slice_get-map, slice_get_past, slice_get-get_or}
use Rattle.edm_values.specs.declared.Value.{Value}
use Rattle.edm_values.specs.Values.{value_cmp, value_in}
use Rattle.edm_values.specs.Lists.{is_some_and}
use Rattle.edm_model.specs.LookUps.{key_at}
use Rattle.edm_data.specs.Worlds.{World, entity_at, all_places}
use Rattle.edm_data.specs.References.{entities_of, count, keys_of}
use Rattle.edm_data.specs.Fitting.{FitsModel}
use Rattle.edm_data.specs.KeyOrders.{is_twice, IsFirstTwice, AreDistinct, IsKeyOrder}
use Rattle.edm_data.specs.KeptOrders.{list_at, HasKeyOrders}
use Rattle.edm_data.specs.DataFile.{World', TwiceKey, unless_found, has_earlier_key, keys_reading}
use Rattle.edm_data.specs.Refusals.{Tells}
use Rattle.edm_data.specs.declared.DataRefused.{DataRefused}
use Rattle.edm_data.specs.declared.key_order.KeysRefused.{KeysRefused}
use Rattle.edm_data.proofs.PlaceLemmas.{slice_get-push_before}
use Rattle.edm_data.proofs.FirstPlaces.{find-all_places_none, find-all_places_first}
use Rattle.edm_data.proofs.KeyOrderLemmas.{not_twice-past}
use Rattle.edm_values.proofs.ListFacts.{slice_get-last}

pub IfOk-then : {T E : Type 0} (r : Result T E) (P Q : T → Type 0) → ((x : T) → P x → Q x) → IfOk r P → IfOk r Q
IfOk-then (Ok x) P Q f h = f x h
IfOk-then (Err e) P Q f h = tt

pub key_number : (w : World) (s : ℕ) → length (keys_of w s) ≡ count w s
key_number w s = length-map (entities_of w s) (λ vs. value_in vs (key_at w.model s))

inside_earlier : {X : Type 0} (rows : List X) (f : X → Value) (d : X) (keys : List Value) (k : ℕ) → k < length rows → is_some_and (λ x. list_any (λ y. is_eq (value_cmp x y)) keys) (slice_get (map f rows) k) ≡ list_any (λ y. is_eq (value_cmp (f (unwrap_or (slice_get rows k) d)) y)) keys
inside_earlier rows f d keys k h = rw (slice_get-map f rows k, slice_get-get_or rows k d h) refl

-- an entity whose key stands earlier, in words of the list of keys
earlier_is : (w : World) (s k : ℕ) → k < count w s → is_twice value_cmp (keys_of w s) k ≡ has_earlier_key w (entity_at s k)
earlier_is w s k h = inside_earlier (entities_of w s) (λ vs. value_in vs (key_at w.model s)) [] (take k (keys_of w s)) k h

-- a set that has an entity is one of the model
pub set_within : (w : World) → FitsModel w → (s q : ℕ) → q < count w s → s < length w.model.sets
set_within w fits s q h = ⊎_elim (λ less. less) (λ more. let past : slice_get w.entities s ≡ None = slice_get_past w.entities s (rw fits.sets more) in absurd (let none : count w s ≡ 0 = ap (λ o. length (unwrap_or o [])) past in omega arith)) (cases_lt s (length w.model.sets))

-- the keys differ in each set
pub keys_distinct : (w : World) → FitsModel w → (n : ℕ) → length w.model.sets ≤ n → ((s : ℕ) → s < n → AreDistinct value_cmp (keys_of w s)) → keys_reading w ≡ World' w
keys_distinct w fits n all apart =
    let none : find (has_earlier_key w) (all_places w.entities) ≡ None = find-all_places_none (has_earlier_key w) w.entities (λ s q h. sym (earlier_is w s q h) ∙ apart s (omega (arith, set_within w fits s q h)) q) in
    ap (λ o. unless_found o TwiceKey (World' w)) none

-- the first key that stands earlier
pub keys_twice : (w : World) → FitsModel w → (s k : ℕ) → ((j : ℕ) → j < s → AreDistinct value_cmp (keys_of w j)) → IsFirstTwice value_cmp (keys_of w s) k → keys_reading w ≡ TwiceKey (entity_at s k)
keys_twice w fits s k apart first =
    let within : k < count w s = ⊎_elim (λ less. less) (λ more. absurd (false≢true (sym (not_twice-past value_cmp (keys_of w s) k (rw (key_number w s) more)) ∙ first.here))) (cases_lt k (count w s)) in
    let found : find (has_earlier_key w) (all_places w.entities) ≡ Some (entity_at s k) = find-all_places_first (has_earlier_key w) w.entities s k within (sym (earlier_is w s k within) ∙ first.here) (λ j q less h. sym (earlier_is w j q h) ∙ apart j less q) (λ q h. sym (earlier_is w s q (omega arith)) ∙ first.before q h) in
    ap (λ o. unless_found o TwiceKey (World' w)) found

-- what the refusal of a set's keys says of the file
pub Tells-twice : (w : World) → FitsModel w → (s : ℕ) (e : KeysRefused) (r : DataRefused) → ((k : ℕ) → e ≡ KeysRefused.Twice k → r ≡ DataRefused.TwiceKey s k) → (e ≡ KeysRefused.Memory → r ≡ DataRefused.Memory) → ((j : ℕ) → j < s → AreDistinct value_cmp (keys_of w j)) → ((k : ℕ) → e ≡ KeysRefused.Twice k → IsFirstTwice value_cmp (keys_of w s) k) → Tells r (keys_reading w)
Tells-twice w fits s (KeysRefused.Twice k) r twice memory apart first = subst (λ x. Tells x (keys_reading w)) (sym (twice k refl)) (keys_twice w fits s k apart (first k refl))
Tells-twice w fits s KeysRefused.Memory r twice memory apart first = subst (λ x. Tells x (keys_reading w)) (sym (memory refl)) tt

-- ---- one order more

no_order : (R : Value → Value → Ordering) → IsKeyOrder R [] []
unfolding IsStrictlySortedBy
no_order R = record { rises = λ d. tt; finds = λ d q. refl }

pub list_at-push : {X : Type 0} (old new : Vec (Vec X Global) Global) (xs : Vec X Global) (s : ℕ) → new.items ≡ old.items ++ xs ∷ [] → s < length old.items → list_at new s ≡ list_at old s
list_at-push old new xs s grown h = ap (λ o. unwrap_or (option_map (λ l. l.items) o) []) (ap (λ l. slice_get l s) grown ∙ slice_get-push_before old.items xs s h)

pub list_at-last : {X : Type 0} (old new : Vec (Vec X Global) Global) (xs : Vec X Global) (s : ℕ) → new.items ≡ old.items ++ xs ∷ [] → s ≡ length old.items → list_at new s ≡ xs.items
list_at-last old new xs s grown h = ap (λ o. unwrap_or (option_map (λ l. l.items) o) []) (ap (λ l. slice_get l s) grown ∙ ap (slice_get (old.items ++ xs ∷ [])) h ∙ slice_get-last old.items xs)

-- each set has its order
pub HasKeyOrders-all : (w : World) → FitsModel w → (orders : Vec (Vec ℕ Global) Global) (n : ℕ) → length w.model.sets ≤ n → length orders.items ≡ n → ((s : ℕ) → s < n → IsKeyOrder value_cmp (keys_of w s) (list_at orders s)) → HasKeyOrders w orders
HasKeyOrders-all w fits orders n all size each = record {
  each = λ s. ⊎_elim (λ less. each s less) (λ more.
      let far : length w.model.sets ≤ s = omega (arith, more) in
      let keys : keys_of w s ≡ [] = ap (λ o. map (λ vs. value_in vs (key_at w.model s)) (unwrap_or o [])) (slice_get_past w.entities s (rw fits.sets far)) in
      let past : length orders.items ≤ s = omega (arith, more) in
      let order : list_at orders s ≡ [] = ap (λ o. unwrap_or (option_map (λ xs. xs.items) o) []) (slice_get_past orders.items s past) in
      rw (keys, order) (no_order value_cmp)) (cases_lt s n);
}

-- the orders after one more
pub orders-more : (w : World) (old new : Vec (Vec ℕ Global) Global) (order : Vec ℕ Global) (n : ℕ) → new.items ≡ old.items ++ order ∷ [] → length old.items ≡ n → ((s : ℕ) → s < n → IsKeyOrder value_cmp (keys_of w s) (list_at old s)) → IsKeyOrder value_cmp (keys_of w n) order.items → (s : ℕ) → s < n + 1 → IsKeyOrder value_cmp (keys_of w s) (list_at new s)
orders-more w old new order n grown size each here s h = ⊎_elim
    (λ less. rw (list_at-push old new order s grown (omega (arith, less))) (each s less))
    (λ more. let same : s ≡ n = omega arith in rw (list_at-last old new order s grown (same ∙ sym size), same) here)
    (cases_lt s n)
