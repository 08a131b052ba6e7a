-- The place of a hierarchy among those of its model, and lists that stand beside them.
use Rattle.std.proofs.Common.{◌≡◌, refl, sym, ◌∙◌, ap, subst, ℕ, zero, suc, ◌+◌, ◌<◌, ◌||◌, Bool, true, false, List, [], ◌∷◌, ◌++◌, length, map, take, get_or, Some, cond}
use Rattle.std.specs.Prelude.{flat_map, position, slice_get}
use Rattle.std.specs.List.{AllZip, list_any, position_from}
use Rattle.std.proofs.lemmas.List.{take_more}
use Rattle.std.proofs.lemmas.List.Folds.{list_any-append}
use Rattle.std.proofs.lemmas.List.Quantifiers.{position-Some}
use Rattle.std.proofs.lemmas.Iterator.Adapters.{position_from-zero}
use Rattle.std.proofs.lemmas.Option.{slice_get-get_or}
use Rattle.edm_values.specs.Lists.{places}
use Rattle.edm_values.proofs.OptionFacts.{none_or, some_value}
use Rattle.edm_values.proofs.PlaceFacts.{any-place}
use Rattle.edm_values.proofs.ListFacts.{AllZip-both}
use Rattle.edm_model.specs.Models.{Model, Part}
use Rattle.edm_model.specs.LookUps.{hierarchies_of_type, parts, IsHierarchy}
use Rattle.edm_model.specs.IdLists.{hierarchy_parts}
use Rattle.context_typing.specs.Readings.{same_part}
use Rattle.context_typing.proofs.CustomFacts.{same_part-is, same_part-itself}

-- ---- tests that an element passes

any-map : {X Y : Type 0} (p : Y → Bool) (f : X → Y) (xs : List X) → list_any p (map f xs) ≡ list_any (λ x. p (f x)) xs
any-map p f [] = refl
any-map p f (x ∷ xs) = ap (λ b. p (f x) || b) (any-map p f xs)

any-flat : {X Y : Type 0} (p : Y → Bool) (f : X → List Y) (xs : List X) → list_any p (flat_map f xs) ≡ list_any (λ x. list_any p (f x)) xs
any-flat p f [] = refl
any-flat p f (x ∷ xs) = list_any-append p (f x) (flat_map f xs) ∙ ap (λ b. list_any p (f x) || b) (any-flat p f xs)

any-position : {X : Type 0} (p : X → Bool) (i : ℕ) (xs : List X) → list_any p xs ≡ true → (k : ℕ) × (position_from p i xs ≡ Some k)
any-position p i [] h = cc
any-position p i (x ∷ xs) h = go (p x) (any-position p (i + 1) xs) h
  where
    go : (b : Bool) → (list_any p xs ≡ true → (k : ℕ) × (position_from p (i + 1) xs ≡ Some k)) → (b || list_any p xs) ≡ true → (k : ℕ) × (cond b (Some i) (position_from p (i + 1) xs) ≡ Some k)
    go true f h = (i, refl)
    go false f h = f h

-- ---- hierarchies

part-among : (m : Model) (id : Part) → IsHierarchy m id → list_any (same_part id) (hierarchy_parts m) ≡ true
part-among m id there =
    let f : ℕ → List Part = λ t. parts t (length (hierarchies_of_type m t)) in
    let make : ℕ → Part = λ k. record { of = id.of; at = k } in
    any-flat (same_part id) f (places (length m.types))
    ∙ any-place (λ t. list_any (same_part id) (f t)) (length m.types) id.of there.0 (any-map (same_part id) make (places (length (hierarchies_of_type m id.of)))
    ∙ any-place (λ k. same_part id (make k)) (length (hierarchies_of_type m id.of)) id.at there.1 (same_part-itself id))

-- a hierarchy of the model has a place among its hierarchies
pub part-place : (m : Model) (id : Part) → IsHierarchy m id → (k : ℕ) × (position (same_part id) (hierarchy_parts m) ≡ Some k) × (slice_get (hierarchy_parts m) k ≡ Some id)
part-place m id there =
    let ps = hierarchy_parts m in
    let k = any-position (same_part id) 0 ps (part-among m id there) in
    let at : position (same_part id) ps ≡ Some k.0 = position_from-zero (same_part id) ps ∙ k.1 in
    let is = position-Some (same_part id) ps k.0 id at in
    (k.0, at, slice_get-get_or ps k.0 id is.0 ∙ ap Some (sym (same_part-is id (get_or ps k.0 id) is.1)))

-- what stands beside an element
pub beside : {A B : Type 0} (P : A → B → Type 0) (k : ℕ) (xs : List A) (ys : List B) (x : A) → AllZip P xs ys → slice_get xs k ≡ Some x → (y : B) × (slice_get ys k ≡ Some y) × P x y
beside P k [] ys x a e = none_or x e
beside P k (x ∷ xs) [] z a e = absurd a
beside P zero (x ∷ xs) (y ∷ ys) z a e = let Q : _ → Type 0 = λ v. P v y in (y, refl, subst Q (some_value e) a.0)
beside P (suc k) (x ∷ xs) (y ∷ ys) z a e = beside P k xs ys z a.1 e

-- one element more on each side
pub beside-more : {A B : Type 0} (P : A → B → Type 0) (xs : List A) (ys zs : List B) (i : ℕ) (x : A) (y : B) → i < length xs → x ≡ get_or xs i x → zs ≡ ys ++ y ∷ [] → AllZip P (take i xs) ys → P x y → AllZip P (take (i + 1) xs) zs
beside-more P xs ys zs i x y within is more h p =
    let taken : take (i + 1) xs ≡ take i xs ++ x ∷ [] = take_more xs i x within ∙ ap (λ z. take i xs ++ z ∷ []) (sym is) in
    let Q : List _ → Type 0 = λ l. AllZip P l (ys ++ y ∷ []) in
    let R : List _ → Type 0 = λ l. AllZip P (take (i + 1) xs) l in
    subst R (sym more) (subst Q (sym taken) (AllZip-both P (take i xs) ys x y h p))
