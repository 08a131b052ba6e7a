-- Elements of a list by their places.
use Rattle.std.proofs.Common.{◌≡◌, ℕ, zero, suc, ◌<◌, List, [], ◌∷◌, length, Some, arith}
use Rattle.std.specs.Prelude.{slice_get, option_map, unwrap_or, false}
use Rattle.edm_model.specs.Models.{Model, Part}
use Rattle.edm_model.specs.LookUps.{navigations_of, IsNavigation}
use Rattle.edm_model.specs.Soundness.{IsReference}

-- what a function gives of the element at a place, which is within the list
pub mapped_within : {X Y : Type 0} (f : X → Y) (xs : List X) (i : ℕ) (y : Y) → option_map f (slice_get xs i) ≡ Some y → i < length xs
mapped_within f [] i y h = cc
mapped_within f (x ∷ xs) zero y h = omega arith
mapped_within f (x ∷ xs) (suc i) y h = omega (arith, mapped_within f xs i y h)

-- the place of a type that has an element in one of its lists is within the list of types
pub within_types : {T X : Type 0} (items : T → List X) (ts : List T) (t k : ℕ) → k < length (unwrap_or (option_map items (slice_get ts t)) []) → t < length ts
within_types items [] t k h = omega arith
within_types items (e ∷ ts) zero k h = omega arith
within_types items (e ∷ ts) (suc t) k h = omega (arith, within_types items ts t k h)

-- a reference is a navigation of the model
pub reference_is_navigation : (m : Model) (n : Part) (t : ℕ) → IsReference m n t → IsNavigation m n
reference_is_navigation m n t h =
    let inside = mapped_within (λ v. v.many) (navigations_of m n.of) n.at false h.0 in
    (within_types (λ e. e.navigations) m.types n.of n.at inside, inside)
