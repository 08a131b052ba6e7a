-- Entities read from JSON, property by property and member by member.
use Rattle.std.proofs.Common.{◌≡◌, ℕ, zero, suc, ◌+◌, ◌<◌, ◌≤◌, List, [], ◌∷◌, ◌++◌, length, take, map, get_or, refl, sym, ◌∙◌, ap, Some, None, IsTrue, add-one}
use Rattle.std.proofs.lemmas.List.{map-append, take_all}
use Rattle.std.proofs.lemmas.Option.{slice_get-map}
use Rattle.std.specs.declared.option.Option.{Option}
use Rattle.std.specs.Option.{option_map, is_some}
use Rattle.std.specs.List.{list_any, slice_get, position}
use Rattle.edm_values.specs.Lists.{all_some, same_text}
use Rattle.edm_values.specs.declared.EdmType.{EdmType}
use Rattle.edm_model.specs.Models.{Property, Model, Part}
use Rattle.edm_model.specs.LookUps.{property_at, property_named, found_part, properties_of, type_at, parts, IsType, IsProperty}
use Rattle.edm_model.specs.Soundness.{IsSound, is_declared_kind}
use Rattle.edm_model.proofs.FoundByName.{found_place}
use Rattle.edm_data.proofs.ReferenceLemmas.{part_is, part_number}
use Rattle.edm_values.proofs.OptionFacts.{is_some-option_map}
use Rattle.edm_values.proofs.SearchFacts.{is_some-position}

-- a property of a sound model has a declared type
pub kind_declared : (m : Model) (p : Part) (k : EdmType) → IsSound m → option_map (λ q. q.kind) (property_at m p) ≡ Some k → IsTrue (is_declared_kind k)
kind_declared m p k sound is = inside (property_at m p) refl is where
  inside : (o : Option Property) → property_at m p ≡ o → option_map (λ q. q.kind) o ≡ Some k → IsTrue (is_declared_kind k)
  inside None at h = cc
  inside (Some q) at h = let same : q.kind ≡ k = cc in rw same at (sound.kinds p q at)

-- there is a property of this name
pub prop_is_named : (m : Model) (t : ℕ) (n : List ℕ) → is_some (found_part t (property_named m t n)) ≡ list_any (λ p. same_text p.name n) (properties_of m t)
prop_is_named m t n =
    ap is_some (found_place (λ e. e.properties) (λ p. p.name) n t (type_at m t))
    ∙ is_some-option_map (λ k. record { of = t; at = k }) (position (λ p. same_text p.name n) (properties_of m t))
    ∙ is_some-position (λ p. same_text p.name n) (properties_of m t)

-- ---- values of all properties

-- what options hold, in front of which so many hold something
pub all_some-none : {X : Type 0} (os : List (Option X)) (i : ℕ) → slice_get os i ≡ Some None → all_some os ≡ None
all_some-none [] i h = cc
all_some-none (None ∷ os) i h = refl
all_some-none (Some x ∷ os) zero h = cc
all_some-none (Some x ∷ os) (suc i) h = rw (all_some-none os i h) refl

pub all_some-map : {X : Type 0} (xs : List X) → all_some (map Some xs) ≡ Some xs
all_some-map [] = refl
all_some-map (x ∷ xs) = rw (all_some-map xs) refl

-- ---- the properties of a type, one after another

-- the property at a place of the type's list
pub record IsPropAt (m : Model) (t i : ℕ) (p : Part) : Type 0 where
  pub there : IsProperty m p
  pub found : property_at m p ≡ slice_get (properties_of m t) i

pub prop_item : (m : Model) (t : ℕ) (items : List Part) (i : ℕ) (x : Part) → IsType m t → items ≡ parts t (length (properties_of m t)) → i < length items → x ≡ get_or items i x → IsPropAt m t i x
prop_item m t items i x type are within item =
    let n = length (properties_of m t) in
    let is : x ≡ record { of = t; at = i } = part_is items t n i x are within item in
    let size : length items ≡ n = part_number items t n are in
    record { there = rw is (type, rw size at within); found = ap (property_at m) is }

-- the values of one property more
pub values-more : {P V : Type 0} (f : P → Option V) (ps : List P) (i : ℕ) (old new : List V) (v : V) → new ≡ old ++ v ∷ [] → option_map f (slice_get ps i) ≡ Some (Some v) → map Some old ≡ map f (take i ps) → map Some new ≡ map f (take (i + 1) ps)
values-more f ps i old new v grown here before = rw (grown, map-append Some old (v ∷ []), before, add-one) (front f ps i v here) where
  front : {P V : Type 0} (f : P → Option V) (ps : List P) (i : ℕ) (v : V) → option_map f (slice_get ps i) ≡ Some (Some v) → map f (take i ps) ++ Some v ∷ [] ≡ map f (take (suc i) ps)
  front f [] i v here = cc
  front f (p ∷ ps) zero v here = let is : f p ≡ Some v = cc in rw is refl
  front f (p ∷ ps) (suc i) v here = ap (λ l. f p ∷ l) (front f ps i v here)

-- the values of all properties
pub values-all : {P V : Type 0} (f : P → Option V) (ps : List P) (i : ℕ) (vs : List V) → length ps ≤ i → map Some vs ≡ map f (take i ps) → Some vs ≡ all_some (map f ps)
values-all f ps i vs all is = sym (all_some-map vs) ∙ ap all_some (is ∙ ap (map f) (take_all i ps all))

-- a property whose value is none of it
pub values-none : {P V : Type 0} (f : P → Option V) (ps : List P) (i : ℕ) → option_map f (slice_get ps i) ≡ Some None → None ≡ all_some (map f ps)
values-none f ps i here = sym (all_some-none (map f ps) i (slice_get-map f ps i ∙ here))

-- ---- the items of a set, one after another

-- each of the rows is what its item is
pub row_read : {X R : Type 0} (f : X → Option (List R)) (items : List X) (rows : List (List R)) → map Some rows ≡ map f items → (k : ℕ) (r : List R) → slice_get rows k ≡ Some r → option_map f (slice_get items k) ≡ Some (Some r)
row_read f items rows is k r h = sym (slice_get-map f items k) ∙ ap (λ l. slice_get l k) (sym is) ∙ slice_get-map Some rows k ∙ ap (option_map Some) h
