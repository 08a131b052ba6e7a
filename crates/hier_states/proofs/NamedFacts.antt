-- The hierarchies that names mean, by their ids and by their places.
use Rattle.std.proofs.Common.{◌≡◌, refl, sym, ◌∙◌, ap, subst, ℕ, ◌<◌, [], length, Option, Some, None, inl, inr}
use Rattle.std.specs.Prelude.{option_map, option_and_then, slice_get, find, unwrap_or}
use Rattle.std.proofs.lemmas.List.Quantifiers.{position-Some}
use Rattle.std.proofs.lemmas.Option.{slice_get_within}
use Rattle.edm_values.specs.Lists.{same_text}
use Rattle.edm_values.specs.Names.{Name}
use Rattle.edm_values.proofs.OptionFacts.{chained, none_or, option_cases, some_value}
use Rattle.edm_values.proofs.SearchFacts.{find-numbered}
use Rattle.edm_values.proofs.TopPlaces.{element-there}
use Rattle.edm_model.specs.Models.{Model, Part, Property, Hierarchy, EntityType, EntitySet}
use Rattle.edm_model.specs.LookUps.{item_named, found_part, hierarchy_of_type_named, hierarchy_on, hierarchies_of_type, set_named, set_type, set_of_type, type_of_set, key_of, placed, HierarchyPlace, IsHierarchy, IsSet}
use Rattle.edm_model.specs.Soundness.{IsSound}
use Rattle.edm_data.specs.Worlds.{World}
use Rattle.edm_data.specs.Nodes.{parents_by, parents_of}
use Rattle.apply_ast.specs.Trees.{HierName}
use Rattle.context_typing.specs.Typing.{hierarchy_at}
use Rattle.context_typing.proofs.LookUpFacts.{named_at, type_of_set-there}
use Rattle.hier_index.specs.Parents.{hierarchy_parents}
use Rattle.hier_states.specs.States.{hierarchy_id}

-- ---- parts of lists

set-there : (m : Model) (n : Name) (s : ℕ) → set_named m n ≡ Some s → IsSet m s
set-there m n s e = let d : EntitySet = record { name = []; of = 0 } in (position-Some (λ x. same_text x.name n) m.sets s d e).0

part-found : {X : Type 0} (t : ℕ) (o : Option (ℕ × X)) (p : Part) → found_part t o ≡ Some p → (y : ℕ × X) × (o ≡ Some y) × (p.of ≡ t) × (p.at ≡ y.0)
part-found t None p e = none_or p e
part-found t (Some y) p e = let s = some_value e in (y, refl, sym (ap (λ q. q.of) s), sym (ap (λ q. q.at) s))

-- ---- hierarchies of a type

-- what a set, its type and a hierarchy of the type give
abbrev place-from : ℕ → ℕ → Name → Option EntityType → Option HierarchyPlace
place-from s t q o =
    option_and_then (λ e. option_and_then (λ h. option_and_then (λ e. option_map {U = HierarchyPlace} (λ k. record { set = s; type = t; key = k; hierarchy = h }) (slice_get e.properties e.key)) o) (find (λ h. same_text h.qualifier q) e.hierarchies)) o

place-is : (m : Model) (h : HierName) (s : ℕ) → set_named m h.set ≡ Some s → hierarchy_at m h ≡ place-from s (set_type m s) h.qualifier (slice_get m.types (set_type m s))
place-is m h s e =
    ap (λ o. option_and_then (λ s. option_and_then (λ t. option_and_then (placed m s) (find (λ x. same_text x.qualifier h.qualifier) t.hierarchies)) (type_of_set m s)) o) e
    ∙ ap (place-from s (set_type m s) h.qualifier) (type_of_set-there m s (set-there m h.set s e))

placed-there : (s t : ℕ) (q : Name) (o : Option EntityType) (y : ℕ × Hierarchy) (p : Property) → option_and_then (λ e. item_named (λ h. h.qualifier) q e.hierarchies) o ≡ Some y
    → slice_get (unwrap_or (option_map (λ e. e.properties) o) []) (unwrap_or (option_map (λ e. e.key) o) 0) ≡ Some p → place-from s t q o ≡ Some (record { set = s; type = t; key = p; hierarchy = y.1 })
placed-there s t q None y p e key = none_or y e
placed-there s t q (Some e) y p found key =
    let here : find (λ h. same_text h.qualifier q) e.hierarchies ≡ Some y.1 = sym (find-numbered (λ h. same_text h.qualifier q) 0 e.hierarchies) ∙ ap (option_map {U = Hierarchy} (λ x. x.1)) found in
    ap (option_and_then (λ h. option_map {U = HierarchyPlace} (λ k. record { set = s; type = t; key = k; hierarchy = h }) (slice_get e.properties e.key))) here
    ∙ ap (option_map {U = HierarchyPlace} (λ k. record { set = s; type = t; key = k; hierarchy = y.1 })) key

none-placed : (s t : ℕ) (q : Name) (o : Option EntityType) → found_part t (option_and_then (λ e. item_named (λ h. h.qualifier) q e.hierarchies) o) ≡ None → place-from s t q o ≡ None
none-placed s t q None e = refl
none-placed s t q (Some e) none =
    let here : find (λ h. same_text h.qualifier q) e.hierarchies ≡ None = sym (find-numbered (λ h. same_text h.qualifier q) 0 e.hierarchies) ∙ lost (item_named (λ h. h.qualifier) q e.hierarchies) none in
    ap (option_and_then (λ h. option_map {U = HierarchyPlace} (λ k. record { set = s; type = t; key = k; hierarchy = h }) (slice_get e.properties e.key))) here
  where
    lost : (o : Option (ℕ × Hierarchy)) → found_part t o ≡ None → option_map {U = Hierarchy} (λ x. x.1) o ≡ None
    lost None n = refl
    lost (Some y) n = none_or _ (sym n)

-- ---- hierarchies by their names

-- the hierarchy of an id that is named: the set of its nodes, and its definition
pub record Found (m : Model) (h : HierName) (id : Part) : Type 0 where
  pub place : HierarchyPlace
  pub at : hierarchy_at m h ≡ Some place
  pub set : set_of_type m id.of ≡ place.set
  pub on : hierarchy_on m id ≡ Some place.hierarchy
  pub is_set : IsSet m place.set
  pub there : IsHierarchy m id

-- a name with an id names a hierarchy
pub named : (m : Model) (h : HierName) (id : Part) → IsSound m → hierarchy_id m h ≡ Some id → Found m h id
named m h id sound e =
    let a = chained (λ s. found_part (set_type m s) (hierarchy_of_type_named m (set_type m s) h.qualifier)) (set_named m h.set) id e in
    let s = a.0 in
    let t = set_type m s in
    let there = set-there m h.set s a.1 in
    let type = sound.set_types s there in
    let y = part-found t (hierarchy_of_type_named m t h.qualifier) id a.2 in
    let listed = named_at (λ e. e.hierarchies) (λ x. x.qualifier) h.qualifier (slice_get m.types t) y.0 y.1 in
    let on : hierarchy_on m id ≡ Some (y.0).1 = (λ i. slice_get (hierarchies_of_type m (y.2 i)) (y.3 i)) ∙ listed in
    let key = element-there _ (key_of m t).at (sound.keys t type).1 in
    let Below : ℕ → Type 0 = λ k. k < length m.types in
    record {
      place = record { set = s; type = t; key = key.0; hierarchy = (y.0).1 };
      at = place-is m h s a.1 ∙ placed-there s t h.qualifier (slice_get m.types t) y.0 key.0 y.1 key.1;
      set = ap (set_of_type m) y.2 ∙ sound.sets_of_types s there;
      on = on;
      is_set = there;
      there = (subst Below (sym y.2) type, slice_get_within (hierarchies_of_type m id.of) id.at (y.0).1 on);
    }

-- a name without an id names none
pub unnamed : (m : Model) (h : HierName) → hierarchy_id m h ≡ None → hierarchy_at m h ≡ None
unnamed m h e = elim (option_cases (set_named m h.set)) [
  | inl n ↦ ap (λ o. option_and_then (λ s. option_and_then (λ t. option_and_then (placed m s) (find (λ x. same_text x.qualifier h.qualifier) t.hierarchies)) (type_of_set m s)) o) n
  | inr s ↦ place-is m h s.0 s.1 ∙ none-placed s.0 (set_type m s.0) h.qualifier (slice_get m.types (set_type m s.0)) (sym (ap (λ o. option_and_then (λ s. found_part (set_type m s) (hierarchy_of_type_named m (set_type m s) h.qualifier)) o) s.1) ∙ e)
]

-- its id and its place have the same parents
pub same-parents : (w : World) (h : HierName) (id : Part) (f : Found w.model h id) → hierarchy_parents w id ≡ parents_of w f.place
same-parents w h id f = λ i. parents_by w (f.set i) (unwrap_or (option_map (λ q. q.parent) (f.on i)) 0)

-- a hierarchy that is named stands over a set of the model
pub placed-set : (m : Model) (h : HierName) (f : HierarchyPlace) → hierarchy_at m h ≡ Some f → IsSet m f.set
placed-set m h f e =
    let a = chained (λ s. option_and_then (λ t. option_and_then (placed m s) (find (λ x. same_text x.qualifier h.qualifier) t.hierarchies)) (type_of_set m s)) (set_named m h.set) f e in
    let P : ℕ → Type 0 = IsSet m in
    subst P (over a.0 (type_of_set m a.0) a.2) (set-there m h.set a.0 a.1)
  where
    keyed : (s : ℕ) (x : Hierarchy) (o : Option Property) → option_map {U = HierarchyPlace} (λ k. record { set = s; type = set_type m s; key = k; hierarchy = x }) o ≡ Some f → s ≡ f.set
    keyed s x None e = none_or f e
    keyed s x (Some k) e = ap (λ f. f.set) (some_value e)

    typed : (s : ℕ) (x : Hierarchy) (o : Option EntityType) → option_and_then (λ t. option_map {U = HierarchyPlace} (λ k. record { set = s; type = set_type m s; key = k; hierarchy = x }) (slice_get t.properties t.key)) o ≡ Some f → s ≡ f.set
    typed s x None e = none_or f e
    typed s x (Some t) e = keyed s x (slice_get t.properties t.key) e

    found : (s : ℕ) (o : Option Hierarchy) → option_and_then (placed m s) o ≡ Some f → s ≡ f.set
    found s None e = none_or f e
    found s (Some x) e = typed s x (type_of_set m s) e

    over : (s : ℕ) (o : Option EntityType) → option_and_then (λ t. option_and_then (placed m s) (find (λ x. same_text x.qualifier h.qualifier) t.hierarchies)) o ≡ Some f → s ≡ f.set
    over s None e = none_or f e
    over s (Some t) e = found s (find (λ x. same_text x.qualifier h.qualifier) t.hierarchies) e
