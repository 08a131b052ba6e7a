-- The parts of the model of a tree, by the trees of its types.
use Rattle.std.proofs.Common.{◌≡◌, ℕ, [], map, Some, None, refl, sym, ◌∙◌, ap}
use Rattle.std.specs.Prelude.{Option, option_map, unwrap_or, slice_get}
use Rattle.std.proofs.lemmas.Option.{slice_get-map, slice_get_within}
use Rattle.serde_json.specs.Data.{Data, null}
use Rattle.edm_model.specs.Models.{Property, Navigation, Hierarchy, Custom, EntityType, EntitySet, Model, Part}
use Rattle.edm_model.specs.LookUps.{properties_of, navigations_of, hierarchies_of_type, customs_of_type, property_at, navigation_on, hierarchy_on, custom_on, key_of, type_at, IsProperty}
use Rattle.edm_schema.specs.JsonTrees.{Member}
use Rattle.edm_schema.specs.ModelTrees.{type_tree, type_members, set_members, property_members, navigation_members, term_members, hierarchy_term, definition_term, key_name, member_place}
use Rattle.edm_model.specs.ModelFile.{model_of, type_of, property_of, navigation_of, hierarchy_of, custom_of, set_of}
use Rattle.edm_model.proofs.Places.{within_types}
use Rattle.edm_values.proofs.OptionFacts.{mapped}

-- ---- the parts of the model of a tree, by the trees of its types

pub properties_is : (d : Data) (t : ℕ) → properties_of (model_of d) t ≡ map property_of (property_members (type_tree d t))
properties_is d t = ap (λ o. unwrap_or (option_map (λ e. e.properties) o) []) (slice_get-map (type_of d) (type_members d) t) ∙ go (slice_get (type_members d) t)
  where
    go : (o : Option Member) → unwrap_or (option_map (λ e. e.properties) (option_map (type_of d) o)) [] ≡ map property_of (property_members (unwrap_or (option_map (λ m. m.1) o) null))
    go None = refl
    go (Some m) = refl

pub navigations_is : (d : Data) (t : ℕ) → navigations_of (model_of d) t ≡ map (navigation_of d (type_tree d t)) (navigation_members (type_tree d t))
navigations_is d t = ap (λ o. unwrap_or (option_map (λ e. e.navigations) o) []) (slice_get-map (type_of d) (type_members d) t) ∙ go (slice_get (type_members d) t)
  where
    go : (o : Option Member) → unwrap_or (option_map (λ e. e.navigations) (option_map (type_of d) o)) [] ≡ map (navigation_of d (unwrap_or (option_map (λ m. m.1) o) null)) (navigation_members (unwrap_or (option_map (λ m. m.1) o) null))
    go None = refl
    go (Some m) = refl

pub hierarchies_is : (d : Data) (t : ℕ) → hierarchies_of_type (model_of d) t ≡ map (hierarchy_of (type_tree d t)) (term_members hierarchy_term (type_tree d t))
hierarchies_is d t = ap (λ o. unwrap_or (option_map (λ e. e.hierarchies) o) []) (slice_get-map (type_of d) (type_members d) t) ∙ go (slice_get (type_members d) t)
  where
    go : (o : Option Member) → unwrap_or (option_map (λ e. e.hierarchies) (option_map (type_of d) o)) [] ≡ map (hierarchy_of (unwrap_or (option_map (λ m. m.1) o) null)) (term_members hierarchy_term (unwrap_or (option_map (λ m. m.1) o) null))
    go None = refl
    go (Some m) = refl

pub customs_is : (d : Data) (t : ℕ) → customs_of_type (model_of d) t ≡ map custom_of (term_members definition_term (type_tree d t))
customs_is d t = ap (λ o. unwrap_or (option_map (λ e. e.customs) o) []) (slice_get-map (type_of d) (type_members d) t) ∙ go (slice_get (type_members d) t)
  where
    go : (o : Option Member) → unwrap_or (option_map (λ e. e.customs) (option_map (type_of d) o)) [] ≡ map custom_of (term_members definition_term (unwrap_or (option_map (λ m. m.1) o) null))
    go None = refl
    go (Some m) = refl

pub key_is : (d : Data) (t : ℕ) → (key_of (model_of d) t).at ≡ unwrap_or (member_place (property_members (type_tree d t)) (key_name (type_tree d t))) 0
key_is d t = ap (λ o. unwrap_or (option_map (λ e. e.key) o) 0) (slice_get-map (type_of d) (type_members d) t) ∙ go (slice_get (type_members d) t)
  where
    go : (o : Option Member) → unwrap_or (option_map (λ e. e.key) (option_map (type_of d) o)) 0 ≡ unwrap_or (member_place (property_members (unwrap_or (option_map (λ m. m.1) o) null)) (key_name (unwrap_or (option_map (λ m. m.1) o) null))) 0
    go None = refl
    go (Some m) = refl

-- ---- where the parts stand

pub property_here : (d : Data) (p : Part) (q : Property) → property_at (model_of d) p ≡ Some q → (m : Member) × (slice_get (property_members (type_tree d p.of)) p.at ≡ Some m) × (property_of m ≡ q)
property_here d p q h = mapped property_of (slice_get (property_members (type_tree d p.of)) p.at) q (sym (slice_get-map property_of (property_members (type_tree d p.of)) p.at) ∙ (ap (λ xs. slice_get xs p.at) (sym (properties_is d p.of)) ∙ h))

pub property_there : (d : Data) (t k : ℕ) (m : Member) → slice_get (property_members (type_tree d t)) k ≡ Some m → slice_get (properties_of (model_of d) t) k ≡ Some (property_of m)
property_there d t k m h = ap (λ xs. slice_get xs k) (properties_is d t) ∙ (slice_get-map property_of (property_members (type_tree d t)) k ∙ ap (option_map property_of) h)

pub is_property_at : (m : Model) (t k : ℕ) (q : Property) → slice_get (properties_of m t) k ≡ Some q → IsProperty m (record { of = t; at = k })
is_property_at m t k q h = let inside = slice_get_within (properties_of m t) k q h in (within_types (λ e. e.properties) m.types t k inside, inside)

pub navigation_here : (d : Data) (n : Part) (v : Navigation) → navigation_on (model_of d) n ≡ Some v → (m : Member) × (slice_get (navigation_members (type_tree d n.of)) n.at ≡ Some m) × (navigation_of d (type_tree d n.of) m ≡ v)
navigation_here d n v h = mapped (navigation_of d (type_tree d n.of)) (slice_get (navigation_members (type_tree d n.of)) n.at) v (sym (slice_get-map (navigation_of d (type_tree d n.of)) (navigation_members (type_tree d n.of)) n.at) ∙ (ap (λ xs. slice_get xs n.at) (sym (navigations_is d n.of)) ∙ h))

pub navigation_there : (d : Data) (t k : ℕ) (m : Member) → slice_get (navigation_members (type_tree d t)) k ≡ Some m → slice_get (navigations_of (model_of d) t) k ≡ Some (navigation_of d (type_tree d t) m)
navigation_there d t k m h = ap (λ xs. slice_get xs k) (navigations_is d t) ∙ (slice_get-map (navigation_of d (type_tree d t)) (navigation_members (type_tree d t)) k ∙ ap (option_map (navigation_of d (type_tree d t))) h)

pub hierarchy_here : (d : Data) (p : Part) (q : Hierarchy) → hierarchy_on (model_of d) p ≡ Some q → (m : Member) × (slice_get (term_members hierarchy_term (type_tree d p.of)) p.at ≡ Some m) × (hierarchy_of (type_tree d p.of) m ≡ q)
hierarchy_here d p q h = mapped (hierarchy_of (type_tree d p.of)) (slice_get (term_members hierarchy_term (type_tree d p.of)) p.at) q (sym (slice_get-map (hierarchy_of (type_tree d p.of)) (term_members hierarchy_term (type_tree d p.of)) p.at) ∙ (ap (λ xs. slice_get xs p.at) (sym (hierarchies_is d p.of)) ∙ h))

pub custom_here : (d : Data) (p : Part) (u : Custom) → custom_on (model_of d) p ≡ Some u → (m : Member) × (slice_get (term_members definition_term (type_tree d p.of)) p.at ≡ Some m) × (custom_of m ≡ u)
custom_here d p u h = mapped custom_of (slice_get (term_members definition_term (type_tree d p.of)) p.at) u (sym (slice_get-map custom_of (term_members definition_term (type_tree d p.of)) p.at) ∙ (ap (λ xs. slice_get xs p.at) (sym (customs_is d p.of)) ∙ h))

pub type_here : (d : Data) (t : ℕ) (e : EntityType) → type_at (model_of d) t ≡ Some e → (m : Member) × (slice_get (type_members d) t ≡ Some m) × (type_of d m ≡ e)
type_here d t e h = mapped (type_of d) (slice_get (type_members d) t) e (sym (slice_get-map (type_of d) (type_members d) t) ∙ h)

pub set_here : (d : Data) (s : ℕ) (e : EntitySet) → slice_get (map (set_of d) (set_members d)) s ≡ Some e → (m : Member) × (slice_get (set_members d) s ≡ Some m) × (set_of d m ≡ e)
set_here d s e h = mapped (set_of d) (slice_get (set_members d) s) e (sym (slice_get-map (set_of d) (set_members d) s) ∙ h)
