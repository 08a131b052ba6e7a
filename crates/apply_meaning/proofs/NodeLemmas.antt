-- The nodes of a hierarchy and related entities fit the shapes of their types.
use Rattle.std.proofs.Common.{◌≡◌, refl, sym, ◌∙◌, ap, ℕ, ◌==◌, true, [], Option, Some, None, map, arith}
use Rattle.std.specs.Prelude.{option_and_then, option_map, unwrap_or, find, slice_get, nat_lt}
use Rattle.std.specs.List.{list_all}
use Rattle.std.proofs.lemmas.Bool.{and_from, eq-eqb}
use Rattle.edm_values.specs.Lists.{places, is_some_and, same_text}
use Rattle.edm_values.proofs.OptionFacts.{chained, mapped}
use Rattle.edm_values.proofs.ListFacts.{all-map, all-filter}
use Rattle.edm_values.proofs.PlaceFacts.{places-within}
use Rattle.edm_model.specs.Models.{EntityType, Hierarchy, Property, Navigation, Model}
use Rattle.edm_model.specs.LookUps.{HierarchyPlace, placed, set_named, set_type, type_at, type_of_set, set_of_type, many_named}
use Rattle.edm_data.specs.Worlds.{World, Entity, entity_at}
use Rattle.edm_data.specs.References.{entities_in, count, refers_to, related_by}
use Rattle.apply_ast.specs.Trees.{HierName}
use Rattle.context_typing.specs.Shapes.{set_shape}
use Rattle.context_typing.specs.Typing.{hierarchy_at, root_type}
use Rattle.apply_meaning.specs.Instances.{entity_instance, rows, root_of, fits, is_entity}
use Rattle.apply_meaning.specs.MeaningLaws.{AllFit, NodesFit, RelatedFit}
use Rattle.apply_meaning.proofs.FitLemmas.{fit-whole}
use Rattle.apply_meaning.proofs.WellTyped.{IsWellTyped, HasSet, many-target}

-- an entity's instance fits the shape of its type
pub entity-fits : (w : World) (t : ℕ) (e : Entity) → is_entity w t e ≡ true → fits w (set_shape t) (entity_instance e) ≡ true
entity-fits w t e h = fit-whole w (set_shape t) (entity_instance e) (record {
  lawful = refl;
  prefixes_differ = refl;
  columns_differ = refl;
  has_prefixes = refl;
  has_columns = refl;
  columns_fit = refl;
  prefixes_fit = and_from _ _ h refl;
})

-- the entities of a set are entities of its type
pub all-entities : (w : World) (s t : ℕ) → option_map (λ x. x.of) (slice_get w.model.sets s) ≡ Some t → list_all (is_entity w t) (entities_in w s) ≡ true
all-entities w s t h =
    all-map (λ k. nat_lt k (count w s)) (is_entity w t) (entity_at s) (places (count w s)) (places-within (count w s) (count w s) (omega arith))
    (λ k l. and_from _ _ (ap (is_some_and (λ t'. t' == t)) h ∙ eq-eqb t t refl) l)

-- a hierarchy that is found: the type of its set, and the key of that type
pub named-parts : (m : Model) (h : HierName) (f : HierarchyPlace) → hierarchy_at m h ≡ Some f
    → (option_map (λ x. x.of) (slice_get m.sets f.set) ≡ Some f.type) × (E : EntityType) × (type_at m f.type ≡ Some E) × (slice_get E.properties E.key ≡ Some f.key)
named-parts m h f e =
    let s = chained (λ s. option_and_then (λ t. option_and_then (placed m s) (find (λ q. same_text q.qualifier h.qualifier) t.hierarchies)) (type_of_set m s)) (set_named m h.set) f e in
    let t = chained (λ t. option_and_then (placed m s.0) (find (λ q. same_text q.qualifier h.qualifier) t.hierarchies)) (type_of_set m s.0) f s.2 in
    let q = chained (placed m s.0) (find (λ q. same_text q.qualifier h.qualifier) (t.0).hierarchies) f t.2 in
    place-parts m s.0 q.0 f q.2
  where
    place-parts : (m : Model) (s : ℕ) (q : Hierarchy) (f : HierarchyPlace) → placed m s q ≡ Some f
        → (option_map (λ x. x.of) (slice_get m.sets f.set) ≡ Some f.type) × (E : EntityType) × (type_at m f.type ≡ Some E) × (slice_get E.properties E.key ≡ Some f.key)
    place-parts m s q f e =
        let at : Property → HierarchyPlace = λ k. record { set = s; type = set_type m s; key = k; hierarchy = q } in
        let t = chained (λ t. option_map at (slice_get t.properties t.key)) (type_of_set m s) f e in
        let k = mapped at (slice_get (t.0).properties (t.0).key) f t.2 in
        let x = chained (λ x. type_at m x.of) (slice_get m.sets s) t.0 t.1 in
        let type : set_type m s ≡ (x.0).of = ap (λ o. unwrap_or (option_map (λ x. x.of) o) 0) x.1 in (
          ap (λ f. option_map (λ x. x.of) (slice_get m.sets f.set)) (sym k.2) ∙ ap (option_map (λ x. x.of)) x.1 ∙ ap (λ z. Some z) (sym type) ∙ ap (λ f. Some f.type) k.2,
          t.0,
          ap (λ f. type_at m f.type) (sym k.2) ∙ ap (type_at m) type ∙ x.2,
          k.1 ∙ ap (λ f. Some f.key) k.2,
        )

-- the instances of a set fit the shape of the set's type
pub rows_fit : (w : World) (s t : ℕ) → option_map (λ x. x.of) (slice_get w.model.sets s) ≡ Some t → AllFit w (set_shape t) (rows w s)
rows_fit w s t h = all-map (is_entity w t) (fits w (set_shape t)) entity_instance (entities_in w s) (all-entities w s t h) (λ y g. entity-fits w t y g)

pub nodes_fit : (A : World → Type 0) → NodesFit A
nodes_fit A w h f a e = rows_fit w f.set f.type (named-parts w.model h f e).0

-- related entities are entities of the target
pub related-entities : (w : World) (x : Entity) (v : Navigation) → HasSet w.model v.target → list_all (is_entity w v.target) (related_by w x v) ≡ true
related-entities w x v s =
    all-filter (is_entity w v.target) (λ y. refers_to w v.partner y x) (entities_in w (set_of_type w.model v.target)) (all-entities w (set_of_type w.model v.target) v.target s)

pub related_fit : (A : World → Type 0) → ((w : World) → A w → IsWellTyped w) → RelatedFit A
related_fit A W w S n v i a e =
    let t = chained (λ t. many_named w.model t n) (root_type S) v e in
    go (many-target w (W w a) t.0 n v t.2) (root_of i)
  where
    go : HasSet w.model v.target → (o : Option Entity) → list_all (fits w (set_shape v.target)) (elim o [ None ↦ [] | Some x ↦ map entity_instance (related_by w x v) ]) ≡ true
    go s None = refl
    go s (Some x) = all-map (is_entity w v.target) (fits w (set_shape v.target)) entity_instance (related_by w x v) (related-entities w x v s) (λ y h. entity-fits w v.target y h)
