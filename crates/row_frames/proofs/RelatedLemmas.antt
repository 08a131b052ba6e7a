-- Frames of related entities, and of entities of one set.
use Rattle.std.proofs.Common.{◌≡◌, ◌∙◌, ℕ, zero, suc, eqb-true, ◌+◌, ◌<◌, ◌++◌, take, length, sym, refl, subst, ap, List, [], ◌∷◌, map, get_or, Bool, true, false, Option, Some, None, arith}
use Rattle.std.specs.Prelude.{◌==◌, filter, if◌then◌else◌, option_map, unwrap_or, slice_get}
use Rattle.std.specs.List.{All}
use Rattle.std.proofs.lemmas.Bool.{both_ways}
use Rattle.std.proofs.lemmas.List.{map-append, take_more}
use Rattle.std.proofs.lemmas.List.Elements.{All-map}
use Rattle.std.proofs.lemmas.Option.{slice_get-get_or}
use Rattle.edm_values.specs.Lists.{is_some_and, places}
use Rattle.edm_model.specs.LookUps.{IsSet, navigation_at, navigation_on, set_of_type, set_type}
use Rattle.edm_model.specs.Models.{EntitySet, Navigation, Part}
use Rattle.edm_data.proofs.ReferenceLemmas.{nav_same}
use Rattle.edm_data.specs.References.{count, entity_type, refers_to, related, related_by}
use Rattle.edm_data.specs.Worlds.{Entity, World, entity_at}
use Rattle.apply_meaning.specs.Instances.{entity_instance}
use Rattle.row_frames.specs.declared.tables.Pick.{Pick}
use Rattle.row_frames.specs.declared.tables.Table.{Table}
use Rattle.row_frames.specs.Frames.{all_picked, column_at, first_pick, instance_at, picked, picked_in, place_in, prefix_at, root_at}
use Rattle.apply_meaning.specs.RowViews.{row_instance}
use Rattle.row_frames.proofs.TableLemmas.{empty}
use Rattle.row_frames.specs.Related.{IsOfSet, placed, related_to}

-- ---- related entities

typed-in : (sets : List EntitySet) (n t : ℕ) → is_some_and (λ x. x == t) (option_map (λ s. s.of) (slice_get sets n)) ≡ true → (n < length sets) × (t ≡ unwrap_or (option_map (λ s. s.of) (slice_get sets n)) 0)
typed-in [] zero t h = absurd (both_ways false refl h)
typed-in [] (suc n) t h = absurd (both_ways false refl h)
typed-in (s ∷ sets) zero t h = (omega arith, sym (eqb-true s.of t h))
typed-in (s ∷ sets) (suc n) t h = let r = typed-in sets n t h in (omega (arith, r.0), r.1)

-- an entity of a type stands in a set of it
pub entity-typed : (w : World) (t : ℕ) (e : Entity) → is_some_and (λ x. x == t) (entity_type w e) ≡ true → IsSet w.model e.set × (t ≡ set_type w.model e.set)
entity-typed w t e h = typed-in w.model.sets e.set t h

-- what the data relates an entity to
pub related-is : (w : World) (nav : Part) (v : Navigation) (e : Entity) → navigation_on w.model nav ≡ Some v → IsSet w.model e.set → nav.of ≡ set_type w.model e.set → related w e nav.at ≡ related_to w v (Some e)
related-is w nav v e h there of =
    let at : navigation_at w.model e.set nav.at ≡ Some v = sym (nav_same w.model e.set nav there of) ∙ h in
    ap (λ o. unwrap_or (option_map (λ (x : Navigation). if x.many then related_by w e x else []) o) []) at

-- the same entities, told by their places
same-places : (p : Entity → Bool) (s : ℕ) (ks : List ℕ) → map (λ e. placed s e.at) (filter p (map (entity_at s) ks)) ≡ map entity_instance (filter p (map (entity_at s) ks))
same-places p s [] = refl
same-places p s (k ∷ ks) = go (p (entity_at s k)) (same-places p s ks)
  where
    go : (b : Bool) → map (λ e. placed s e.at) (filter p (map (entity_at s) ks)) ≡ map entity_instance (filter p (map (entity_at s) ks))
        → map (λ e. placed s e.at) (if b then entity_at s k ∷ filter p (map (entity_at s) ks) else filter p (map (entity_at s) ks)) ≡ map entity_instance (if b then entity_at s k ∷ filter p (map (entity_at s) ks) else filter p (map (entity_at s) ks))
    go true h = ap (λ l. placed s k ∷ l) h
    go false h = h

related-places : (w : World) (v : Navigation) (e : Entity) (b : Bool) → map (λ x. placed (set_of_type w.model v.target) x.at) (if b then related_by w e v else []) ≡ map entity_instance (if b then related_by w e v else [])
related-places w v e true = same-places (λ x. refers_to w v.partner x e) (set_of_type w.model v.target) (places (count w (set_of_type w.model v.target)))
related-places w v e false = refl

picked-each : (s : ℕ) (t : Table) (es : List Entity) → ((k : ℕ) → instance_at t k ≡ placed s k) → all_picked (t ∷ []) (map (λ e. first_pick e.at) es) ≡ map (λ e. placed s e.at) es
picked-each s t [] h = refl
picked-each s t (e ∷ es) h = λ i. h e.at i ∷ picked-each s t es h i

-- the rows of related entities
pub related-picked : (w : World) (v : Navigation) (o : Option Entity) (s : ℕ) (t : Table) (ts : List Table) (xs : List Pick) → s ≡ set_of_type w.model v.target → ts ≡ t ∷ [] → xs ≡ map (λ e. first_pick e.at) (related_to w v o) → ((k : ℕ) → instance_at t k ≡ placed s k)
    → all_picked ts xs ≡ map entity_instance (related_to w v o)
related-picked w v None s t ts xs set e f h = ap (all_picked ts) f
related-picked w v (Some x) s t ts xs set e f h =
    (λ i. all_picked (e i) (f i))
    ∙ picked-each s t (related_to w v (Some x)) h
    ∙ ap (λ r. map (λ y. placed r y.at) (related_to w v (Some x))) set
    ∙ related-places w v x v.many

pub related-within : (n : ℕ) (es : List Entity) (xs : List Pick) → 0 < n → xs ≡ map (λ e. first_pick e.at) es → All (λ x. x.table < n) xs
related-within n es xs h e = subst (All (λ (x : Pick). x.table < n)) (sym e) (All-map (λ (x : Pick). x.table < n) (λ (y : Entity). first_pick y.at) es (λ k d l. h))

-- ---- entities of one set

-- the row that is picked is the entity at its place
pub placed-picked : (s : ℕ) (ts : List Table) (x : Pick) (t : Table) → All (IsOfSet s) ts → x.table < length ts → t ≡ get_or ts x.table t → placed s (place_in t.roots x.row) ≡ picked ts x
placed-picked s ts x t A l e =
    sym (ap (λ o. picked_in o x.row) (slice_get-get_or ts x.table t l ∙ ap (λ u. Some u) (sym e)) ∙ subst (IsOfSet s) (sym e) (A x.table t l) x.row)

-- a table of a set's entities alone
pub of-set : (t : Table) (s s' : ℕ) → ((k : ℕ) → root_at t.roots k ≡ Some (entity_at s' (place_in t.roots k))) → s' ≡ s → length t.prefixes.items ≡ 0 → length t.columns.items ≡ 0 → IsOfSet s t
of-set t s s' r e p c = λ k.
    let root : root_at t.roots k ≡ Some (entity_at s (place_in t.roots k)) = r k ∙ ap (λ q. Some (entity_at q (place_in t.roots k))) e in
    λ i. row_instance (root i) (map (prefix_at k) (empty t.prefixes.items p i)) (map (column_at k) (empty t.columns.items c i))

-- one image more
pub more-images : {X Y Z : Type 0} (f : Y → Z) (g : X → Z) (xs : List X) (i : ℕ) (x : X) (done done' : List Y) (y : Y) → map f done ≡ map g (take i xs) → i < length xs → x ≡ get_or xs i x → f y ≡ g x → done' ≡ done ++ y ∷ [] → map f done' ≡ map g (take (i + 1) xs)
more-images f g xs i x done done' y inv l e same m =
    ap (map f) m
    ∙ map-append f done (y ∷ [])
    ∙ (λ j. inv j ++ same j ∷ [])
    ∙ sym (map-append g (take i xs) (x ∷ []))
    ∙ ap (map g) (ap (λ q. take i xs ++ q ∷ []) e ∙ sym (take_more xs i x l))
