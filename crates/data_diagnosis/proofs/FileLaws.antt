-- The definitions of what is at fault are those by which a data file is refused: its keys and references are those of the world of its entities.
use Rattle.std.proofs.Common.{◌≡◌, ℕ, zero, suc, ◌<◌, ◌≤◌, Bool, true, false, List, [], ◌∷◌, length, take, map, get_or, refl, sym, ◌∙◌, ap, subst, arith, add-one, Some, None}
use Rattle.std.specs.Prelude.{◌&&◌, ◌||◌, not, if◌then◌else◌}
use Rattle.std.specs.declared.option.Option.{Option}
use Rattle.std.specs.Option.{option_map, option_and_then, unwrap_or, is_some, is_none}
use Rattle.std.specs.List.{slice_get, find, list_any, list_all, position}
use Rattle.std.proofs.lemmas.Bool.{false≢true}
use Rattle.std.proofs.lemmas.List.{take-map, take_all}
use Rattle.std.proofs.lemmas.List.Folds.{list_any-append, list_any_more}
use Rattle.std.proofs.lemmas.Option.{slice_get-map, slice_get-get_or}
use Rattle.serde_json.specs.Data.{Data}
use Rattle.edm_values.specs.Lists.{places, all_some, is_some_and}
use Rattle.edm_values.specs.declared.Value.{Value}
use Rattle.edm_values.specs.Values.{is_null, same_value, value_in}
use Rattle.edm_values.proofs.OptionFacts.{all_some-parts, if_else-parts}
use Rattle.edm_values.proofs.SearchFacts.{cons-head, cons-tail, is_some-position}
use Rattle.edm_model.specs.JsonTrees.{is_object, members_in}
use Rattle.edm_model.specs.Models.{Property, Navigation, EntitySet, Model, Part}
use Rattle.edm_model.specs.LookUps.{IsSet, IsProperty, properties_of, property_at, navigation_on, dependent_of, key_of, set_type, set_of_type, navigations_of}
use Rattle.edm_model.specs.Soundness.{IsSound}
use Rattle.edm_data.specs.Worlds.{World, Entity, entity_at, all_places}
use Rattle.edm_data.specs.References.{entities_of, property, key, keys_of, by_key, referred}
use Rattle.edm_data.specs.DataFile.{DataReading, World', NoJson, Set, Shape, unless_found, is_set_member, is_known_member, entity_of, property_value, array_in, items_of_set, items_of_sets, is_no_entity, world_of, rows_reading, entities_in_tree, has_earlier_key, dangles, is_dangling}
use Rattle.edm_data.proofs.FirstPlaces.{none-in_all_places}
use Rattle.edm_data.proofs.ReferenceLemmas.{navs_same}
use Rattle.edm_data.proofs.RelationLemmas.{or_none}
use Rattle.edm_data.proofs.SeenKeys.{list_any-map}
use Rattle.edm_data.proofs.TableLemmas.{key_place}
use Rattle.data_diagnosis.specs.EntityFaults.{key_in, same_key, earlier_place, items_in_set, has_key, reference_in, misses, misses_one}
use Rattle.data_diagnosis.specs.FileLaws.{KeysAreOfEntities, EarlierKeysAreOfEntities, NavigationsDangle, MissingReferencesDangle}

-- ---- a list by its places

any-places : {X : Type 0} (p : ℕ → Bool) (g : X → Bool) (xs : List X) (d : X) (n : ℕ) → n ≤ length xs → ((k : ℕ) (x : X) → slice_get xs k ≡ Some x → p k ≡ g x) → list_any p (places n) ≡ list_any g (take n xs)
any-places p g xs d zero h each = refl
any-places p g xs d (suc n) h each =
    let within : n < length xs = omega arith in
    list_any-append p (places n) (n ∷ [])
    ∙ ap (λ b. b || (p n || false)) (any-places p g xs d n (omega arith) each)
    ∙ ap (λ b. list_any g (take n xs) || b) (or_none (p n) false refl ∙ each n (get_or xs n d) (slice_get-get_or xs n d within))
    ∙ sym (rw add-one at (list_any_more g xs n d within))

any-all : {X : Type 0} (p : ℕ → Bool) (g : X → Bool) (xs : List X) → ((k : ℕ) (x : X) → slice_get xs k ≡ Some x → p k ≡ g x) → list_any p (places (length xs)) ≡ list_any g xs
any-all p g [] each = refl
any-all p g (x ∷ xs) each = any-places p g (x ∷ xs) x (length (x ∷ xs)) (omega arith) each ∙ ap (list_any g) (take_all (length (x ∷ xs)) (x ∷ xs) (omega arith))

-- ---- the world of a file whose items are entities

-- the world of a file's items
abbrev world : Model → Data → World
world m d = world_of m (items_of_sets m d)

-- each item of the file's sets is an entity
abbrev AreEntities : Model → Data → Type 0
AreEntities m d = find (is_no_entity (items_of_sets m d)) (all_places (items_of_sets m d)) ≡ None

unless-world : {X : Type 0} (w : World) (o : Option X) (fault : X → DataReading) (next : DataReading) → ((x : X) → fault x ≡ World' w → ⊥) → unless_found o fault next ≡ World' w → (o ≡ None) × (next ≡ World' w)
unless-world w None fault next apart h = (refl, h)
unless-world w (Some x) fault next apart h = absurd (apart x h)

if-world : (w : World) (b : Bool) (r : DataReading) → (if b then r else NoJson) ≡ World' w → r ≡ World' w
if-world w true r h = h
if-world w false r h = cc

-- a file with a world: its items are entities, and the world is theirs
is_read : (m : Model) (d : Data) (w : World) → entities_in_tree m d ≡ World' w → AreEntities m d × (world m d ≡ w)
is_read m d w h =
    let rows = items_of_sets m d in
    let sets = unless-world w (find (λ e. not (is_set_member m e)) (members_in d)) (λ e. Set e.0) (rows_reading m rows) (λ e h. cc) (if-world w (is_object d) _ h) in
    let read = unless-world w (find (is_no_entity rows) (all_places rows)) Shape (World' (world_of m rows)) (λ e h. cc) sets.1 in
    (read.0, same (world m d) w read.1) where
      same : (a b : World) → World' a ≡ World' b → a ≡ b
      same a b h = cc

all-there : {X : Type 0} (d : X) (os : List (Option X)) → ((q : ℕ) → q < length os → is_none (unwrap_or (slice_get os q) None) ≡ false) → os ≡ map Some (map (λ o. unwrap_or o d) os)
all-there d [] each = refl
all-there d (None ∷ os) each = absurd (false≢true (sym (each 0 (omega arith))))
all-there d (Some x ∷ os) each = ap (λ l. Some x ∷ l) (all-there d os (λ q less. each (suc q) (omega arith)))

rows-at : (m : Model) (d : Data) (s : ℕ) (es : EntitySet) → slice_get m.sets s ≡ Some es → AreEntities m d → map (entity_of (properties_of m (set_type m s))) (items_in_set m d s) ≡ map Some (entities_of (world m d) s)
rows-at m d s es at entities =
    let rows = items_of_sets m d in
    let row = items_of_set m d es in
    let here : slice_get rows s ≡ Some row = slice_get-map (items_of_set m d) m.sets s ∙ ap (option_map (items_of_set m d)) at in
    let each : (q : ℕ) → q < length row → is_none (unwrap_or (slice_get row q) None) ≡ false = λ q less. sym (ap (λ o. is_none (unwrap_or (option_and_then (λ r. slice_get r q) o) None)) here) ∙ none-in_all_places (is_no_entity rows) rows entities s q (rw here less) in
    let read : entities_of (world m d) s ≡ map (λ o. unwrap_or o []) row = ap (λ o. unwrap_or o []) (slice_get-map (map (λ o. unwrap_or o [])) rows s ∙ ap (option_map (map (λ o. unwrap_or o []))) here) in
    let items : items_in_set m d s ≡ array_in d es = ap (λ o. unwrap_or (option_map (array_in d) o) []) at in
    let type : set_type m s ≡ es.of = ap (λ o. unwrap_or (option_map (λ e. e.of) o) 0) at in
    ap (λ t. map (entity_of (properties_of m t)) (items_in_set m d s)) type ∙ ap (map (entity_of (properties_of m es.of))) items ∙ all-there [] row each ∙ ap (map Some) (sym read)

-- each item of a set is the entity at its place
rows-are : (m : Model) (d : Data) (s : ℕ) → IsSet m s → AreEntities m d → map (entity_of (properties_of m (set_type m s))) (items_in_set m d s) ≡ map Some (entities_of (world m d) s)
rows-are m d s there entities = rows-at m d s (get_or m.sets s (record { name = []; of = 0 })) (slice_get-get_or m.sets s (record { name = []; of = 0 }) there) entities

-- ---- the values of an entity

value-at : {P V : Type 0} (f : P → Option V) (ps : List P) (vs : List V) (q : ℕ) (d : V) → all_some (map f ps) ≡ Some vs → q < length ps → option_and_then f (slice_get ps q) ≡ Some (unwrap_or (slice_get vs q) d)
value-at f [] vs q d h less = absurd (omega arith)
value-at f (p ∷ ps) vs zero d h less = let parts = all_some-parts (f p) (map f ps) vs h in parts.1 ∙ ap (λ l. Some (unwrap_or (slice_get l 0) d)) parts.4
value-at f (p ∷ ps) vs (suc q) d h less = let parts = all_some-parts (f p) (map f ps) vs h in value-at f ps parts.2 q d parts.3 (omega arith) ∙ ap (λ l. Some (unwrap_or (slice_get l (suc q)) d)) parts.4

-- the value that an item gives a property
property-in : (ps : List Property) (x : Data) (vs : List Value) (q : ℕ) → entity_of ps x ≡ Some vs → q < length ps → option_and_then (property_value x) (slice_get ps q) ≡ Some (value_in vs q)
property-in ps x vs q h less = value-at (property_value x) ps vs q Value.Null (if_else-parts (is_object x && list_all (is_known_member ps) (members_in x)) (all_some (map (property_value x) ps)) vs h).1 less

-- the values that items give a property
column : (ps : List Property) (q : ℕ) → q < length ps → (xs : List Data) (rows : List (List Value)) → map (entity_of ps) xs ≡ map Some rows → map (λ x. option_and_then (property_value x) (slice_get ps q)) xs ≡ map Some (map (λ vs. value_in vs q) rows)
column ps q less [] [] h = refl
column ps q less [] (r ∷ rows) h = cc
column ps q less (x ∷ xs) [] h = cc
column ps q less (x ∷ xs) (r ∷ rows) h =
    let first : option_and_then (property_value x) (slice_get ps q) ≡ Some (value_in r q) = property-in ps x r q (cons-head h) less in
    ap (λ v. v ∷ map (λ x. option_and_then (property_value x) (slice_get ps q)) xs) first ∙ ap (λ l. Some (value_in r q) ∷ l) (column ps q less xs rows (cons-tail h))

row-at : {X R : Type 0} (g : X → Option R) (xs : List X) (rows : List R) (k : ℕ) (x : X) (d : R) → map g xs ≡ map Some rows → slice_get xs k ≡ Some x → g x ≡ Some (unwrap_or (slice_get rows k) d)
row-at g [] rows k x d h at = cc
row-at g (y ∷ xs) [] k x d h at = cc
row-at g (y ∷ xs) (r ∷ rows) zero x d h at = let same : y ≡ x = cc in ap g (sym same) ∙ cons-head h
row-at g (y ∷ xs) (r ∷ rows) (suc k) x d h at = row-at g xs rows k x d (cons-tail h) at

-- ---- keys and references

module _ (m : Model) (d : Data) (sound : IsSound m) (entities : AreEntities m d) where
  -- the value that an item gives a property of its type is the entity's
  property-is : (s k : ℕ) (x : Data) (p : Part) → IsSet m s → slice_get (items_in_set m d s) k ≡ Some x → p.of ≡ set_type m s → IsProperty m p → option_and_then (property_value x) (property_at m p) ≡ Some (property (world m d) (entity_at s k) p.at)
  property-is s k x p there at of has =
      let t = set_type m s in
      let row = row-at (entity_of (properties_of m t)) (items_in_set m d s) (entities_of (world m d) s) k x [] (rows-are m d s there entities) at in
      ap (λ t. option_and_then (property_value x) (slice_get (properties_of m t) p.at)) of ∙ property-in (properties_of m t) x _ p.at row (subst (λ t. p.at < length (properties_of m t)) of has.1)

  key-is : (s k : ℕ) (x : Data) → IsSet m s → slice_get (items_in_set m d s) k ≡ Some x → key_in m s x ≡ Some (key (world m d) (entity_at s k))
  key-is s k x there at =
      let t = set_type m s in
      property-is s k x (key_of m t) there at refl (sound.keys t (sound.set_types s there)) ∙ ap (λ q. Some (property (world m d) (entity_at s k) q)) (key_place m s there)

  keys-are : (s : ℕ) → IsSet m s → map (key_in m s) (items_in_set m d s) ≡ map Some (keys_of (world m d) s)
  keys-are s there =
      let t = set_type m s in
      let has = sound.keys t (sound.set_types s there) in
      column (properties_of m t) (key_of m t).at has.1 (items_in_set m d s) (entities_of (world m d) s) (rows-are m d s there entities) ∙ ap (λ q. map Some (map (λ vs. value_in vs q) (entities_of (world m d) s))) (key_place m s there)

  has_key-here : (s : ℕ) (v : Value) → IsSet m s → has_key m d s (Some v) ≡ list_any (same_value v) (keys_of (world m d) s)
  has_key-here s v there = sym (list_any-map (key_in m s) (same_key (Some v)) (items_in_set m d s)) ∙ ap (list_any (same_key (Some v))) (keys-are s there) ∙ list_any-map Some (same_key (Some v)) (keys_of (world m d) s)

  earlier-is : (s k : ℕ) (x : Data) → IsSet m s → slice_get (items_in_set m d s) k ≡ Some x → is_some (earlier_place m s (items_in_set m d s) k) ≡ has_earlier_key (world m d) (entity_at s k)
  earlier-is s k x there at =
      let w = world m d in
      let v = key w (entity_at s k) in
      let xs = items_in_set m d s in
      let front : map (key_in m s) (take k xs) ≡ map Some (take k (keys_of w s)) = sym (take-map (key_in m s) k xs) ∙ ap (take k) (keys-are s there) ∙ take-map Some k (keys_of w s) in
      ap (λ o. is_some (option_and_then (λ x. position (λ y. same_key (key_in m s x) (key_in m s y)) (take k xs)) o)) at
      ∙ is_some-position (λ y. same_key (key_in m s x) (key_in m s y)) (take k xs)
      ∙ ap (λ a. list_any (λ y. same_key a (key_in m s y)) (take k xs)) (key-is s k x there at)
      ∙ sym (list_any-map (key_in m s) (same_key (Some v)) (take k xs))
      ∙ ap (list_any (same_key (Some v))) front
      ∙ list_any-map Some (same_key (Some v)) (take k (keys_of w s))

  misses-is : (s k : ℕ) (x : Data) (n : Part) (v : Navigation) → IsSet m s → slice_get (items_in_set m d s) k ≡ Some x → n.of ≡ set_type m s → navigation_on m n ≡ Some v → misses m d x n ≡ dangles (world m d) (entity_at s k) v
  misses-is s k x n v there at of nav =
      ap (is_some_and (λ v. not v.many && is_some_and (λ y. not (is_null y) && not (has_key m d (set_of_type m v.target) (Some y))) (reference_in m n v x))) nav
      ∙ (elim v.many as (λ b. v.many ≡ b → (not b && is_some_and test (reference_in m n v x)) ≡ (not b && not (is_null value) && is_none (referred w e v))) [ true ↦ λ h. refl | false ↦ λ h. ap (is_some_and test) (property-is s k x (dependent_of n v) there at of (sound.dependents n v nav h)) ∙ sought ]) refl where
        w : World
        w = world m d

        e : Entity
        e = entity_at s k

        value : Value
        value = property w e v.dependent

        t : ℕ
        t = set_of_type m v.target

        test : Value → Bool
        test y = not (is_null y) && not (has_key m d t (Some y))

        none-position : (o : Option ℕ) → is_some o ≡ is_some (option_map (entity_at t) o)
        none-position None = refl
        none-position (Some j) = refl

        sought : (not (is_null value) && not (has_key m d t (Some value))) ≡ (not (is_null value) && is_none (if is_null value then None else by_key w t value))
        sought = elim (is_null value) as (λ b. (not b && not (has_key m d t (Some value))) ≡ (not b && is_none (if b then None else by_key w t value))) [ true ↦ refl | false ↦ ap not (has_key-here t value (sound.type_sets v.target (sound.targets n v nav)) ∙ sym (is_some-position (same_value value) (keys_of w t)) ∙ none-position (position (same_value value) (keys_of w t))) ]

  dangling-is : (s k : ℕ) (x : Data) → IsSet m s → slice_get (items_in_set m d s) k ≡ Some x → misses_one m d s x ≡ is_dangling (world m d) (entity_at s k)
  dangling-is s k x there at =
      let t = set_type m s in
      list_any-map (λ j. record { of = t; at = j }) (misses m d x) (places (length (navigations_of m t)))
      ∙ any-all (λ j. misses m d x (record { of = t; at = j })) (dangles (world m d) (entity_at s k)) (navigations_of m t) (λ j v h. misses-is s k x (record { of = t; at = j }) v there at refl h)
      ∙ ap (list_any (dangles (world m d) (entity_at s k))) (navs_same m s there)

-- ---- where a file has a world

-- the key of an item is that of the entity at its place
pub key-of_entity : KeysAreOfEntities
key-of_entity m d w e x sound read there at =
    let is = is_read m d w read in
    subst (λ w. key_in m e.set x ≡ Some (key w e)) is.1 (key-is m d sound is.0 e.set e.at x there at)

-- an item has the key of an earlier one exactly where the key of the entity at its place stands earlier
pub earlier-of_entity : EarlierKeysAreOfEntities
earlier-of_entity m d w e x sound read there at =
    let is = is_read m d w read in
    earlier-is m d sound is.0 e.set e.at x there at ∙ ap (λ w. has_earlier_key w e) is.1

-- an item refers by a navigation to a key that is not there exactly where the entity at its place does
pub misses-of_entity : NavigationsDangle
misses-of_entity m d w e x n v sound read there at of nav =
    let is = is_read m d w read in
    misses-is m d sound is.0 e.set e.at x n v there at of nav ∙ ap (λ w. dangles w e v) is.1

-- an item refers to a key that is not there exactly where the entity at its place does
pub dangling-of_entity : MissingReferencesDangle
dangling-of_entity m d w e x sound read there at =
    let is = is_read m d w read in
    dangling-is m d sound is.0 e.set e.at x there at ∙ ap (λ w. is_dangling w e) is.1
