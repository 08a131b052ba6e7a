-- The sets of a file, one after another.
use Rattle.std.proofs.Common.{◌≡◌, ℕ, zero, suc, ◌+◌, ◌<◌, ◌≤◌, ◌^◌, true, false, List, [], ◌∷◌, ◌++◌, length, take, map, get_or, refl, sym, ◌∙◌, ap, subst, arith, ⊎_elim, Some, None, IfSome, Vec, add-one, lit<}
use Rattle.std.specs.Prelude.{◌&&◌, if◌then◌else◌}
use Rattle.std.specs.declared.alloc.Global.{Global}
use Rattle.std.specs.declared.option.Option.{Option}
use Rattle.std.specs.Option.{option_map, option_and_then, unwrap_or, is_none}
use Rattle.std.specs.List.{slice_get, find, list_all}
use Rattle.std.proofs.lemmas.Bool.{cases_lt}
use Rattle.std.proofs.lemmas.List.{map-append, length-map}
use Rattle.std.proofs.lemmas.Option.{slice_get-map, slice_get_past, slice_get_within, slice_get-get_or, none-some}
use Rattle.serde_json.specs.Data.{Data, null}
use Rattle.serde_json.specs.Find.{get}
use Rattle.edm_values.specs.declared.Value.{Value}
use Rattle.edm_values.specs.Lists.{all_some}
use Rattle.edm_model.specs.Models.{Model, EntitySet, Property}
use Rattle.edm_model.specs.JsonTrees.{items_in, is_object, members_in}
use Rattle.edm_model.specs.LookUps.{set_name, set_type, properties_of, IsSet}
use Rattle.edm_data.specs.Worlds.{World, entity_at, all_places}
use Rattle.edm_data.specs.References.{entities_of}
use Rattle.edm_data.specs.Columns.{Grid}
use Rattle.edm_data.specs.Rows.{world_in}
use Rattle.edm_data.specs.Fitting.{FitsModel, are_values_of}
use Rattle.edm_data.proofs.ValueFits.{values_fit}
use Rattle.edm_data.specs.FirstItems.{IsFirstNone, rows_read}
use Rattle.edm_data.specs.DataFile.{World', Shape, unless_found, array_in, entity_of, item_of, items_of_set, items_of_sets, is_no_entity, world_of, rows_reading, property_value, is_known_member}
use Rattle.edm_data.specs.Refusals.{Tells}
use Rattle.edm_data.specs.declared.DataRefused.{DataRefused}
use Rattle.edm_data.specs.declared.entities.RowsRefused.{RowsRefused}
use Rattle.edm_data.proofs.FirstPlaces.{size_at, find-all_places_none, find-all_places_first}
use Rattle.edm_data.proofs.EntityLemmas.{row_read}
use Rattle.edm_values.proofs.OptionFacts.{some_value}

-- a set of the model, by its place
set_there : (m : Model) (s : ℕ) → IsSet m s → slice_get m.sets s ≡ Some (get_or m.sets s (record { name = []; of = 0 }))
set_there m s there = slice_get-get_or m.sets s (record { name = []; of = 0 }) there

array_found : (sets : List EntitySet) (s : ℕ) (es : EntitySet) (d v : Data) (items : List Data) → slice_get sets s ≡ Some es → get (unwrap_or (option_map (λ e. e.name) (slice_get sets s)) []) d ≡ Some v → items_in v ≡ items → option_map (array_in d) (slice_get sets s) ≡ Some items
array_found sets s es d v items at found is =
    let name : get es.name d ≡ Some v = rw at at found in
    ap (option_map (array_in d)) at ∙ ap Some (ap (λ o. items_in (unwrap_or o null)) name ∙ is)

-- the array of a set that the file names
pub array_of_set : (m : Model) (s : ℕ) (d v : Data) (items : List Data) → IsSet m s → get (set_name m s) d ≡ Some v → items_in v ≡ items → option_map (array_in d) (slice_get m.sets s) ≡ Some items
array_of_set m s d v items there found is = array_found m.sets s (get_or m.sets s (record { name = []; of = 0 })) d v items (set_there m s there) found is

table_found : (m : Model) (d : Data) (s t : ℕ) (es : EntitySet) (items : List Data) → slice_get m.sets s ≡ Some es → option_map (array_in d) (slice_get m.sets s) ≡ Some items → t ≡ set_type m s → option_map (items_of_set m d) (slice_get m.sets s) ≡ Some (map (entity_of (properties_of m t)) items)
table_found m d s t es items at found of =
    let array : array_in d es ≡ items = some_value (rw at at found) in
    let type : t ≡ es.of = of ∙ ap (λ o. unwrap_or (option_map (λ e. e.of) o) 0) at in
    rw (at, array, type) refl

-- what the items of a set are
pub table_of_set : (m : Model) (d : Data) (s t : ℕ) (items : List Data) → IsSet m s → option_map (array_in d) (slice_get m.sets s) ≡ Some items → t ≡ set_type m s → option_map (items_of_set m d) (slice_get m.sets s) ≡ Some (map (entity_of (properties_of m t)) items)
table_of_set m d s t items there found of = table_found m d s t (get_or m.sets s (record { name = []; of = 0 })) items (set_there m s there) found of

-- ---- rows that are all entities

row_some : {X : Type 0} (rows : List X) (q : ℕ) → q < length rows → is_none (unwrap_or (slice_get (map Some rows) q) None) ≡ false
row_some [] q h = absurd (omega arith)
row_some (r ∷ rows) zero h = refl
row_some (r ∷ rows) (suc q) h = row_some rows q (omega arith)

-- no item of the set is none
abbrev pub AreEntities : List (List (Option (List Value))) → ℕ → Type 0
AreEntities rows s = (q : ℕ) → q < size_at rows s → is_no_entity rows (entity_at s q) ≡ false

entities_at : (rows : List (List (Option (List Value)))) (s : ℕ) (vs : List (List Value)) → slice_get rows s ≡ Some (map Some vs) → AreEntities rows s
entities_at rows s vs at q h =
    let within : q < length (map Some vs) = rw at at h in
    let inside : q < length vs = rw (length-map vs Some) at within in
    ap (λ o. is_none (unwrap_or (option_and_then (λ row. slice_get row q) o) None)) at ∙ row_some vs q inside

-- the rows of a set are entities
pub entities_of_rows : (rows : List (List (Option (List Value)))) (s : ℕ) (r : Grid) → slice_get rows s ≡ Some (rows_read r) → AreEntities rows s
entities_of_rows rows s r at = entities_at rows s r.rows at

-- every item is an entity
pub rows_accepted : (m : Model) (rows : List (List (Option (List Value)))) → ((s : ℕ) → s < length rows → AreEntities rows s) → rows_reading m rows ≡ World' (world_of m rows)
rows_accepted m rows each =
    let none : find (is_no_entity rows) (all_places rows) ≡ None = find-all_places_none (is_no_entity rows) rows (λ s q h. ⊎_elim (λ less. each s less q h) (λ more. absurd (let past : size_at rows s ≡ 0 = ap (λ o. length (unwrap_or o [])) (slice_get_past rows s more) in omega arith)) (cases_lt s (length rows))) in
    ap (λ o. unless_found o Shape (World' (world_of m rows))) none

-- the first item that is no entity
rows_refused : (m : Model) (rows : List (List (Option (List Value)))) (s k : ℕ) (os : List (Option (List Value))) → slice_get rows s ≡ Some os → IsFirstNone os k → ((j : ℕ) → j < s → AreEntities rows j) → rows_reading m rows ≡ Shape (entity_at s k)
rows_refused m rows s k os at first before =
    let cell : (q : ℕ) → is_no_entity rows (entity_at s q) ≡ is_none (unwrap_or (slice_get os q) None) = λ q. ap (λ o. is_none (unwrap_or (option_and_then (λ row. slice_get row q) o) None)) at in
    let size : size_at rows s ≡ length os = ap (λ o. length (unwrap_or o [])) at in
    let within : k < size_at rows s = rw size (slice_get_within os k None first.here) in
    let here : is_no_entity rows (entity_at s k) ≡ true = cell k ∙ ap (λ o. is_none (unwrap_or o None)) first.here in
    let found : find (is_no_entity rows) (all_places rows) ≡ Some (entity_at s k) = find-all_places_first (is_no_entity rows) rows s k within here (λ j q less h. before j less q h) (λ q less. cell q ∙ first.before q less) in
    ap (λ o. unless_found o Shape (World' (world_of m rows))) found

-- what the refusal of a set's items says of the file
pub Tells-shape : (m : Model) (d : Data) (s : ℕ) (e : RowsRefused) (r : DataRefused) → ((k : ℕ) → e ≡ RowsRefused.Shape k → r ≡ DataRefused.Shape s k) → (e ≡ RowsRefused.Memory → r ≡ DataRefused.Memory) → IsSet m s → ((j : ℕ) → j < s → AreEntities (items_of_sets m d) j) → ((k : ℕ) → e ≡ RowsRefused.Shape k → IfSome (option_map (items_of_set m d) (slice_get m.sets s)) (λ os. IsFirstNone os k)) → Tells r (rows_reading m (items_of_sets m d))
Tells-shape m d s (RowsRefused.Shape k) r shape memory there before first =
    let at : option_map (items_of_set m d) (slice_get m.sets s) ≡ Some (items_of_set m d (get_or m.sets s (record { name = []; of = 0 }))) = ap (option_map (items_of_set m d)) (set_there m s there) in
    let here : IsFirstNone (items_of_set m d (get_or m.sets s (record { name = []; of = 0 }))) k = rw at at (first k refl) in
    subst (λ x. Tells x (rows_reading m (items_of_sets m d))) (sym (shape k refl)) (rows_refused m (items_of_sets m d) s k (items_of_set m d (get_or m.sets s (record { name = []; of = 0 }))) (slice_get-map (items_of_set m d) m.sets s ∙ at) here before)
Tells-shape m d s RowsRefused.Memory r shape memory there before first = subst (λ x. Tells x (rows_reading m (items_of_sets m d))) (sym (memory refl)) tt

-- the tables of one set more
pub tables-more : (m : Model) (d : Data) (i : ℕ) (old new : List Grid) (rows : Grid) → new ≡ old ++ rows ∷ [] → option_map (items_of_set m d) (slice_get m.sets i) ≡ Some (rows_read rows) → map rows_read old ≡ map (items_of_set m d) (take i m.sets) → map rows_read new ≡ map (items_of_set m d) (take (i + 1) m.sets)
tables-more m d i old new rows grown here before = rw (grown, map-append rows_read old (rows ∷ []), before, add-one) (front (items_of_set m d) m.sets i (rows_read rows) here) where
  front : {X R : Type 0} (f : X → R) (items : List X) (k : ℕ) (r : R) → option_map f (slice_get items k) ≡ Some r → map f (take k items) ++ r ∷ [] ≡ map f (take (suc k) items)
  front f [] k r here = cc
  front f (y ∷ items) zero r here = let same : f y ≡ r = cc in rw same refl
  front f (y ∷ items) (suc k) r here = ap (λ l. f y ∷ l) (front f items k r here)

-- the size of a set's table
pub few_here : (rows : List (List (Option (List Value)))) (s : ℕ) (r : Grid) → slice_get rows s ≡ Some (rows_read r) → length r.rows < 2 ^ 32 → size_at rows s < 2 ^ 32
few_here rows s r at few =
    let size : size_at rows s ≡ length r.rows = ap (λ o. length (unwrap_or o [])) at ∙ length-map r.rows Some in
    rw size few

pub few_all : (read rows : List (List (Option (List Value)))) (i : ℕ) → read ≡ rows → length rows ≤ i → ((s : ℕ) → s < i → size_at rows s < 2 ^ 32) → (s : ℕ) → size_at read s < 2 ^ 32
few_all read rows i is all each s = rw is (⊎_elim (each s)
    (λ more.
    let far : length rows ≤ s = omega (arith, more) in
    let none : size_at rows s ≡ 0 = ap (λ o. length (unwrap_or o [])) (slice_get_past rows s far) in
    rw none (lit< tt))
    (cases_lt s i))

-- ---- the world of the tables

pub values_of_rows : (rows : List (List Value)) → map (λ o. unwrap_or o []) (map Some rows) ≡ rows
values_of_rows [] = refl
values_of_rows (r ∷ rows) = ap (λ l. r ∷ l) (values_of_rows rows)

values_of_sets : (sets : List Grid) → map (map (λ o. unwrap_or o [])) (map rows_read sets) ≡ map (λ g. g.rows) sets
values_of_sets [] = refl
values_of_sets (r ∷ sets) = ap (λ x. x ∷ map (map (λ o. unwrap_or o [])) (map rows_read sets)) (values_of_rows r.rows) ∙ ap (λ l. r.rows ∷ l) (values_of_sets sets)

abbrev world_with : Model → List (List (List Value)) → World
world_with m l = record { model = m; entities = l }

-- the world of items that were read
pub world_is : (m : Model) (sets : Vec Grid Global) (rows : List (List (Option (List Value)))) → map rows_read sets.items ≡ rows → world_of m rows ≡ world_in m sets
world_is m sets rows is = ap (world_with m) (ap (map (map (λ o. unwrap_or o []))) (sym is) ∙ values_of_sets sets.items)

-- an entity has a value of each property
pub entity_fits : (ps : List Property) (d : Data) (vs : List Value) → entity_of ps d ≡ Some vs → are_values_of ps vs ≡ true
entity_fits ps d vs h = (elim (is_object d && list_all (is_known_member ps) (members_in d)) as (λ b. (if b then all_some (map (property_value d) ps) else None) ≡ Some vs → are_values_of ps vs ≡ true) [ true ↦ λ e. values_fit d ps vs e | false ↦ λ e. cc ]) h

item_fits : (m : Model) (es : EntitySet) (items : List Data) (k : ℕ) (vs : List Value) → option_map (item_of m es) (slice_get items k) ≡ Some (Some vs) → are_values_of (properties_of m es.of) vs ≡ true
item_fits m es items k vs h = inside (slice_get items k) h where
  inside : (o : Option Data) → option_map (item_of m es) o ≡ Some (Some vs) → are_values_of (properties_of m es.of) vs ≡ true
  inside None h = cc
  inside (Some x) h = let here : item_of m es x ≡ Some vs = cc in entity_fits (properties_of m es.of) x vs here

set_fits : (m : Model) (d : Data) (s k : ℕ) (rows vs : List (List Value)) (v : List Value) → option_map (items_of_set m d) (slice_get m.sets s) ≡ Some (map Some rows) → slice_get rows k ≡ Some v → are_values_of (properties_of m (set_type m s)) v ≡ true
set_fits m d s k rows vs v is here = inside (slice_get m.sets s) refl is where
  inside : (o : Option EntitySet) → slice_get m.sets s ≡ o → option_map (items_of_set m d) o ≡ Some (map Some rows) → are_values_of (properties_of m (set_type m s)) v ≡ true
  inside None at h = cc
  inside (Some es) at h =
      let items : map Some rows ≡ map (item_of m es) (array_in d es) = cc in
      let type : set_type m s ≡ es.of = ap (λ o. unwrap_or (option_map (λ e. e.of) o) 0) at in
      rw type (item_fits m es (array_in d es) k v (row_read (item_of m es) (array_in d es) rows items k v here))

table_size : (sets : List Grid) (s : ℕ) → length (unwrap_or (slice_get (map (λ g. g.rows) sets) s) []) ≡ size_at (map rows_read sets) s
table_size sets s = ap (λ o. length (unwrap_or o [])) (slice_get-map (λ g. g.rows) sets s) ∙ inside (slice_get sets s) ∙ sym (ap (λ o. length (unwrap_or o [])) (slice_get-map rows_read sets s)) where
  inside : (o : Option Grid) → length (unwrap_or (option_map (λ g. g.rows) o) []) ≡ length (unwrap_or (option_map rows_read o) [])
  inside None = refl
  inside (Some r) = sym (length-map r.rows Some)

-- the tables have the form that the model says
pub tables_fit : (m : Model) (d : Data) (sets : Vec Grid Global) → map rows_read sets.items ≡ items_of_sets m d → ((s : ℕ) → size_at (map rows_read sets.items) s < 2 ^ 32) → FitsModel (world_in m sets)
tables_fit m d sets is few = record {
  sets = length-map sets.items (λ g. g.rows) ∙ sym (length-map sets.items rows_read) ∙ ap length is ∙ length-map m.sets (items_of_set m d);
  counts = λ s. rw (table_size sets.items s) (few s);
  rows = λ s k vs h. inside s k vs (slice_get sets.items s) refl h;
} where
  inside : (s k : ℕ) (vs : List Value) (o : Option Grid) → slice_get sets.items s ≡ o → slice_get (entities_of (world_in m sets) s) k ≡ Some vs → are_values_of (properties_of m (set_type m s)) vs ≡ true
  inside s k vs None at h =
      let empty : entities_of (world_in m sets) s ≡ [] = ap (λ o. unwrap_or o []) (slice_get-map (λ g. g.rows) sets.items s ∙ ap (option_map (λ g. g.rows)) at) in
      absurd (none-some vs (ap (λ l. slice_get l k) (sym empty) ∙ h))
  inside s k vs (Some r) at h =
      let rows : entities_of (world_in m sets) s ≡ r.rows = ap (λ o. unwrap_or o []) (slice_get-map (λ g. g.rows) sets.items s ∙ ap (option_map (λ g. g.rows)) at) in
      let table : option_map (items_of_set m d) (slice_get m.sets s) ≡ Some (map Some r.rows) = sym (slice_get-map (items_of_set m d) m.sets s) ∙ ap (λ l. slice_get l s) (sym is) ∙ slice_get-map rows_read sets.items s ∙ ap (option_map rows_read) at in
      set_fits m d s k r.rows [] vs table (ap (λ l. slice_get l k) (sym rows) ∙ h)
