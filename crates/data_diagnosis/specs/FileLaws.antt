-- The laws that tie the faults of an item to the tests of `data_tree_reading`, which refuses a file at the first item that fails one; as statements that a contract can name.
use Rattle.std.specs.Prelude.{◌≡◌, ◌↔◌, true, is_some, slice_get, Option, Some}
use Rattle.serde_json.specs.Data.{Data}
use Rattle.edm_model.specs.Models.{Navigation, Model, Part}
use Rattle.edm_model.specs.LookUps.{IsSet, navigation_on, set_type}
use Rattle.edm_model.specs.Soundness.{IsSound}
use Rattle.edm_data.specs.Worlds.{World, Entity}
use Rattle.edm_data.specs.References.{key}
use Rattle.edm_data.specs.DataFile.{World', entities_in_tree, items_of_sets, is_no_entity, has_earlier_key, dangles, is_dangling}
use Rattle.data_diagnosis.specs.declared.shapes.ShapeFault.{ShapeFault}
use Rattle.data_diagnosis.specs.EntityFaults.{is_shape_fault, key_in, items_in_set, earlier_place, misses, misses_one}

-- the item at the place of an entity
abbrev pub item_at : Model → Data → Entity → Option Data
item_at m d e = slice_get (items_in_set m d e.set) e.at

-- an item has a fault of shape exactly where the file's reading has no entity at its place
abbrev pub ShapeFaultsAreOfNoEntity : Type 0
ShapeFaultsAreOfNoEntity =
    (m : Model) (d : Data) (e : Entity) (x : Data) → IsSet m e.set → item_at m d e ≡ Some x → (is_no_entity (items_of_sets m d) e ≡ true) ↔ ((f : ShapeFault) × (is_shape_fault m (set_type m e.set) x f ≡ true))

-- where each item is an entity, the key of an item is that of the entity
abbrev pub KeysAreOfEntities : Type 0
KeysAreOfEntities =
    (m : Model) (d : Data) (w : World) (e : Entity) (x : Data) → IsSound m → entities_in_tree m d ≡ World' w → IsSet m e.set → item_at m d e ≡ Some x → key_in m e.set x ≡ Some (key w e)

-- where each item is an entity, an item has an earlier one of its key exactly where the key of the entity stands earlier
abbrev pub EarlierKeysAreOfEntities : Type 0
EarlierKeysAreOfEntities =
    (m : Model) (d : Data) (w : World) (e : Entity) (x : Data) → IsSound m → entities_in_tree m d ≡ World' w → IsSet m e.set → item_at m d e ≡ Some x → is_some (earlier_place m e.set (items_in_set m d e.set) e.at) ≡ has_earlier_key w e

-- where each item is an entity, an item refers by a navigation to a key that is not there exactly where the entity does
abbrev pub NavigationsDangle : Type 0
NavigationsDangle =
    (m : Model) (d : Data) (w : World) (e : Entity) (x : Data) (n : Part) (v : Navigation) → IsSound m → entities_in_tree m d ≡ World' w → IsSet m e.set → item_at m d e ≡ Some x → n.of ≡ set_type m e.set → navigation_on m n ≡ Some v → misses m d x n ≡ dangles w e v

-- where each item is an entity, an item refers to a key that is not there exactly where the entity does
abbrev pub MissingReferencesDangle : Type 0
MissingReferencesDangle =
    (m : Model) (d : Data) (w : World) (e : Entity) (x : Data) → IsSound m → entities_in_tree m d ≡ World' w → IsSet m e.set → item_at m d e ≡ Some x → misses_one m d e.set x ≡ is_dangling w e
