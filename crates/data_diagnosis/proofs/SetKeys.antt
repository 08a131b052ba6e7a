-- Items of a set by their keys.
use Rattle.std.proofs.Common.{◌≡◌, ℕ, Bool, List, [], map, take, ◌∙◌, ap, Some}
use Rattle.std.specs.declared.option.Option.{Option}
use Rattle.std.specs.Option.{option_map, option_and_then, unwrap_or}
use Rattle.std.specs.List.{list_any, position, slice_get}
use Rattle.std.proofs.lemmas.List.{take-map}
use Rattle.std.proofs.lemmas.Option.{slice_get-map}
use Rattle.serde_json.specs.Data.{Data}
use Rattle.serde_json.specs.View.{view}
use Rattle.serde_json.specs.declared.value.Value.{Value as Json}
use Rattle.edm_values.specs.declared.Value.{Value}
use Rattle.edm_model.specs.Models.{Model}
use Rattle.edm_data.specs.DataFile.{array_in}
use Rattle.edm_data.proofs.SeenKeys.{list_any-map, position-map}
use Rattle.data_diagnosis.specs.EntityFaults.{earlier_place, has_key, key_in, same_key}

-- whether an item of a set has a key, by the items
pub has_key-is : (m : Model) (root : Data) (s : ℕ) (v : Option Value) (items : List Json) → option_map (array_in root) (slice_get m.sets s) ≡ Some (map view items) → has_key m root s v ≡ list_any (λ y. same_key v (key_in m s (view y))) items
has_key-is m root s v items is = ap (λ o. list_any (λ x. same_key v (key_in m s x)) (unwrap_or o [])) is ∙ list_any-map view (λ x. same_key v (key_in m s x)) items

-- the first item before this one that has its key, by the items
pub earlier_place-is : (m : Model) (s : ℕ) (items : List Json) (k : ℕ) (x : Json) → slice_get items k ≡ Some x → earlier_place m s (map view items) k ≡ position (λ y. same_key (key_in m s (view x)) (key_in m s (view y))) (take k items)
earlier_place-is m s items k x at =
    let test : Data → Bool = λ y. same_key (key_in m s (view x)) (key_in m s y) in
    ap (option_and_then (λ x. position (λ y. same_key (key_in m s x) (key_in m s y)) (take k (map view items)))) (slice_get-map view items k ∙ ap (option_map view) at)
    ∙ ap (position test) (take-map view k items)
    ∙ position-map view test (take k items)
