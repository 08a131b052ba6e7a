-- The items of a set, one after another, and the first that is no entity.
use Rattle.std.proofs.Common.{◌≡◌, ℕ, zero, suc, ◌<◌, ◌≤◌, false, List, [], ◌∷◌, length, take, map, get_or, refl, ◌∙◌, ap, arith, Some, None}
use Rattle.std.specs.declared.option.Option.{Option}
use Rattle.std.specs.Option.{option_map, unwrap_or, is_some, is_none}
use Rattle.std.specs.List.{slice_get}
use Rattle.std.proofs.lemmas.Option.{slice_get-map, slice_get_read}
use Rattle.serde_json.specs.Data.{Data, null, boolean, number, string, array, object}
use Rattle.serde_json.specs.Find.{as_array}
use Rattle.serde_json.specs.View.{items_of}
use Rattle.edm_model.specs.JsonTrees.{is_array, items_in, item_list}
use Rattle.edm_data.specs.FirstItems.{IsFirstNone}

-- an item before the first that is none
read_before : {X R G : Type 0} (g : G → R) (f : X → Option R) (items : List X) (rows : List G) (k q : ℕ) → map (λ r. Some (g r)) rows ≡ map f (take k items) → k ≤ length items → q < k → is_none (unwrap_or (slice_get (map f items) q) None) ≡ false
read_before g f items rows zero q is within less = absurd (omega arith)
read_before g f [] rows (suc k) q is within less = absurd (omega arith)
read_before g f (x ∷ items) [] (suc k) q is within less = cc
read_before g f (x ∷ items) (row ∷ rows) (suc k) zero is within less = let here : f x ≡ Some (g row) = cc in rw here refl
read_before g f (x ∷ items) (row ∷ rows) (suc k) (suc q) is within less = let rest : map (λ r. Some (g r)) rows ≡ map f (take k items) = cc in read_before g f items rows k q rest (omega arith) (omega arith)

-- the first item that is no entity
pub IsFirstNone-at : {X R G : Type 0} (g : G → R) (f : X → Option R) (items : List X) (rows : List G) (k : ℕ) (x : X) → k < length items → x ≡ get_or items k x → map (λ r. Some (g r)) rows ≡ map f (take k items) → f x ≡ None → IsFirstNone (map f items) k
IsFirstNone-at g f items rows k x within item is none = record {
  here = slice_get-map f items k ∙ ap (option_map f) (slice_get_read items (length items) k x refl within item) ∙ ap Some none;
  before = λ q less. read_before g f items rows k q is (omega arith) less;
}

-- ---- arrays

pub is_array-is : (d : Data) → is_some (as_array d) ≡ is_array d
is_array-is null = refl
is_array-is (boolean b) = refl
is_array-is (number n) = refl
is_array-is (string t) = refl
is_array-is (array ds) = refl
is_array-is (object ms) = refl

pub item_list-of : (ds : List Data) → item_list (items_of ds) ≡ ds
item_list-of [] = refl
item_list-of (d ∷ ds) = ap (λ l. d ∷ l) (item_list-of ds)

-- the items of an array
pub items_are : (d : Data) (ds : List Data) → as_array d ≡ Some (items_of ds) → items_in d ≡ ds
items_are null ds h = cc
items_are (boolean b) ds h = cc
items_are (number n) ds h = cc
items_are (string t) ds h = cc
items_are (array xs) ds h = let same : xs ≡ items_of ds = cc in rw same (item_list-of ds)
items_are (object ms) ds h = cc

-- anything else has none
pub no_items : (d : Data) → as_array d ≡ None → items_in d ≡ []
no_items null h = refl
no_items (boolean b) h = refl
no_items (number n) h = refl
no_items (string t) h = refl
no_items (array xs) h = cc
no_items (object ms) h = refl
