-- What the passes over a file say of it.
use Rattle.std.proofs.Common.{◌≡◌, ℕ, ◌≤◌, true, false, List, length, refl, ◌∙◌, ap, Some, None, Result, Ok, Err, IfErr}
use Rattle.std.specs.Prelude.{not, if◌then◌else◌}
use Rattle.std.specs.declared.option.Option.{Option}
use Rattle.std.specs.Option.{option_map, unwrap_or}
use Rattle.std.specs.List.{find}
use Rattle.std.specs.Str.{is_utf8, IsUtf8}
use Rattle.std.proofs.lemmas.Str.{IsUtf8-from_is_utf8, is_utf8-from_IsUtf8}
use Rattle.std.proofs.lemmas.Bool.{le-ltb}
use Rattle.serde_json.specs.Data.{Data, null, boolean, number, string, array, object, Members}
use Rattle.serde_json.specs.Find.{as_object}
use Rattle.serde_json.specs.Read.{read}
use Rattle.edm_model.specs.Models.{Model}
use Rattle.edm_model.specs.JsonTrees.{Member, json_of, member_list}
use Rattle.edm_data.specs.DataFile.{DataReading, TooLong, NoJson, Set, unless_found, is_set_member, items_of_sets, rows_reading, entities_in_tree, entities_reading, data_limit}

-- a tree that is an object with these members
pub an_object : (m : Model) (d : Data) (ms : Members) → as_object d ≡ Some ms → entities_in_tree m d ≡ unless_found (find (λ e. not (is_set_member m e)) (member_list ms)) (λ e. Set e.0) (rows_reading m (items_of_sets m d))
an_object m null ms h = cc
an_object m (boolean b) ms h = cc
an_object m (number n) ms h = cc
an_object m (string t) ms h = cc
an_object m (array ds) ms h = cc
an_object m (object xs) ms h = let same : xs ≡ ms = cc in ap (λ l. unless_found (find (λ e. not (is_set_member m e)) (member_list l)) (λ e. Set e.0) (rows_reading m (items_of_sets m (object xs)))) same

-- each member is an array of a set
pub no_member_found : (o : Option Member) (next : DataReading) → option_map {U = List ℕ} (λ e. e.0) o ≡ None → unless_found o (λ e. Set e.0) next ≡ next
no_member_found None next h = refl
no_member_found (Some e) next h = cc

-- ---- the bytes

-- a file that keeps its limit and has a tree
pub with_tree : (m : Model) (file : List ℕ) (d : Data) → length file ≤ data_limit → IsUtf8 file → read file ≡ Some d → entities_reading m file ≡ entities_in_tree m d
with_tree m file d h utf8 tree =
    ap (λ b. if b then TooLong else unwrap_or (option_map (entities_in_tree m) (json_of file)) NoJson) (le-ltb data_limit (length file) h)
    ∙ ap (λ b. unwrap_or (option_map (entities_in_tree m) (if b then read file else None)) NoJson) (is_utf8-from_IsUtf8 file utf8)
    ∙ ap (λ o. unwrap_or (option_map (entities_in_tree m) o) NoJson) tree

-- a file that keeps its limit and has no tree
pub with_no_tree : (m : Model) (file : List ℕ) → length file ≤ data_limit → (IsUtf8 file → read file ≡ None) → entities_reading m file ≡ NoJson
with_no_tree m file h none =
    ap (λ b. if b then TooLong else unwrap_or (option_map (entities_in_tree m) (json_of file)) NoJson) (le-ltb data_limit (length file) h)
    ∙ (elim (is_utf8 file) as (λ b. is_utf8 file ≡ b → unwrap_or (option_map (entities_in_tree m) (if b then read file else None)) NoJson ≡ NoJson) [ true ↦ λ e. ap (λ o. unwrap_or (option_map (entities_in_tree m) o) NoJson) (none (IsUtf8-from_is_utf8 file e)) | false ↦ λ e. refl ]) refl

pub IfErr-then : {T E : Type 0} (r : Result T E) (P Q : E → Type 0) → ((x : E) → P x → Q x) → IfErr r P → IfErr r Q
IfErr-then (Ok x) P Q f h = tt
IfErr-then (Err e) P Q f h = f e h
