-- Entities that are kept in vectors, and the lists of their world.
use Rattle.std.proofs.Common.{◌≡◌, ℕ, zero, suc, ◌<◌, true, List, [], ◌∷◌, map, length, get_or, refl, ap, sym, ◌∙◌, arith, Some, None}
use Rattle.std.specs.declared.option.Option.{Option}
use Rattle.std.specs.Option.{option_map, option_and_then, unwrap_or}
use Rattle.std.specs.List.{slice_get}
use Rattle.std.proofs.lemmas.Option.{slice_get-map, unwrap_or-slice_get}
use Rattle.edm_values.specs.declared.Value.{Value}
use Rattle.edm_values.specs.Values.{value_in}
use Rattle.edm_model.specs.Models.{Property, EntitySet, Model}
use Rattle.edm_model.specs.LookUps.{set_type, key_of, key_at, type_at, IsSet}
use Rattle.edm_data.specs.Fitting.{are_values_of, is_value_of}
use Rattle.std.proofs.lemmas.Bool.{false≢true}
use Rattle.edm_values.proofs.EachLemmas.{and-right}

pub length-are_values_of : (ps : List Property) (vs : List Value) → are_values_of ps vs ≡ true → length vs ≡ length ps
length-are_values_of [] [] h = refl
length-are_values_of [] (v ∷ vs) h = absurd (false≢true h)
length-are_values_of (p ∷ ps) [] h = absurd (false≢true h)
length-are_values_of (p ∷ ps) (v ∷ vs) h = ap suc (length-are_values_of ps vs (and-right (is_value_of p v) (are_values_of ps vs) h))

-- the place of the key, by the set and by its type
pub key_place : (m : Model) (s : ℕ) → IsSet m s → (key_of m (set_type m s)).at ≡ key_at m s
key_place m s there = ap (λ o. unwrap_or (option_map (λ t. t.key) o) 0) (types m.sets (type_at m) s there) where
  types : {T : Type 0} (sets : List EntitySet) (type : ℕ → Option T) (s : ℕ) → s < length sets → type (unwrap_or (option_map (λ es. es.of) (slice_get sets s)) 0) ≡ option_and_then (λ es. type es.of) (slice_get sets s)
  types [] type s h = absurd (omega arith)
  types (e ∷ es) type zero h = refl
  types (e ∷ es) type (suc s) h = types es type s (omega arith)

-- ---- a column of the rows

-- the key at a place of the keys is that of the row there
pub key_there : (rows : List (List Value)) (k p : ℕ) → value_in (unwrap_or (slice_get rows p) []) k ≡ get_or (map (λ vs. value_in vs k) rows) p Value.Null
key_there rows k p = sym (sym (unwrap_or-slice_get (map (λ vs. value_in vs k) rows) p Value.Null) ∙ ap (λ o. unwrap_or o Value.Null) (slice_get-map (λ vs. value_in vs k) rows p) ∙ inside (slice_get rows p)) where
  inside : (o : Option (List Value)) → unwrap_or (option_map (λ vs. value_in vs k) o) Value.Null ≡ value_in (unwrap_or o []) k
  inside None = refl
  inside (Some vs) = refl
