-- What stands in the slots of rows: their prefixes with the root before them, and values in range.
use Rattle.std.proofs.lemmas.List.Folds.{list_any_more}
use Rattle.std.proofs.Common.{◌≡◌, ℕ, zero, suc, ◌+◌, ◌||◌, Bool, take, ◌<◌, ◌≤◌, true, false, List, [], ◌∷◌, Option, Some, None, length, refl, sym, ◌∙◌, ap, arith, get_or, inl, inr}
use Rattle.std.specs.Prelude.{◌⊎◌, slice_get, option_and_then, option_map, unwrap_or, is_some, IsTrue}
use Rattle.std.specs.List.{list_any}
use Rattle.std.proofs.lemmas.Bool.{and_parts, cases_lt, or_parts, false≢true}
use Rattle.std.proofs.lemmas.List.{length-map}
use Rattle.std.proofs.lemmas.Option.{slice_get-get_or, slice_get-map, slice_get_past, slice_get_within}
use Rattle.edm_values.specs.declared.Value.{Value}
use Rattle.edm_values.specs.Values.{is_beyond, value_in}
use Rattle.edm_values.specs.Literals.{is_of_kind}
use Rattle.edm_values.specs.Names.{Path}
use Rattle.edm_values.proofs.ListFacts.{all-at}
use Rattle.edm_values.proofs.OptionFacts.{none_or, some_value}
use Rattle.edm_model.specs.Models.{Part, Property}
use Rattle.edm_model.specs.LookUps.{parts, properties_of, set_type}
use Rattle.edm_data.specs.Worlds.{World, Entity}
use Rattle.edm_data.specs.Fitting.{FitsModel, are_values_of, is_value_of}
use Rattle.edm_data.specs.References.{entities_of, entity_type, property}
use Rattle.edm_data.proofs.PlaceLemmas.{get_or-places}
use Rattle.edm_data.proofs.TableLemmas.{length-are_values_of}
use Rattle.edm_values.specs.Lists.{places}
use Rattle.edm_values.proofs.TopPlaces.{length-places}
use Rattle.context_typing.specs.Paths.{is_none_or}
use Rattle.apply_meaning.specs.Instances.{Instance}
use Rattle.apply_meaning.specs.RowViews.{is_of, with_root}
use Rattle.json_render.specs.RowTexts.{bound_at}

-- ---- prefixes

abbrev Prefix : Type 0
Prefix = Path × Option Entity

-- the first prefix is the root, where there is one
pub bound-root : (i : Instance) (r : Option Entity) (ps : List Prefix) (e : Entity) → i.prefixes ≡ with_root r ps → r ≡ Some e → Some e ≡ bound_at i 0
bound-root i r ps e h g = sym (ap (λ xs. option_and_then (λ (x : Prefix). x.1) (slice_get xs 0)) (h ∙ ap (λ o. with_root o ps) g))

-- an entity that stands at a prefix is of a set of the model
pub set-of_bound : (w : World) (i : Instance) (k : ℕ) (e : Entity) → IsTrue (is_of w i) → bound_at i k ≡ Some e → e.set < length w.model.sets
set-of_bound w i k e h b = go (slice_get i.prefixes k) refl b
  where
    within : (o : Option _) → slice_get w.model.sets e.set ≡ o → is_some (option_map (λ s. s.of) o) ≡ true → e.set < length w.model.sets
    within None s t = absurd (false≢true t)
    within (Some x) s t = slice_get_within w.model.sets e.set x s

    at : (x : Option Entity) → x ≡ Some e → is_none_or (λ e. is_some (entity_type w e)) x ≡ true → e.set < length w.model.sets
    at None g t = none_or e g
    at (Some e') g t = within (slice_get w.model.sets e.set) refl (ap (λ z. is_some (entity_type w z)) (sym (some_value g)) ∙ t)

    go : (o : Option Prefix) → slice_get i.prefixes k ≡ o → option_and_then (λ (x : Prefix). x.1) o ≡ Some e → e.set < length w.model.sets
    go None s g = none_or e g
    go (Some x) s g = at x.1 g (all-at (λ x. is_none_or (λ e. is_some (entity_type w e)) x.1) i.prefixes k x h s)

-- ---- properties

abbrev part_of : ℕ → ℕ → Part
part_of t k = record { of = t; at = k }

pub length-parts : (t n : ℕ) → length (parts t n) ≡ n
length-parts t n = length-map (places n) (part_of t) ∙ length-places n

pub part-there : (t n k : ℕ) → k < n → slice_get (parts t n) k ≡ Some (part_of t k)
part-there t n k l =
    let long = length-places n in
    slice_get-map (part_of t) (places n) k ∙ ap (option_map (part_of t)) (slice_get-get_or (places n) k 0 (omega arith) ∙ ap Some (get_or-places n k 0 l))

-- the place of a part among those of its type
pub part-place : (t n k : ℕ) (p : Part) → slice_get (parts t n) k ≡ Some p → p.at ≡ k
part-place t n k p h =
    let below = slice_get_within (parts t n) k p h in
    let long = length-parts t n in
    let l : k < n = omega arith in
    ap (λ (x : Part). x.at) (some_value (sym h ∙ part-there t n k l))

-- where there is no part, the list has ended
pub part-past : (t n k : ℕ) → slice_get (parts t n) k ≡ None → n ≤ k
part-past t n k h = go (cases_lt k n)
  where
    go : (k < n) ⊎ (n ≤ k) → n ≤ k
    go (inl l) = let long = length-parts t n in let d = part_of t 0 in none_or (get_or (parts t n) k d) (sym h ∙ slice_get-get_or (parts t n) k d (omega arith))
    go (inr m) = m

value-in_range : (ps : List Property) (vs : List Value) (k : ℕ) → are_values_of ps vs ≡ true → is_beyond (value_in vs k) ≡ false
value-in_range [] [] k h = refl
value-in_range [] (v ∷ vs) k h = absurd (false≢true h)
value-in_range (p ∷ ps) [] k h = refl
value-in_range (p ∷ ps) (v ∷ vs) zero h = first v (and_parts (is_value_of p v) (are_values_of ps vs) h).0
  where
    first : (v : Value) → is_value_of p v ≡ true → is_beyond v ≡ false
    first Value.Null g = refl
    first (Value.Bool b) g = refl
    first (Value.Int z) g = refl
    first (Value.Dec d) g = refl
    first (Value.Text t) g = refl
    first (Value.Day d) g = refl
    first Value.Beyond g = absurd (false≢true (and_parts (is_of_kind p.kind Value.Beyond) false g).1)
value-in_range (p ∷ ps) (v ∷ vs) (suc k) h = value-in_range ps vs k (and_parts (is_value_of p v) (are_values_of ps vs) h).1

-- no property of an entity is past its range
pub property-in_range : (w : World) → FitsModel w → (e : Entity) (k : ℕ) → is_beyond (property w e k) ≡ false
property-in_range w F e k = go (slice_get (entities_of w e.set) e.at) refl
  where
    go : (o : Option (List Value)) → slice_get (entities_of w e.set) e.at ≡ o → is_beyond (value_in (unwrap_or o []) k) ≡ false
    go None s = refl
    go (Some vs) s = value-in_range (properties_of w.model (set_type w.model e.set)) vs k (F.rows e.set e.at vs s)

-- past the properties of its type an entity has none
pub property-past : (w : World) → FitsModel w → (e : Entity) (k : ℕ) → length (properties_of w.model (set_type w.model e.set)) ≤ k → Value.Null ≡ property w e k
property-past w F e k h = go (slice_get (entities_of w e.set) e.at) refl
  where
    go : (o : Option (List Value)) → slice_get (entities_of w e.set) e.at ≡ o → Value.Null ≡ value_in (unwrap_or o []) k
    go None s = refl
    go (Some vs) s =
        let long = length-are_values_of (properties_of w.model (set_type w.model e.set)) vs (F.rows e.set e.at vs s) in
        sym (ap (λ o. unwrap_or o Value.Null) (slice_get_past vs k (omega arith)))

-- ---- slots

-- the value of a column is in range, where none is past its range
pub column-in_range : (cs : List (Path × Value)) (k : ℕ) → list_any (λ c. is_beyond c.1) cs ≡ false → is_beyond (unwrap_or (option_map (λ c. c.1) (slice_get cs k)) Value.Null) ≡ false
column-in_range [] k h = refl
column-in_range (c ∷ cs) zero h = (or_parts (is_beyond c.1) (list_any (λ c. is_beyond c.1) cs) h).0
column-in_range (c ∷ cs) (suc k) h = column-in_range cs k (or_parts (is_beyond c.1) (list_any (λ c. is_beyond c.1) cs) h).1

or-true : (b : Bool) → (b || true) ≡ true
or-true true = refl
or-true false = refl

-- a column that is past its range is there
pub beyond-there : (cs : List (Path × Value)) (k : ℕ) → is_beyond (unwrap_or (option_map (λ c. c.1) (slice_get cs k)) Value.Null) ≡ true → list_any (λ c. is_beyond c.1) cs ≡ true
beyond-there [] k h = absurd (false≢true h)
beyond-there (c ∷ cs) zero h = ap (λ b. b || list_any (λ (x : Path × Value). is_beyond x.1) cs) h
beyond-there (c ∷ cs) (suc k) h = ap (λ b. is_beyond c.1 || b) (beyond-there cs k h) ∙ or-true (is_beyond c.1)

-- one column more that is not
pub beyond-more : (cs : List (Path × Value)) (k : ℕ) → k < length cs → is_beyond (unwrap_or (option_map (λ c. c.1) (slice_get cs k)) Value.Null) ≡ false → list_any (λ c. is_beyond c.1) (take k cs) ≡ false
    → list_any (λ c. is_beyond c.1) (take (k + 1) cs) ≡ false
beyond-more cs k l h t =
    let d : Path × Value = ([], Value.Null) in
    let here : is_beyond (get_or cs k d).1 ≡ false = sym (ap (λ o. is_beyond (unwrap_or (option_map (λ (x : Path × Value). x.1) o) Value.Null)) (slice_get-get_or cs k d l)) ∙ h in
    list_any_more (λ (x : Path × Value). is_beyond x.1) cs k d l ∙ (λ j. t j || here j)
