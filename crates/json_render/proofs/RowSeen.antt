-- The parts of a row, seen as those of any row of its pattern.
use Rattle.std.proofs.Common.{◌≡◌, ℕ, suc, ◌+◌, ◌<◌, Bool, true, false, List, [], ◌∷◌, ◌++◌, Option, Some, None, length, map, refl, sym, ◌∙◌, ap, arith, length-append}
use Rattle.std.specs.Prelude.{slice_get, option_and_then, option_map, unwrap_or, if◌then◌else◌, reverse}
use Rattle.std.proofs.lemmas.List.{append-nil}
use Rattle.std.proofs.lemmas.List.Elements.{filter_map-append}
use Rattle.std.proofs.lemmas.Simd.{map-map}
use Rattle.edm_values.specs.declared.EdmType.{EdmType}
use Rattle.edm_values.specs.declared.Value.{Value}
use Rattle.edm_values.specs.Names.{Path}
use Rattle.edm_data.specs.Worlds.{World, Entity}
use Rattle.context_typing.specs.Shapes.{ColumnShape, Shape}
use Rattle.context_typing.specs.Typing.{column_at}
use Rattle.apply_meaning.specs.Instances.{Instance}
use Rattle.json_render.specs.Bodies.{shown_columns, shown_type, type_text}
use Rattle.json_render.specs.RowTexts.{SamePattern, bound_at, column_in, column_parts, column_path, column_seen, columns_seen, filled, members_here, place_members, prefix_parts, prefix_path, prefix_seen, prefix_set, prefixes_seen, row_parts, shown_name, template_text, type_name, type_word, unwritten_text}
use Rattle.json_render.specs.declared.members.Unwritten.{Unwritten}
use Rattle.json_render.specs.declared.templates.Template.{Template}

-- the path of a prefix beside a set
abbrev set_path : Path × Option ℕ → Path
set_path x = x.0

-- rows of one pattern have the same parts
same-row_parts : (s : Shape) (i j : Instance) → SamePattern i j → row_parts s i ≡ row_parts s j
same-row_parts s i j h =
    let paths : map prefix_path i.prefixes ≡ map prefix_path j.prefixes = sym (map-map set_path prefix_set i.prefixes) ∙ ap (map set_path) h.prefixes ∙ map-map set_path prefix_set j.prefixes in
    λ k. prefix_parts 0 (paths k) ++ column_parts s 0 (h.columns k)

-- ---- prefixes

prefix-rows : (i : Instance) (k : ℕ) (xs : List (Path × Option Entity)) → ((j : ℕ) → slice_get xs j ≡ slice_get i.prefixes (k + j)) → prefixes_seen i (prefix_parts k (map prefix_path xs)) ≡ xs
prefix-rows i k [] h = refl
prefix-rows i k (x ∷ xs) h =
    let here : k + 0 ≡ k = omega arith in
    let bound : bound_at i k ≡ x.1 = ap (option_and_then (λ (y : Path × Option Entity). y.1)) (ap (slice_get i.prefixes) (sym here) ∙ sym (h 0)) in
    let step : (j : ℕ) → slice_get xs j ≡ slice_get i.prefixes (suc k + j) = λ j. let e : k + suc j ≡ suc k + j = omega arith in h (suc j) ∙ ap (slice_get i.prefixes) e in
    λ l. (x.0, bound l) ∷ prefix-rows i (suc k) xs step l

no-prefixes : (s : Shape) (i : Instance) (k : ℕ) (ps : List Path) → prefixes_seen i (column_parts s k ps) ≡ []
no-prefixes s i k [] = refl
no-prefixes s i k (p ∷ ps) = no-prefixes s i (suc k) ps

-- ---- columns

named-type : (k : EdmType) → option_map type_word (type_name k) ≡ type_text k
named-type EdmType.Int = refl
named-type (EdmType.Dec scale precision) = refl
named-type EdmType.Day = refl
named-type EdmType.Bool = refl
named-type EdmType.Text = refl

pub named-shown : (s : Shape) (p : Path) → option_map type_word (shown_name s p) ≡ shown_type s p
named-shown s p = go (column_at s p)
  where
    at : (b : Bool) (k : EdmType) → option_map type_word (if b then None else type_name k) ≡ (if b then None else type_text k)
    at true k = refl
    at false k = named-type k

    go : (o : Option ColumnShape) → option_map type_word (option_and_then (λ c. if c.declared then None else type_name c.kind) o) ≡ option_and_then (λ c. if c.declared then None else type_text c.kind) o
    go None = refl
    go (Some c) = at c.declared c.kind

column-rows : (s : Shape) (i : Instance) (k : ℕ) (xs : List (Path × Value)) → ((j : ℕ) → slice_get xs j ≡ slice_get i.columns (k + j)) → columns_seen i (column_parts s k (map column_path xs)) ≡ map (λ c. (c.0, (c.1, shown_type s c.0))) xs
column-rows s i k [] h = refl
column-rows s i k (x ∷ xs) h =
    let here : k + 0 ≡ k = omega arith in
    let value : column_in i k ≡ x.1 = ap (λ o. unwrap_or (option_map (λ (c : Path × Value). c.1) o) Value.Null) (ap (slice_get i.columns) (sym here) ∙ sym (h 0)) in
    let step : (j : ℕ) → slice_get xs j ≡ slice_get i.columns (suc k + j) = λ j. let e : k + suc j ≡ suc k + j = omega arith in h (suc j) ∙ ap (slice_get i.columns) e in
    λ l. (x.0, (value l, named-shown s x.0 l)) ∷ column-rows s i (suc k) xs step l

no-columns : (i : Instance) (k : ℕ) (ps : List Path) → columns_seen i (prefix_parts k ps) ≡ []
no-columns i k [] = refl
no-columns i k (p ∷ ps) = no-columns i (suc k) ps

none-added : (xs : List ℕ) (k : ℕ) → 0 + k ≡ k
none-added xs k = omega arith

-- ---- the members of a row

pub row-members : (w : World) (s : Shape) (r i : Instance) → SamePattern r i → place_members w i (row_parts s r) ≡ members_here w i.prefixes (shown_columns s i)
row-members w s r i h =
    let ps = prefix_parts 0 (map prefix_path i.prefixes) in
    let cs = column_parts s 0 (map column_path i.columns) in
    let p : prefixes_seen i (ps ++ cs) ≡ i.prefixes =
    filter_map-append (λ e. prefix_seen i e.part e.rest) ps cs ∙ (λ l. prefix-rows i 0 i.prefixes (λ j. ap (slice_get i.prefixes) (sym (none-added [] j))) l ++ no-prefixes s i 0 (map column_path i.columns) l) ∙ append-nil i.prefixes in
    let c : columns_seen i (ps ++ cs) ≡ shown_columns s i =
    filter_map-append (λ e. column_seen i e.part e.rest) ps cs ∙ (λ l. no-columns i 0 (map prefix_path i.prefixes) l ++ column-rows s i 0 i.columns (λ j. ap (slice_get i.columns) (sym (none-added [] j))) l) in
    ap (place_members w i) (same-row_parts s r i h) ∙ (λ l. members_here w (p l) (c l))

-- ---- what is left to be written grows shorter

pub text-shorter : (w : World) (i : Instance) (t u : Template) (left popped more : List Unwritten) → filled w i u more ≡ filled w i t popped → left ≡ popped → length (template_text w i t) < length (template_text w i u)
    → length (unwritten_text w i u.after_member (reverse more)) < length (unwritten_text w i t.after_member (reverse left))
text-shorter w i t u left popped more h e l =
    let a = length-append (template_text w i u) (unwritten_text w i u.after_member (reverse more)) in
    let b = length-append (template_text w i t) (unwritten_text w i t.after_member (reverse left)) in
    let c = ap length (h ∙ ap (λ us. filled w i t us) (sym e)) in
    omega arith
