-- The parts of a row, one more at the end.
use Rattle.std.proofs.Common.{◌≡◌, ℕ, zero, suc, ◌+◌, ◌<◌, ◌≤◌, List, [], ◌∷◌, ◌++◌, Option, Some, None, length, map, take, get_or, refl, sym, ◌∙◌, ap, arith, add-one, append_assoc}
use Rattle.std.specs.Prelude.{slice_get, option_and_then, option_map, unwrap_or}
use Rattle.std.specs.List.{enumerate_from}
use Rattle.edm_values.specs.declared.Value.{Value}
use Rattle.edm_values.specs.Names.{Name, Path}
use Rattle.edm_data.specs.Worlds.{Entity}
use Rattle.context_typing.specs.Shapes.{Shape}
use Rattle.json_render.specs.declared.entries.Entry.{Entry}
use Rattle.json_render.specs.declared.entries.Part.{Part}
use Rattle.json_render.specs.Places.{NamedPart, named_parts, seen}
use Rattle.json_render.specs.RowTexts.{column_parts, column_path, prefix_parts, prefix_path, property_part, set_parts, shown_name}
use Rattle.std.proofs.lemmas.List.{map-append, take_all}
use Rattle.std.proofs.lemmas.Option.{get_or_from_slice_get, slice_get_within}
use Rattle.std.proofs.lemmas.List.FromFn.{length-enumerate_from}
use Rattle.edm_values.proofs.OptionFacts.{mapped, some_value}
use Rattle.edm_values.proofs.ListFacts.{none-past}
use Rattle.edm_model.specs.Models.{EntitySet, EntityType, Model, Part as Place, Property}
use Rattle.edm_model.specs.LookUps.{IsSet, parts, properties_of, set_type, type_at}
use Rattle.json_render.specs.declared.entries.TypeName.{TypeName}
use Rattle.json_render.proofs.SlotLemmas.{length-parts, part-there}

none-before : (n : ℕ) → 0 + n ≡ n
none-before n = omega arith

abbrev pub column_part : ℕ → Path → Option TypeName → NamedPart
column_part k p n = record { name = []; rest = p; part = Part.Column k n }

abbrev pub prefix_part : ℕ → Path → NamedPart
prefix_part k p = record { name = []; rest = p; part = Part.Prefix k }

-- one element more of a list that a loop goes over
pub taken-more : {X Y : Type 0} (f : X → Y) (xs : List X) (k : ℕ) (x : X) → k < length xs → x ≡ get_or xs k x → map f (take (suc k) xs) ≡ map f (take k xs) ++ f x ∷ []
taken-more f [] k x h i = absurd (omega arith)
taken-more f (y ∷ xs) zero x h i = ap (λ z. f z ∷ []) (sym i)
taken-more f (y ∷ xs) (suc k) x h i = ap (λ zs. f y ∷ zs) (taken-more f xs k x (omega arith) i)

length-taken : {X Y : Type 0} (f : X → Y) (xs : List X) (k : ℕ) → k < length xs → length (map f (take k xs)) ≡ k
length-taken f [] k h = absurd (omega arith)
length-taken f (x ∷ xs) zero h = refl
length-taken f (x ∷ xs) (suc k) h = ap suc (length-taken f xs k (omega arith))

prefix-end : (k : ℕ) (ps : List Path) (p : Path) → prefix_parts k (ps ++ p ∷ []) ≡ prefix_parts k ps ++ record { name = []; rest = p; part = Part.Prefix (k + length ps) } ∷ []
prefix-end k [] p = let e : k + 0 ≡ k = omega arith in ap (λ n. record { name = []; rest = p; part = Part.Prefix n } ∷ []) (sym e)
prefix-end k (q ∷ ps) p =
    let e : suc k + length ps ≡ k + suc (length ps) = omega arith in
    ap (λ es. record { name = []; rest = q; part = Part.Prefix k } ∷ es) (prefix-end (suc k) ps p ∙ ap (λ n. prefix_parts (suc k) ps ++ record { name = []; rest = p; part = Part.Prefix n } ∷ []) e)

column-end : (s : Shape) (k : ℕ) (ps : List Path) (p : Path) → column_parts s k (ps ++ p ∷ []) ≡ column_parts s k ps ++ record { name = []; rest = p; part = Part.Column (k + length ps) (shown_name s p) } ∷ []
column-end s k [] p = let e : k + 0 ≡ k = omega arith in ap (λ n. record { name = []; rest = p; part = Part.Column n (shown_name s p) } ∷ []) (sym e)
column-end s k (q ∷ ps) p =
    let e : suc k + length ps ≡ k + suc (length ps) = omega arith in
    ap (λ es. record { name = []; rest = q; part = Part.Column k (shown_name s q) } ∷ es) (column-end s (suc k) ps p ∙ ap (λ n. column_parts s (suc k) ps ++ record { name = []; rest = p; part = Part.Column n (shown_name s p) } ∷ []) e)

-- an entry behind those that stand for the first elements
pub one-more : {X : Type 0} (parts : List Path → List NamedPart) (path : X → Path) (xs : List X) (k : ℕ) (x : X) (start : List NamedPart) (old new : List Entry) (e : Entry) → k < length xs → x ≡ get_or xs k x
    → ((ps : List Path) → length ps ≡ k → parts (ps ++ path x ∷ []) ≡ parts ps ++ seen e ∷ []) → new ≡ old ++ e ∷ [] → named_parts old ≡ start ++ parts (map path (take k xs))
    → named_parts new ≡ start ++ parts (map path (take (k + 1) xs))
one-more parts path xs k x start old new e h i g p r =
    rw (add-one k) (ap named_parts p ∙ map-append seen old (e ∷ []) ∙ ap (λ zs. zs ++ seen e ∷ []) r ∙ append_assoc start (parts (map path (take k xs))) (seen e ∷ [])
    ∙ ap (λ zs. start ++ zs) (sym (g (map path (take k xs)) (length-taken path xs k h)) ∙ ap parts (sym (taken-more path xs k x h i))))

-- an element that has this path
there : {X : Type 0} (path : X → Path) (xs : List X) (k : ℕ) (p : Path) → option_map path (slice_get xs k) ≡ Some p → (x : X) × (k < length xs) × (x ≡ get_or xs k x) × (path x ≡ p)
there path xs k p h =
    let q = mapped path (slice_get xs k) p h in
    (q.0, slice_get_within xs k q.0 q.1, sym (get_or_from_slice_get xs k q.0 q.0 q.1), q.2)

pub more-prefix : (xs : List (Path × Option Entity)) (k : ℕ) (start : List NamedPart) (old new : List Entry) (e : Entry) (p : Path) → option_map prefix_path (slice_get xs k) ≡ Some p
    → seen e ≡ prefix_part k p → new ≡ old ++ e ∷ [] → named_parts old ≡ start ++ prefix_parts 0 (map prefix_path (take k xs))
    → named_parts new ≡ start ++ prefix_parts 0 (map prefix_path (take (k + 1) xs))
more-prefix xs k start old new e p o g n r =
    let t = there prefix_path xs k p o in
    one-more (prefix_parts 0) prefix_path xs k t.0 start old new e t.1 t.2
    (λ ps l. prefix-end 0 ps (prefix_path t.0) ∙ ap (λ n. prefix_parts 0 ps ++ prefix_part n (prefix_path t.0) ∷ []) (none-before (length ps) ∙ l) ∙ ap (λ q. prefix_parts 0 ps ++ prefix_part k q ∷ []) t.3 ∙ ap (λ y. prefix_parts 0 ps ++ y ∷ []) (sym g)) n r

pub more-column : (s : Shape) (xs : List (Path × Value)) (k : ℕ) (start : List NamedPart) (old new : List Entry) (e : Entry) (p : Path) → option_map column_path (slice_get xs k) ≡ Some p
    → seen e ≡ column_part k p (shown_name s p) → new ≡ old ++ e ∷ [] → named_parts old ≡ start ++ column_parts s 0 (map column_path (take k xs))
    → named_parts new ≡ start ++ column_parts s 0 (map column_path (take (k + 1) xs))
more-column s xs k start old new e p o g n r =
    let t = there column_path xs k p o in
    one-more (column_parts s 0) column_path xs k t.0 start old new e t.1 t.2
    (λ ps l. column-end s 0 ps (column_path t.0) ∙ ap (λ n. column_parts s 0 ps ++ column_part n (column_path t.0) (shown_name s (column_path t.0)) ∷ []) (none-before (length ps) ∙ l) ∙ ap (λ q. column_parts s 0 ps ++ column_part k q (shown_name s q) ∷ []) t.3 ∙ ap (λ y. column_parts s 0 ps ++ y ∷ []) (sym g)) n r

-- ---- properties

enumerated : {X : Type 0} (j : ℕ) (xs : List X) (k : ℕ) (x : X) → slice_get xs k ≡ Some x → slice_get (enumerate_from j xs) k ≡ Some (j + k, x)
enumerated j [] k x h = cc
enumerated j (y ∷ xs) zero x h = let e : j ≡ j + 0 = omega arith in ap (λ n. Some (n, y)) e ∙ ap (λ z. Some (j + 0, z)) (some_value h)
enumerated j (y ∷ xs) (suc k) x h = let e : j + 1 + k ≡ j + suc k = omega arith in enumerated (j + 1) xs k x h ∙ ap (λ n. Some (n, x)) e

pub more-property : (k : ℕ) (ps : List Property) (at : ℕ) (name : Name) (start : List NamedPart) (old new : List Entry) (e : Entry) → option_map (λ q. q.name) (slice_get ps at) ≡ Some name
    → new ≡ old ++ e ∷ [] → seen e ≡ record { name = name; rest = []; part = Part.Property k at } → named_parts old ≡ start ++ map (property_part k) (take at (enumerate_from 0 ps))
    → named_parts new ≡ start ++ map (property_part k) (take (at + 1) (enumerate_from 0 ps))
more-property k ps at name start old new e h p g r =
    let q = mapped (λ (q : Property). q.name) (slice_get ps at) name h in
    let x : ℕ × Property = (at, q.0) in
    let there : slice_get (enumerate_from 0 ps) at ≡ Some x = enumerated 0 ps at q.0 q.1 ∙ ap (λ n. Some (n, q.0)) (none-before at) in
    let below = slice_get_within (enumerate_from 0 ps) at x there in
    let is = sym (get_or_from_slice_get (enumerate_from 0 ps) at x x there) in
    rw (add-one at) (ap named_parts p ∙ map-append seen old (e ∷ []) ∙ ap (λ zs. zs ++ seen e ∷ []) r ∙ append_assoc start (map (property_part k) (take at (enumerate_from 0 ps))) (seen e ∷ [])
    ∙ ap (λ zs. start ++ (map (property_part k) (take at (enumerate_from 0 ps)) ++ zs)) (ap (λ y. y ∷ []) (g ∙ ap (λ n. record { name = n; rest = []; part = Part.Property k at }) (sym q.2)))
    ∙ ap (λ zs. start ++ zs) (sym (taken-more (property_part k) (enumerate_from 0 ps) at x below is)))

-- the properties of the type of a set
pub all-properties : (m : Model) (k s at : ℕ) → IsSet m s → length (properties_of m (set_type m s)) ≤ at → map (property_part k) (take at (enumerate_from 0 (properties_of m (set_type m s)))) ≡ set_parts m k s
all-properties m k s at h l =
    let ps = properties_of m (set_type m s) in
    let long = length-enumerate_from 0 ps in
    ap (map (property_part k)) (take_all at (enumerate_from 0 ps) (omega arith)) ∙ go (slice_get m.sets s) refl
  where
    typed : (o : Option EntityType) → map (property_part k) (enumerate_from 0 (unwrap_or (option_map (λ e. e.properties) o) [])) ≡ unwrap_or (option_map (λ t. map (property_part k) (enumerate_from 0 t.properties)) o) []
    typed None = refl
    typed (Some t) = refl

    go : (o : Option EntitySet) → slice_get m.sets s ≡ o → map (property_part k) (enumerate_from 0 (properties_of m (unwrap_or (option_map (λ es. es.of) o) 0)))
        ≡ unwrap_or (option_map (λ t. map (property_part k) (enumerate_from 0 t.properties)) (option_and_then (λ es. type_at m es.of) o)) []
    go None g = let past : length m.sets ≤ s = none-past m.sets s g in absurd (omega (arith, past, h))
    go (Some es) g = typed (type_at m es.of)

-- the part at a place
pub part-read : (t n k : ℕ) (ps : List Place) (p : Place) → ps ≡ parts t n → k < length ps → p ≡ get_or ps k p → (k < n) × (p ≡ record { of = t; at = k })
part-read t n k ps p h l g =
    let long : length (parts t n) ≡ n = length-parts t n in
    let same = ap length h in
    let below : k < n = omega arith in
    (below, g ∙ ap (λ xs. get_or xs k p) h ∙ get_or_from_slice_get (parts t n) k (record { of = t; at = k }) p (part-there t n k below))
