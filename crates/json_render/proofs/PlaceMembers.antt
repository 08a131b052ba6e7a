-- The members at a place are those of its parts, group by group.
use Rattle.std.proofs.Common.{◌≡◌, ℕ, Bool, true, false, cond, not, List, [], ◌∷◌, ◌++◌, Option, Some, None, map, flat_map, refl, sym, ◌∙◌, ap, subst, append_assoc}
use Rattle.std.specs.Prelude.{find, option_and_then, option_map, unwrap_or, if◌then◌else◌}
use Rattle.std.specs.List.{cons_option, enumerate_from}
use Rattle.std.proofs.lemmas.List.{append-nil, map-append}
use Rattle.std.proofs.lemmas.List.Elements.{filter-append, filter_map-append}
use Rattle.edm_values.specs.Lists.{first_some, in_byte_order, same_text}
use Rattle.edm_values.specs.Names.{Name, Path}
use Rattle.edm_values.specs.declared.Value.{Value}
use Rattle.edm_values.proofs.Reorderings.{Reorders, reorders-itself}
use Rattle.edm_values.proofs.SearchFacts.{find-joined, find_map-append}
use Rattle.edm_values.proofs.ListFacts.{flat_map-agree}
use Rattle.edm_model.specs.LookUps.{type_of_set}
use Rattle.edm_model.specs.Models.{EntityType, Property}
use Rattle.edm_data.specs.Worlds.{World, Entity}
use Rattle.edm_data.specs.References.{property}
use Rattle.apply_meaning.specs.Instances.{Instance}
use Rattle.json_render.specs.Bodies.{Shown, after_segment, entity_properties, further, here, is_here, names_of, properties_here, under, value_members}
use Rattle.json_render.specs.Places.{NamedPart, goes_inside, inside_of, next_parts, part_on}
use Rattle.json_render.specs.RowTexts.{bound_at, column_in, column_seen, columns_seen, ended_prefix, group_members, group_value, here_place, leaf_seen, members_here, parts_at, place_members, prefix_seen, prefixes_seen, property_part, property_parts, segment, set_parts, type_word}
use Rattle.json_render.specs.declared.entries.Part.{Part}
use Rattle.json_render.proofs.Depths.{name_members, one-level, place_names}
use Rattle.json_render.proofs.Grouping.{named, names_in, order-reorders}

-- ---- what stands under a name

under-prefix : (i : Instance) (n : Name) (p : Part) (rest : Path) (es : List NamedPart) → under n (prefixes_seen i es) ≡ prefixes_seen i (inside_of (named n (next_parts es)))
    → under n (cons_option (prefix_seen i p rest) (prefixes_seen i es)) ≡ prefixes_seen i (inside_of (named n (cons_option (part_on p rest) (next_parts es))))
under-prefix i n (Part.Prefix k) [] es h = h
under-prefix i n (Part.Prefix k) (m ∷ r) es h = go (same_text m n)
  where
    go : (b : Bool) → cons_option (option_map (λ s. (s, bound_at i k)) (if b then Some r else None)) (under n (prefixes_seen i es))
        ≡ prefixes_seen i (inside_of (cond b (record { name = m; rest = r; part = Part.Prefix k } ∷ named n (next_parts es)) (named n (next_parts es))))
    go true = ap (λ xs. (r, bound_at i k) ∷ xs) h
    go false = h
under-prefix i n (Part.Column k kind) [] es h = h
under-prefix i n (Part.Column k kind) (m ∷ r) es h = go (same_text m n)
  where
    at : (c : Bool) → under n (prefixes_seen i es) ≡ prefixes_seen i (cond (not c) (record { name = m; rest = r; part = Part.Column k kind } ∷ inside_of (named n (next_parts es))) (inside_of (named n (next_parts es))))
    at true = h
    at false = h

    go : (b : Bool) → under n (prefixes_seen i es) ≡ prefixes_seen i (inside_of (cond b (record { name = m; rest = r; part = Part.Column k kind } ∷ named n (next_parts es)) (named n (next_parts es))))
    go true = at (is_here r)
    go false = h
under-prefix i n (Part.Property k q) rest es h = h

under-prefixes : (i : Instance) (n : Name) (es : List NamedPart) → under n (prefixes_seen i es) ≡ prefixes_seen i (inside_of (named n (next_parts es)))
under-prefixes i n [] = refl
under-prefixes i n (e ∷ es) = under-prefix i n e.part e.rest es (under-prefixes i n es)

under-column : (i : Instance) (n : Name) (p : Part) (rest : Path) (es : List NamedPart) → further (under n (columns_seen i es)) ≡ columns_seen i (inside_of (named n (next_parts es)))
    → further (under n (cons_option (column_seen i p rest) (columns_seen i es))) ≡ columns_seen i (inside_of (named n (cons_option (part_on p rest) (next_parts es))))
under-column i n (Part.Prefix k) [] es h = h
under-column i n (Part.Prefix k) (m ∷ r) es h = go (same_text m n)
  where
    go : (b : Bool) → further (under n (columns_seen i es)) ≡ columns_seen i (inside_of (cond b (record { name = m; rest = r; part = Part.Prefix k } ∷ named n (next_parts es)) (named n (next_parts es))))
    go true = h
    go false = h
under-column i n (Part.Column k kind) [] es h = h
under-column i n (Part.Column k kind) (m ∷ r) es h = go (same_text m n)
  where
    v : Shown
    v = (column_in i k, option_map type_word kind)

    at : (s : Path) → further ((s, v) ∷ under n (columns_seen i es)) ≡ columns_seen i (inside_of (record { name = m; rest = s; part = Part.Column k kind } ∷ named n (next_parts es)))
    at [] = h
    at (m' ∷ s) = ap (λ xs. (m' ∷ s, v) ∷ xs) h

    go : (b : Bool) → further (cons_option (option_map (λ s. (s, v)) (if b then Some r else None)) (under n (columns_seen i es)))
        ≡ columns_seen i (inside_of (cond b (record { name = m; rest = r; part = Part.Column k kind } ∷ named n (next_parts es)) (named n (next_parts es))))
    go true = at r
    go false = h
under-column i n (Part.Property k q) rest es h = h

under-columns : (i : Instance) (n : Name) (es : List NamedPart) → further (under n (columns_seen i es)) ≡ columns_seen i (inside_of (named n (next_parts es)))
under-columns i n [] = refl
under-columns i n (e ∷ es) = under-column i n e.part e.rest es (under-columns i n es)

value-column : (w : World) (i : Instance) (n : Name) (p : Part) (rest : Path) (es : List NamedPart) → here (under n (columns_seen i es)) ≡ group_value w i (named n (next_parts es))
    → here (under n (cons_option (column_seen i p rest) (columns_seen i es))) ≡ group_value w i (named n (cons_option (part_on p rest) (next_parts es)))
value-column w i n (Part.Prefix k) [] es h = h
value-column w i n (Part.Prefix k) (m ∷ r) es h = go (same_text m n)
  where
    go : (b : Bool) → here (under n (columns_seen i es)) ≡ group_value w i (cond b (record { name = m; rest = r; part = Part.Prefix k } ∷ named n (next_parts es)) (named n (next_parts es)))
    go true = h
    go false = h
value-column w i n (Part.Column k kind) [] es h = h
value-column w i n (Part.Column k kind) (m ∷ r) es h = go (same_text m n)
  where
    v : Shown
    v = (column_in i k, option_map type_word kind)

    at : (s : Path) → here ((s, v) ∷ under n (columns_seen i es)) ≡ group_value w i (record { name = m; rest = s; part = Part.Column k kind } ∷ named n (next_parts es))
    at [] = refl
    at (m' ∷ s) = h

    go : (b : Bool) → here (cons_option (option_map (λ s. (s, v)) (if b then Some r else None)) (under n (columns_seen i es)))
        ≡ group_value w i (cond b (record { name = m; rest = r; part = Part.Column k kind } ∷ named n (next_parts es)) (named n (next_parts es)))
    go true = at r
    go false = h
value-column w i n (Part.Property k q) rest es h = h

value-columns : (w : World) (i : Instance) (n : Name) (es : List NamedPart) → here (under n (columns_seen i es)) ≡ group_value w i (named n (next_parts es))
value-columns w i n [] = refl
value-columns w i n (e ∷ es) = value-column w i n e.part e.rest es (value-columns w i n es)

-- ---- the prefix that ends here, and its properties

here-prefix : (i : Instance) (p : Part) (rest : Path) (es : List NamedPart) → here (prefixes_seen i es) ≡ option_map (bound_at i) (here_place es)
    → here (cons_option (prefix_seen i p rest) (prefixes_seen i es)) ≡ option_map (bound_at i) (first_some (ended_prefix p rest) (here_place es))
here-prefix i (Part.Prefix k) [] es h = refl
here-prefix i (Part.Prefix k) (m ∷ r) es h = h
here-prefix i (Part.Column k kind) rest es h = h
here-prefix i (Part.Property k q) rest es h = h

pub here-prefixes : (i : Instance) (es : List NamedPart) → here (prefixes_seen i es) ≡ option_map (bound_at i) (here_place es)
here-prefixes i [] = refl
here-prefixes i (e ∷ es) = here-prefix i e.part e.rest es (here-prefixes i es)

-- what parts show is what these entries have, and none of the parts is inside
record Matches (w : World) (i : Instance) (vs : List (Path × Shown)) (es : List NamedPart) : Type 0 where
  values : (n : Name) → here (under n vs) ≡ group_value w i (named n es)
  names : names_of vs ≡ names_in es
  inside : (n : Name) → inside_of (named n es) ≡ []

-- a property as it is shown
abbrev shown_property : World → Entity → ℕ × Property → Path × Shown
shown_property w e p = (p.1.name ∷ [], (property w e p.0, None))

property-value : (w : World) (i : Instance) (n : Name) (k : ℕ) (e : Entity) → bound_at i k ≡ Some e → (b : Bool) (p : ℕ × Property) (vs : List (Path × Shown)) (es : List NamedPart) → here vs ≡ group_value w i es
    → here (cons_option (option_map (λ s. (s, (shown_property w e p).1)) (if b then Some [] else None)) vs) ≡ group_value w i (cond b (property_part k p ∷ es) es)
property-value w i n k e g true p vs es h = sym (ap (λ o. Some (unwrap_or (option_map (λ e. property w e p.0) o) Value.Null, None)) g)
property-value w i n k e g false p vs es h = h

property-values : (w : World) (i : Instance) (n : Name) (k : ℕ) (e : Entity) → bound_at i k ≡ Some e → (ps : List (ℕ × Property)) → here (under n (map (shown_property w e) ps)) ≡ group_value w i (named n (map (property_part k) ps))
property-values w i n k e g [] = refl
property-values w i n k e g (p ∷ ps) = property-value w i n k e g (same_text p.1.name n) p (under n (map (shown_property w e) ps)) (named n (map (property_part k) ps)) (property-values w i n k e g ps)

property-names : (w : World) (k : ℕ) (e : Entity) (ps : List (ℕ × Property)) → names_of (map (shown_property w e) ps) ≡ names_in (map (property_part k) ps)
property-names w k e [] = refl
property-names w k e (p ∷ ps) = ap (λ ns. p.1.name ∷ ns) (property-names w k e ps)

outside : (b : Bool) (k : ℕ) (p : ℕ × Property) (es : List NamedPart) → inside_of es ≡ [] → inside_of (cond b (property_part k p ∷ es) es) ≡ []
outside true k p es h = h
outside false k p es h = h

no-inside : (n : Name) (k : ℕ) (ps : List (ℕ × Property)) → inside_of (named n (map (property_part k) ps)) ≡ []
no-inside n k [] = refl
no-inside n k (p ∷ ps) = outside (same_text p.1.name n) k p (named n (map (property_part k) ps)) (no-inside n k ps)

none-matches : (w : World) (i : Instance) → Matches w i [] []
none-matches w i = record { values = λ n. refl; names = refl; inside = λ n. refl }

set-matches : (w : World) (i : Instance) (k : ℕ) (e : Entity) → bound_at i k ≡ Some e → (o : Option EntityType)
    → Matches w i (unwrap_or (option_map (λ t. map (shown_property w e) (enumerate_from 0 t.properties)) o) []) (unwrap_or (option_map (λ t. map (property_part k) (enumerate_from 0 t.properties)) o) [])
set-matches w i k e g None = none-matches w i
set-matches w i k e g (Some t) = record {
  values = λ n. property-values w i n k e g (enumerate_from 0 t.properties);
  names = property-names w k e (enumerate_from 0 t.properties);
  inside = λ n. no-inside n k (enumerate_from 0 t.properties);
}

bound-matches : (w : World) (i : Instance) (k : ℕ) (b : Option Entity) → bound_at i k ≡ b → Matches w i (unwrap_or (option_map (entity_properties w) b) []) (unwrap_or (option_map (λ e. set_parts w.model k e.set) b) [])
bound-matches w i k None g = none-matches w i
bound-matches w i k (Some e) g = set-matches w i k e g (type_of_set w.model e.set)

place-matches : (w : World) (i : Instance) (o : Option ℕ)
    → Matches w i (unwrap_or (option_map (entity_properties w) (option_and_then (λ e. e) (option_map (bound_at i) o))) []) (unwrap_or (option_map (property_parts w i) o) [])
place-matches w i None = none-matches w i
place-matches w i (Some k) = bound-matches w i k (bound_at i k) refl

-- the properties at a place
abbrev properties_of_place : World → Instance → List NamedPart → List NamedPart
properties_of_place w i es = unwrap_or (option_map (property_parts w i) (here_place es)) []

property-matches : (w : World) (i : Instance) (es : List NamedPart) → Matches w i (properties_here w (prefixes_seen i es)) (properties_of_place w i es)
property-matches w i es =
    subst (λ o. Matches w i (unwrap_or (option_map (entity_properties w) (option_and_then (λ e. e) o)) []) (properties_of_place w i es)) (sym (here-prefixes i es)) (place-matches w i (here_place es))

-- ---- the names

pub to-front : (ms : List Name) (n : Name) (ns : List Name) → Reorders (ms ++ n ∷ ns) (n ∷ (ms ++ ns))
to-front [] n ns = reorders-itself (n ∷ ns)
to-front (m ∷ ms) n ns = Reorders.join (Reorders.keep m (to-front ms n ns)) (Reorders.swap m n (ms ++ ns))

part-names : (i : Instance) (p : Part) (rest : Path) (es : List NamedPart) (ns : List Name) → Reorders (names_of (prefixes_seen i es) ++ (names_of (columns_seen i es) ++ ns)) (names_in (next_parts es) ++ ns)
    → Reorders (names_of (cons_option (prefix_seen i p rest) (prefixes_seen i es)) ++ (names_of (cons_option (column_seen i p rest) (columns_seen i es)) ++ ns)) (names_in (cons_option (part_on p rest) (next_parts es)) ++ ns)
part-names i (Part.Prefix k) [] es ns h = h
part-names i (Part.Prefix k) (m ∷ r) es ns h = Reorders.keep m h
part-names i (Part.Column k kind) [] es ns h = h
part-names i (Part.Column k kind) (m ∷ r) es ns h = Reorders.join (to-front (names_of (prefixes_seen i es)) m (names_of (columns_seen i es) ++ ns)) (Reorders.keep m h)
part-names i (Part.Property k q) rest es ns h = h

place-names : (i : Instance) (es : List NamedPart) (ns : List Name) → Reorders (names_of (prefixes_seen i es) ++ (names_of (columns_seen i es) ++ ns)) (names_in (next_parts es) ++ ns)
place-names i [] ns = reorders-itself ns
place-names i (e ∷ es) ns = part-names i e.part e.rest es ns (place-names i es ns)

names-same : (w : World) (i : Instance) (es : List NamedPart) → place_names w (prefixes_seen i es) (columns_seen i es) ≡ in_byte_order (names_in (parts_at w i es))
names-same w i es =
    let ns = names_in (properties_of_place w i es) in
    ap in_byte_order (append_assoc (names_of (prefixes_seen i es)) (names_of (columns_seen i es)) (names_of (properties_here w (prefixes_seen i es))))
    ∙ ap (λ ms. in_byte_order (names_of (prefixes_seen i es) ++ (names_of (columns_seen i es) ++ ms))) (property-matches w i es).names
    ∙ order-reorders (place-names i es ns) ∙ ap in_byte_order (sym (map-append (λ (e : NamedPart). e.name) (next_parts es) (properties_of_place w i es)))

-- ---- the members

first-mapped : {X Y : Type 0} (a b : Option (X × Y)) → option_map (λ x. x.1) (first_some a b) ≡ first_some (option_map (λ x. x.1) a) (option_map (λ x. x.1) b)
first-mapped None b = refl
first-mapped (Some x) b = refl

here-joined : {X : Type 0} (xs ys : List (Path × X)) → here (xs ++ ys) ≡ first_some (here xs) (here ys)
here-joined xs ys = ap (option_map (λ x. x.1)) (find-joined (λ x. is_here x.0) xs ys) ∙ first-mapped (find (λ x. is_here x.0) xs) (find (λ x. is_here x.0) ys)

members-same : (w : World) (i : Instance) (es : List NamedPart) (n : Name) → name_members w (prefixes_seen i es) (columns_seen i es) (members_here w) n ≡ group_members w i n (named n (parts_at w i es))
members-same w i es n =
    let qs = properties_of_place w i es in
    let ps = properties_here w (prefixes_seen i es) in
    let m = property-matches w i es in
    let parts : named n (parts_at w i es) ≡ named n (next_parts es) ++ named n qs = filter-append (λ e. same_text e.name n) (next_parts es) qs in
    let inner : inside_of (named n (parts_at w i es)) ≡ inside_of (named n (next_parts es)) =
    ap inside_of parts ∙ filter-append goes_inside (named n (next_parts es)) (named n qs) ∙ ap (λ xs. inside_of (named n (next_parts es)) ++ xs) (m.inside n) ∙ append-nil (inside_of (named n (next_parts es))) in
    let value : here (under n (columns_seen i es ++ ps)) ≡ group_value w i (named n (parts_at w i es)) =
    ap here (filter_map-append (λ x. option_map (λ rest. (rest, x.1)) (after_segment n x.0)) (columns_seen i es) ps) ∙ here-joined (under n (columns_seen i es)) (under n ps)
    ∙ (λ j. first_some (value-columns w i n es j) (m.values n j)) ∙ sym (find_map-append (λ e. leaf_seen w i e.part e.rest) (named n (next_parts es)) (named n qs)) ∙ ap (group_value w i) (sym parts) in
    let us : under n (prefixes_seen i es) ≡ prefixes_seen i (inside_of (named n (parts_at w i es))) = under-prefixes i n es ∙ ap (prefixes_seen i) (sym inner) in
    let vs : further (under n (columns_seen i es)) ≡ columns_seen i (inside_of (named n (parts_at w i es))) = under-columns i n es ∙ ap (columns_seen i) (sym inner) in
    λ j. unwrap_or (option_map (value_members n) (value j)) [] ++ segment n (us j) (vs j) (members_here w (us j) (vs j))

-- the members at a place
pub place_by_groups : (w : World) (i : Instance) (es : List NamedPart) → place_members w i es ≡ flat_map (λ n. group_members w i n (named n (parts_at w i es))) (in_byte_order (names_in (parts_at w i es)))
place_by_groups w i es =
    one-level w (prefixes_seen i es) (columns_seen i es)
    ∙ (λ j. flat_map (name_members w (prefixes_seen i es) (columns_seen i es) (members_here w)) (names-same w i es j))
    ∙ flat_map-agree (name_members w (prefixes_seen i es) (columns_seen i es) (members_here w)) (λ n. group_members w i n (named n (parts_at w i es))) (members-same w i es) (in_byte_order (names_in (parts_at w i es)))
