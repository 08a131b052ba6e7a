-- The items at a place are those of its parts, group by group.
use Rattle.std.proofs.Common.{◌≡◌, ℕ, ◌<◌, Bool, true, false, cond, not, ◌&&◌, List, [], ◌∷◌, ◌++◌, Option, Some, None, length, map, flat_map, refl, sym, ◌∙◌, ap, append_assoc, add-one, arith, get_or, take, ◌+◌}
use Rattle.std.specs.Prelude.{filter_map, if◌then◌else◌}
use Rattle.std.specs.List.{cons_option, list_all, list_any}
use Rattle.std.proofs.lemmas.Bool.{and_parts, and_right, false≢true}
use Rattle.std.proofs.lemmas.List.{map-append}
use Rattle.std.proofs.lemmas.List.Elements.{filter_map-append}
use Rattle.edm_values.specs.Lists.{in_byte_order, same_text}
use Rattle.edm_values.specs.Names.{Name, Path}
use Rattle.edm_values.proofs.Reorderings.{Reorders}
use Rattle.edm_values.proofs.ListFacts.{flat_map-agree}
use Rattle.json_render.specs.Bodies.{first_names, going_on, is_empty, is_here, paths_under}
use Rattle.json_render.specs.ItemTexts.{column_paths, column_rest, ends_column, group_items, items_here, place_items, prefix_paths, prefix_rest, segment_items}
use Rattle.json_render.specs.Places.{NamedPart, goes_inside, inside_of, named_parts, next_parts, part_inside, part_on, seen}
use Rattle.json_render.specs.declared.entries.Entry.{Entry}
use Rattle.json_render.specs.declared.entries.Part.{Part}
use Rattle.json_render.proofs.PlaceMembers.{to-front}
use Rattle.json_render.proofs.RowParts.{taken-more}
use Rattle.json_render.proofs.ItemDepths.{name_items, one-level, star}
use Rattle.json_render.proofs.Grouping.{named, names_in, order-reorders}

-- ---- what stands under a name

under-prefix : (n : Name) (p : Part) (rest : Path) (es : List NamedPart) → paths_under n (prefix_paths es) ≡ prefix_paths (inside_of (named n (next_parts es)))
    → paths_under n (cons_option (prefix_rest p rest) (prefix_paths es)) ≡ prefix_paths (inside_of (named n (cons_option (part_on p rest) (next_parts es))))
under-prefix n (Part.Prefix k) [] es h = h
under-prefix n (Part.Prefix k) (m ∷ r) es h = go (same_text m n)
  where
    go : (b : Bool) → cons_option (if b then Some r else None) (paths_under n (prefix_paths es))
        ≡ prefix_paths (inside_of (cond b (record { name = m; rest = r; part = Part.Prefix k } ∷ named n (next_parts es)) (named n (next_parts es))))
    go true = ap (λ xs. r ∷ xs) h
    go false = h
under-prefix n (Part.Column k kind) [] es h = h
under-prefix n (Part.Column k kind) (m ∷ r) es h = go (same_text m n)
  where
    at : (c : Bool) → paths_under n (prefix_paths es) ≡ prefix_paths (cond (not c) (record { name = m; rest = r; part = Part.Column k kind } ∷ inside_of (named n (next_parts es))) (inside_of (named n (next_parts es))))
    at true = h
    at false = h

    go : (b : Bool) → paths_under n (prefix_paths es) ≡ prefix_paths (inside_of (cond b (record { name = m; rest = r; part = Part.Column k kind } ∷ named n (next_parts es)) (named n (next_parts es))))
    go true = at (is_here r)
    go false = h
under-prefix n (Part.Property k q) rest es h = h

under-prefixes : (n : Name) (es : List NamedPart) → paths_under n (prefix_paths es) ≡ prefix_paths (inside_of (named n (next_parts es)))
under-prefixes n [] = refl
under-prefixes n (e ∷ es) = under-prefix n e.part e.rest es (under-prefixes n es)

under-column : (n : Name) (p : Part) (rest : Path) (es : List NamedPart) → going_on (paths_under n (column_paths es)) ≡ column_paths (inside_of (named n (next_parts es)))
    → going_on (paths_under n (cons_option (column_rest p rest) (column_paths es))) ≡ column_paths (inside_of (named n (cons_option (part_on p rest) (next_parts es))))
under-column n (Part.Prefix k) [] es h = h
under-column n (Part.Prefix k) (m ∷ r) es h = go (same_text m n)
  where
    go : (b : Bool) → going_on (paths_under n (column_paths es)) ≡ column_paths (inside_of (cond b (record { name = m; rest = r; part = Part.Prefix k } ∷ named n (next_parts es)) (named n (next_parts es))))
    go true = h
    go false = h
under-column n (Part.Column k kind) [] es h = h
under-column n (Part.Column k kind) (m ∷ r) es h = go (same_text m n)
  where
    at : (s : Path) → going_on (s ∷ paths_under n (column_paths es)) ≡ column_paths (inside_of (record { name = m; rest = s; part = Part.Column k kind } ∷ named n (next_parts es)))
    at [] = h
    at (m' ∷ s) = ap (λ xs. (m' ∷ s) ∷ xs) h

    go : (b : Bool) → going_on (cons_option (if b then Some r else None) (paths_under n (column_paths es)))
        ≡ column_paths (inside_of (cond b (record { name = m; rest = r; part = Part.Column k kind } ∷ named n (next_parts es)) (named n (next_parts es))))
    go true = at r
    go false = h
under-column n (Part.Property k q) rest es h = h

under-columns : (n : Name) (es : List NamedPart) → going_on (paths_under n (column_paths es)) ≡ column_paths (inside_of (named n (next_parts es)))
under-columns n [] = refl
under-columns n (e ∷ es) = under-column n e.part e.rest es (under-columns n es)

end-column : (n : Name) (p : Part) (rest : Path) (es : List NamedPart) → list_any is_here (paths_under n (column_paths es)) ≡ list_any ends_column (named n (next_parts es))
    → list_any is_here (paths_under n (cons_option (column_rest p rest) (column_paths es))) ≡ list_any ends_column (named n (cons_option (part_on p rest) (next_parts es)))
end-column n (Part.Prefix k) [] es h = h
end-column n (Part.Prefix k) (m ∷ r) es h = go (same_text m n)
  where
    at : (s : Path) → list_any is_here (paths_under n (column_paths es)) ≡ list_any ends_column (record { name = m; rest = s; part = Part.Prefix k } ∷ named n (next_parts es))
    at [] = h
    at (m' ∷ s) = h

    go : (b : Bool) → list_any is_here (paths_under n (column_paths es)) ≡ list_any ends_column (cond b (record { name = m; rest = r; part = Part.Prefix k } ∷ named n (next_parts es)) (named n (next_parts es)))
    go true = at r
    go false = h
end-column n (Part.Column k kind) [] es h = h
end-column n (Part.Column k kind) (m ∷ r) es h = go (same_text m n)
  where
    at : (s : Path) → list_any is_here (s ∷ paths_under n (column_paths es)) ≡ list_any ends_column (record { name = m; rest = s; part = Part.Column k kind } ∷ named n (next_parts es))
    at [] = refl
    at (m' ∷ s) = h

    go : (b : Bool) → list_any is_here (cons_option (if b then Some r else None) (paths_under n (column_paths es)))
        ≡ list_any ends_column (cond b (record { name = m; rest = r; part = Part.Column k kind } ∷ named n (next_parts es)) (named n (next_parts es)))
    go true = at r
    go false = h
end-column n (Part.Property k q) rest es h = h

end-columns : (n : Name) (es : List NamedPart) → list_any is_here (paths_under n (column_paths es)) ≡ list_any ends_column (named n (next_parts es))
end-columns n [] = refl
end-columns n (e ∷ es) = end-column n e.part e.rest es (end-columns n es)

-- ---- the names

part-names : (p : Part) (rest : Path) (es : List NamedPart) → Reorders (flat_map first_names (prefix_paths es) ++ flat_map first_names (column_paths es)) (names_in (next_parts es))
    → Reorders (flat_map first_names (cons_option (prefix_rest p rest) (prefix_paths es)) ++ flat_map first_names (cons_option (column_rest p rest) (column_paths es))) (names_in (cons_option (part_on p rest) (next_parts es)))
part-names (Part.Prefix k) [] es h = h
part-names (Part.Prefix k) (m ∷ r) es h = Reorders.keep m h
part-names (Part.Column k kind) [] es h = h
part-names (Part.Column k kind) (m ∷ r) es h = Reorders.join (to-front (flat_map first_names (prefix_paths es)) m (flat_map first_names (column_paths es))) (Reorders.keep m h)
part-names (Part.Property k q) rest es h = h

names-reorder : (es : List NamedPart) → Reorders (flat_map first_names (prefix_paths es) ++ flat_map first_names (column_paths es)) (names_in (next_parts es))
names-reorder [] = Reorders.none
names-reorder (e ∷ es) = part-names e.part e.rest es (names-reorder es)

-- ---- the items

items-same : (es : List NamedPart) (n : Name) → name_items (prefix_paths es) (column_paths es) items_here n ≡ group_items n (named n (next_parts es))
items-same es n =
    λ j. (if end-columns n es j then n ∷ [] else []) ++ segment_items n (under-prefixes n es j) (under-columns n es j) (items_here (under-prefixes n es j) (under-columns n es j))

-- the items at a place
pub items_by_groups : (es : List NamedPart) → place_items es ≡ star (prefix_paths es) ++ flat_map (λ n. group_items n (named n (next_parts es))) (in_byte_order (names_in (next_parts es)))
items_by_groups es =
    one-level (prefix_paths es) (column_paths es)
    ∙ ap (λ ns. star (prefix_paths es) ++ flat_map (name_items (prefix_paths es) (column_paths es) items_here) ns) (order-reorders (names-reorder es))
    ∙ ap (λ xs. star (prefix_paths es) ++ xs) (flat_map-agree (name_items (prefix_paths es) (column_paths es) items_here) (λ n. group_items n (named n (next_parts es))) (items-same es) (in_byte_order (names_in (next_parts es))))

-- ---- parts of one name

something : (n : Name) (rest : Path) (p : Part) (es : List NamedPart) → part_inside p rest ≡ true
    → (is_empty (prefix_paths (record { name = n; rest = rest; part = p } ∷ es)) && is_empty (column_paths (record { name = n; rest = rest; part = p } ∷ es))) ≡ false
something n rest (Part.Prefix k) es h = refl
something n rest (Part.Column k kind) es h = and_right (is_empty (prefix_paths (record { name = n; rest = rest; part = Part.Column k kind } ∷ es))) false refl
something n rest (Part.Property k q) es h = absurd (false≢true h)

pub inside-some : (es : List NamedPart) → list_all goes_inside es ≡ true → 0 < length es → (is_empty (prefix_paths es) && is_empty (column_paths es)) ≡ false
inside-some [] h l = absurd (omega arith)
inside-some (e ∷ es) h l = something e.name e.rest e.part es (and_parts (goes_inside e) (list_all goes_inside es) h).0

-- ---- the parts of a shape

paths-joined : {X : Type 0} (f : NamedPart → Option X) (xs ys : List NamedPart) → filter_map f (xs ++ ys) ≡ filter_map f xs ++ filter_map f ys
paths-joined f xs ys = filter_map-append f xs ys

-- one entry more
pub prefixes-pushed : (old new : List Entry) (e : Entry) → new ≡ old ++ e ∷ [] → prefix_paths (named_parts new) ≡ prefix_paths (named_parts old) ++ prefix_paths (seen e ∷ [])
prefixes-pushed old new e h = ap (λ xs. prefix_paths (named_parts xs)) h ∙ ap prefix_paths (map-append seen old (e ∷ [])) ∙ paths-joined (λ e. prefix_rest e.part e.rest) (named_parts old) (seen e ∷ [])

pub columns-pushed : (old new : List Entry) (e : Entry) → new ≡ old ++ e ∷ [] → column_paths (named_parts new) ≡ column_paths (named_parts old) ++ column_paths (seen e ∷ [])
columns-pushed old new e h = ap (λ xs. column_paths (named_parts xs)) h ∙ ap column_paths (map-append seen old (e ∷ [])) ∙ paths-joined (λ e. column_rest e.part e.rest) (named_parts old) (seen e ∷ [])

-- one path more of those that a loop goes over
pub path-more : {X : Type 0} (path : X → Path) (xs : List X) (k : ℕ) (x : X) (start old new : List Path) (p : Path) → k < length xs → x ≡ get_or xs k x → p ≡ path x → new ≡ old ++ p ∷ [] → old ≡ start ++ map path (take k xs)
    → new ≡ start ++ map path (take (k + 1) xs)
path-more path xs k x start old new p h i g n r =
    rw (add-one k) (n ∙ ap (λ zs. zs ++ p ∷ []) r ∙ append_assoc start (map path (take k xs)) (p ∷ []) ∙ ap (λ q. start ++ (map path (take k xs) ++ q ∷ [])) g ∙ ap (λ zs. start ++ zs) (sym (taken-more path xs k x h i)))
