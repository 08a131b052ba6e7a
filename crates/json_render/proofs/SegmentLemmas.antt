-- The members of one name: a value, and a segment.
use Rattle.std.proofs.Common.{◌≡◌, ℕ, zero, suc, ◌<◌, ◌==◌, Bool, true, false, cond, ◌&&◌, List, [], ◌∷◌, ◌++◌, length, get_or, refl, sym, ◌∙◌, ap, arith}
use Rattle.std.specs.List.{list_all}
use Rattle.std.proofs.lemmas.Bool.{and_parts, and_right, false≢true}
use Rattle.std.proofs.lemmas.Grind.{flat_map-append}
use Rattle.serde_json.specs.Data.{null}
use Rattle.edm_values.specs.Names.{Name, Path}
use Rattle.edm_model.specs.JsonTrees.{Member, object_of}
use Rattle.edm_data.specs.Worlds.{World}
use Rattle.apply_meaning.specs.Instances.{Instance}
use Rattle.json_render.specs.Bodies.{Shown, is_bound_to_none, is_empty}
use Rattle.json_render.specs.Places.{NamedPart, goes_inside, inside_of, named_parts, part_inside}
use Rattle.json_render.specs.RowTexts.{all_members, columns_seen, first_members, group_members, prefixes_seen, segment, unwritten_members}
use Rattle.json_render.specs.declared.entries.Entry.{Entry}
use Rattle.json_render.specs.declared.entries.Part.{Part}
use Rattle.json_render.specs.declared.members.Unwritten.{Unwritten}

-- parts that are inside are prefixes or columns
something : (i : Instance) (n : Name) (rest : Path) (p : Part) (es : List NamedPart) → part_inside p rest ≡ true
    → (is_empty (prefixes_seen i (record { name = n; rest = rest; part = p } ∷ es)) && is_empty (columns_seen i (record { name = n; rest = rest; part = p } ∷ es))) ≡ false
something i n rest (Part.Prefix k) es h = refl
something i n rest (Part.Column k kind) es h = and_right (is_empty (prefixes_seen i (record { name = n; rest = rest; part = Part.Column k kind } ∷ es))) false refl
something i n rest (Part.Property k q) es h = absurd (false≢true h)

pub inside-some : (i : Instance) (es : List NamedPart) → list_all goes_inside es ≡ true → 0 < length es → (is_empty (prefixes_seen i es) && is_empty (columns_seen i es)) ≡ false
inside-some i [] h l = absurd (omega arith)
inside-some i (e ∷ es) h l = something i e.name e.rest e.part es (and_parts (goes_inside e) (list_all goes_inside es) h).0

pub segment-object : (n : Name) (ps : List (Path × _)) (cs : List (Path × Shown)) (ms : List Member) → (is_empty ps && is_empty cs) ≡ false → (is_bound_to_none ps && is_empty cs) ≡ false → segment n ps cs ms ≡ (n, object_of ms) ∷ []
segment-object n ps cs ms h g = (λ i. cond (h i) [] ((n, cond (g i) null (object_of ms)) ∷ []))

pub some-length : (n : ℕ) → (n == 0) ≡ false → 0 < n
some-length zero h = absurd (false≢true (sym h))
some-length (suc n) h = omega arith

-- one member more
pub members-more : (w : World) (i : Instance) (old new : List Unwritten) (u : Unwritten) → new ≡ old ++ u ∷ [] → all_members w i new ≡ all_members w i old ++ (unwritten_members w i u ++ [])
members-more w i old new u h = ap (all_members w i) h ∙ flat_map-append (unwritten_members w i) old (u ∷ [])

pub filter-passes : (es : List NamedPart) → list_all goes_inside (inside_of es) ≡ true
filter-passes [] = refl
filter-passes (e ∷ es) = go (goes_inside e) refl (filter-passes es)
  where
    go : (b : Bool) → goes_inside e ≡ b → list_all goes_inside (inside_of es) ≡ true → list_all goes_inside (cond b (e ∷ inside_of es) (inside_of es)) ≡ true
    go true h r = λ i. h i && r i
    go false h r = r

-- the members of a group have the name of its first part
pub first-group : (w : World) (i : Instance) (es : List Entry) (e : Entry) → 0 < length es → e ≡ get_or es 0 e → first_members w i (named_parts es) ≡ group_members w i e.name.now (named_parts es)
first-group w i [] e l g = absurd (omega arith)
first-group w i (x ∷ es) e l g = ap (λ y. group_members w i y.name.now (named_parts (x ∷ es))) (sym g)
