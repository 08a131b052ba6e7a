-- Rows beside others: what stands under a free name differs from what stands there.
use Rattle.std.proofs.Common.{◌≡◌, refl, ◌∙◌, ap, Bool, true, false, not, List, [], ◌∷◌, ◌++◌, Option, Some, None, map, ◌⊎◌, inl, inr}
use Rattle.std.specs.List.{list_any}
use Rattle.std.proofs.lemmas.Bool.{and_parts, and_from, not-true, not_from_false}
use Rattle.std.proofs.lemmas.List.{map-append}
use Rattle.edm_values.proofs.ListFacts.{all-any, all-append, all-map, none-map}
use Rattle.edm_values.proofs.SearchFacts.{none-all}
use Rattle.edm_values.specs.Lists.{are_distinct, is_nonempty}
use Rattle.edm_values.specs.Names.{Name, Path}
use Rattle.edm_data.specs.Worlds.{Entity}
use Rattle.context_typing.proofs.TableLemmas.{apart-under, different-append, paths-under}
use Rattle.context_typing.specs.Paths.{begins, same_path}
use Rattle.apply_meaning.specs.Instances.{Instance}
use Rattle.apply_meaning.specs.Meaning.{beneath}
use Rattle.apply_meaning.specs.RowViews.{have_paths, prefixes_differ, with_root}
use Rattle.join_concat.specs.Joins.{bound_rows, is_free_of}

-- no prefix and no column begins with a free name
pub free-parts : (a : Name) (i : Instance) → is_free_of a i ≡ true → (list_any (λ x. begins a x.0) i.prefixes ≡ false) × (list_any (λ c. begins a c.0) i.columns ≡ false)
free-parts a i h = let t = and_parts (not (list_any (λ x. begins a x.0) i.prefixes)) _ h in (not-true _ t.0, not-true _ t.1)

-- paths that differ, beside others under a name that begins none of them
pub differ-beside : {A : Type 0} (a : Name) (xs ys : List (Path × A)) → are_distinct same_path (map (λ x. x.0) xs) ≡ true → are_distinct same_path (map (λ y. y.0) ys) ≡ true → list_any (λ x. begins a x.0) xs ≡ false
    → are_distinct same_path (map (λ x. x.0) (xs ++ map (beneath a) ys)) ≡ true
differ-beside a xs ys d e h =
    ap (are_distinct same_path) (map-append (λ x. x.0) xs (map (beneath a) ys))
    ∙ different-append (map (λ x. x.0) xs) (map (λ x. x.0) (map (beneath a) ys)) d
    (paths-under (λ x. x.0) a (beneath a) (λ x. refl) ys e) (apart-under (λ x. x.0) a (beneath a) (λ x. refl) ys xs (none-all (λ x. begins a x.0) xs h))

-- paths under a name are not empty
pub paths-beside : (a : Name) (ps qs : List (Path × Option Entity)) → have_paths ps ≡ true → have_paths (ps ++ map (beneath a) qs) ≡ true
paths-beside a ps qs h =
    all-append (λ x. is_nonempty x.0) ps (map (beneath a) qs) h
    (all-map {X = Path × Option Entity} (λ q. true) (λ x. is_nonempty x.0) (beneath a) qs (all-any (λ q. true) qs (λ q. refl)) (λ q k. refl))

-- ---- the entity at the empty prefix

not-empty : (p : Path) → is_nonempty p ≡ true → same_path [] p ≡ false
not-empty [] h = cc
not-empty (n ∷ p) h = refl

-- the empty prefix differs from the others
pub root-differs : (r : Option Entity) (ps : List (Path × Option Entity)) → have_paths ps ≡ true → prefixes_differ ps ≡ true → are_distinct same_path (map (λ x. x.0) (with_root r ps)) ≡ true
root-differs None ps h d = d
root-differs (Some e) ps h d = and_from _ _ (not_from_false _ (none-map (λ x. is_nonempty x.0) (same_path []) (λ x. x.0) ps h (λ x k. not-empty x.0 k))) d

-- a name that begins none of a row's prefixes begins none of those but the empty one
pub root-free : (a : Name) (r : Option Entity) (ps : List (Path × Option Entity)) → list_any (λ x. begins a x.0) (with_root r ps) ≡ false → list_any (λ x. begins a x.0) ps ≡ false
root-free a None ps h = h
root-free a (Some e) ps h = h

-- ---- lists bound to their results

-- where either list has ended, nothing is left
pub bound-ended : {X : Type 0} (outer : Bool) (a : Name) (l : List Instance) (xs : List X) (items : X → List Instance) → (l ≡ []) ⊎ (xs ≡ []) → bound_rows outer a l (map items xs) ≡ []
bound-ended outer a l xs items (inl e) = ap (λ l. bound_rows outer a l (map items xs)) e
bound-ended outer a l xs items (inr e) = ap (λ xs. bound_rows outer a l (map items xs)) e ∙ none l
  where
    none : (l : List Instance) → bound_rows outer a l [] ≡ []
    none [] = refl
    none (x ∷ l) = refl
