-- Instances with more columns fit shapes with more columns.
use Rattle.std.proofs.Common.{◌≡◌, refl, sym, ◌∙◌, ap, Bool, true, false, ◌&&◌, ◌||◌, not, List, [], ◌∷◌, ◌++◌, Option, Some, None, map, cond, inl, inr, ◌⊎◌}
use Rattle.std.specs.Prelude.{is_some, is_none}
use Rattle.std.specs.List.{list_all, list_any}
use Rattle.std.proofs.lemmas.List.{map-append}
use Rattle.std.proofs.lemmas.List.Folds.{list_any-append}
use Rattle.std.proofs.lemmas.Bool.{and_parts, and_from, not-true, both_ways, or_parts, or_from, or_left, or_right, or_cases, not_from_false}
use Rattle.edm_values.proofs.ListFacts.{all-append, all-each, all-map}
use Rattle.edm_values.proofs.OptionFacts.{and_3, first-left, first-right, option_cases, some_and}
use Rattle.edm_values.proofs.SearchFacts.{find-joined, found-all}
use Rattle.edm_values.specs.Lists.{are_distinct, first_some, is_nonempty, is_some_and}
use Rattle.edm_values.specs.Names.{Path}
use Rattle.edm_values.specs.declared.Value.{Value}
use Rattle.edm_data.specs.Worlds.{Entity, World}
use Rattle.context_typing.proofs.PathLemmas.{entry-path, path-self, same_paths}
use Rattle.context_typing.proofs.TableLemmas.{different-append}
use Rattle.context_typing.specs.Paths.{at_path, is_proper_prefix, same_path}
use Rattle.context_typing.specs.Shapes.{ColumnShape, PrefixShape, Shape}
use Rattle.context_typing.specs.Typing.{column_at, is_lawful, prefix_at}
use Rattle.apply_meaning.proofs.FitLemmas.{Fit}
use Rattle.apply_meaning.specs.Instances.{Instance, column_fits, prefix_fits, prefix_fits_at, extended}

-- values beside the columns that they stand in, in order, of which the last may be left out
abbrev pub in_order : (Path × Value → ColumnShape → Bool) → List (Path × Value) → List ColumnShape → Bool
in_order t [] ks = list_all (λ k. k.absent) ks
in_order t (c ∷ cs) [] = false
in_order t (c ∷ cs) (k ∷ ks) = same_path c.0 k.path && t c k && in_order t cs ks

ordered-there : (t : Path × Value → ColumnShape → Bool) (cs : List (Path × Value)) (ks : List ColumnShape) → in_order t cs ks ≡ true → list_all (λ k. k.absent || is_some (at_path (λ c. c.0) cs k.path)) ks ≡ true
ordered-there t [] ks h = all-each (λ k. k.absent) (λ k. k.absent || false) ks h (λ k a. or_left k.absent false a)
ordered-there t (c ∷ cs) [] h = cc
ordered-there t (c ∷ cs) (k ∷ ks) h =
    let p = and_3 (same_path c.0 k.path) (t c k) _ h in
    and_from _ _ (or_right k.absent _ (ap (λ b. is_some (cond b (Some c) (at_path (λ c. c.0) cs k.path))) p.0))
    (all-each (λ k. k.absent || is_some (at_path (λ c. c.0) cs k.path)) (λ k. k.absent || is_some (at_path (λ c. c.0) (c ∷ cs) k.path)) ks (ordered-there t cs ks p.2) (λ k a. more k (or_cases k.absent _ a)))
  where
    more : (k : ColumnShape) → (k.absent ≡ true) ⊎ (is_some (at_path (λ c. c.0) cs k.path) ≡ true) → (k.absent || is_some (at_path (λ c. c.0) (c ∷ cs) k.path)) ≡ true
    more k (inl a) = or_left k.absent _ a
    more k (inr a) = or_right k.absent _ (kept (same_path c.0 k.path))
      where
        kept : (b : Bool) → is_some (cond b (Some c) (at_path (λ c. c.0) cs k.path)) ≡ true
        kept true = refl
        kept false = a

ordered-fit : (t : Path × Value → ColumnShape → Bool) (cs : List (Path × Value)) (ks : List ColumnShape) → in_order t cs ks ≡ true → are_distinct same_path (map (λ k. k.path) ks) ≡ true
    → list_all (λ c. is_some_and (t c) (at_path (λ k. k.path) ks c.0)) cs ≡ true
ordered-fit t [] ks h d = refl
ordered-fit t (c ∷ cs) [] h d = cc
ordered-fit t (c ∷ cs) (k ∷ ks) h d =
    let p = and_3 (same_path c.0 k.path) (t c k) _ h in
    let q = and_parts (not (list_any (same_path k.path) (map (λ k. k.path) ks))) _ d in
    let same = same_paths c.0 k.path p.0 in
    and_from _ _ (ap (λ z. is_some_and (t c) (cond (same_path k.path z) (Some k) (at_path (λ k. k.path) ks z))) same ∙ ap (λ b. is_some_and (t c) (cond b (Some k) (at_path (λ k. k.path) ks k.path))) (path-self k.path) ∙ p.1)
    (all-each (λ c. is_some_and (t c) (at_path (λ k. k.path) ks c.0)) (λ c. is_some_and (t c) (at_path (λ k. k.path) (k ∷ ks) c.0)) cs (ordered-fit t cs ks p.2 q.1)
    (λ e a. let x = some_and (t e) (at_path (λ k. k.path) ks e.0) a in
    let differs = found-all (λ z. same_path z.path e.0) (λ z. not (same_path k.path z.path)) ks x.0 x.1 (apart ks (not-true _ q.0)) in
    let path = entry-path (λ z. z.path) ks e.0 x.0 x.1 in
    ap (λ b. is_some_and (t e) (cond b (Some k) (at_path (λ k. k.path) ks e.0))) (ap (same_path k.path) (sym path) ∙ not-true _ differs) ∙ a))
  where
    apart : (zs : List ColumnShape) → list_any (same_path k.path) (map (λ k. k.path) zs) ≡ false → list_all (λ z. not (same_path k.path z.path)) zs ≡ true
    apart [] h = refl
    apart (z ∷ zs) h = let t = or_parts (same_path k.path z.path) _ h in and_from _ _ (not_from_false _ t.0) (apart zs t.1)

-- the values' paths are the first of the columns'
ordered-apart : (t : Path × Value → ColumnShape → Bool) (q : Path → Bool) (cs : List (Path × Value)) (ks : List ColumnShape) → in_order t cs ks ≡ true
    → list_any q (map (λ k. k.path) ks) ≡ false → list_any q (map (λ c. c.0) cs) ≡ false
ordered-apart t q [] ks h a = refl
ordered-apart t q (c ∷ cs) [] h a = cc
ordered-apart t q (c ∷ cs) (k ∷ ks) h a =
    let p = and_3 (same_path c.0 k.path) (t c k) _ h in
    let x = or_parts (q k.path) _ a in
    or_from _ _ (ap q (same_paths c.0 k.path p.0) ∙ x.0) (ordered-apart t q cs ks p.2 x.1)

ordered-differ : (t : Path × Value → ColumnShape → Bool) (cs : List (Path × Value)) (ks : List ColumnShape) → in_order t cs ks ≡ true → are_distinct same_path (map (λ k. k.path) ks) ≡ true
    → are_distinct same_path (map (λ c. c.0) cs) ≡ true
ordered-differ t [] ks h d = refl
ordered-differ t (c ∷ cs) [] h d = cc
ordered-differ t (c ∷ cs) (k ∷ ks) h d =
    let p = and_3 (same_path c.0 k.path) (t c k) _ h in
    let q = and_parts (not (list_any (same_path k.path) (map (λ k. k.path) ks))) _ d in
    and_from _ _ (not_from_false _ (ap (λ z. list_any (same_path z) (map (λ c. c.0) cs)) (same_paths c.0 k.path p.0) ∙ ordered-apart t (same_path k.path) cs ks p.2 (not-true _ q.0))) (ordered-differ t cs ks p.2 q.1)

-- an instance with more columns fits a shape with more
module _ (w : World) (S : Shape) (ks : List ColumnShape) (i : Instance) (cs : List (Path × Value)) (F : Fit w S i) (law : is_lawful w.model (record S { columns = S.columns ++ ks }) ≡ true)
    (differ : are_distinct same_path (map (λ k. k.path) ks) ≡ true) (apart : list_all (λ p. not (list_any (same_path p) (map (λ k. k.path) ks))) (map (λ c. c.path) S.columns) ≡ true)
    (order : in_order (column_fits w i) cs ks ≡ true) where
  abbrev more : Shape
  more = record S { columns = S.columns ++ ks }

  -- the columns of the instance are those of its shape
  old-apart : list_all (λ p. not (list_any (same_path p) (map (λ c. c.0) cs))) (map (λ c. c.0) i.columns) ≡ true
  old-apart = all-map (λ c. is_some_and (column_fits w i c) (column_at S c.0)) (λ p. not (list_any (same_path p) (map (λ c. c.0) cs))) (λ c. c.0) i.columns F.columns_fit (λ c h.
      let k = some_and (column_fits w i c) (column_at S c.0) h in
      let path = entry-path (λ c. c.path) S.columns c.0 k.0 k.1 in
      let no = found-all (λ x. same_path x.path c.0) (λ x. not (list_any (same_path x.path) (map (λ k. k.path) ks))) S.columns k.0 k.1 (columns-apart S.columns apart) in
      not_from_false _ (ordered-apart (column_fits w i) (same_path c.0) cs ks order (ap (λ z. list_any (same_path z) (map (λ k. k.path) ks)) (sym path) ∙ not-true _ no)))
    where
      columns-apart : (xs : List ColumnShape) → list_all (λ p. not (list_any (same_path p) (map (λ k. k.path) ks))) (map (λ c. c.path) xs) ≡ true
          → list_all (λ x. not (list_any (same_path x.path) (map (λ k. k.path) ks))) xs ≡ true
      columns-apart [] h = refl
      columns-apart (x ∷ xs) h = let t = and_parts (not (list_any (same_path x.path) (map (λ k. k.path) ks))) _ h in and_from _ _ t.0 (columns-apart xs t.1)

  column-more : (p : Path) → column_at more p ≡ first_some (column_at S p) (at_path (λ k. k.path) ks p)
  column-more p = find-joined (λ k. same_path k.path p) S.columns ks

  old-fits : (t : ColumnShape → Bool) (p : Path) → is_some_and t (column_at S p) ≡ true → is_some_and t (column_at more p) ≡ true
  old-fits t p h = let k = some_and t (column_at S p) h in ap (is_some_and t) (column-more p ∙ ap (λ o. first_some o (at_path (λ k. k.path) ks p)) k.1) ∙ k.2

  new-fits : (t : ColumnShape → Bool) (p : Path) → is_some_and t (at_path (λ k. k.path) ks p) ≡ true → is_some_and t (column_at more p) ≡ true
  new-fits t p h = elim (option_cases (column_at S p)) [
    | inl n ↦ ap (is_some_and t) (column-more p ∙ ap (λ o. first_some o (at_path (λ k. k.path) ks p)) n) ∙ h
    | inr x ↦
        let k = some_and t (at_path (λ k. k.path) ks p) h in
        let no = found-all (λ x. same_path x.path p) (λ x. not (list_any (same_path x.path) (map (λ k. k.path) ks))) S.columns x.0 x.1 (of_paths S.columns apart) in
        absurd (both_ways (same_path p p) (is_apart p k.0 k.1 (ap (λ z. list_any (same_path z) (map (λ k. k.path) ks)) (sym (entry-path (λ c. c.path) S.columns p x.0 x.1)) ∙ not-true _ no)) (path-self p))
  ]
    where
      of_paths : (xs : List ColumnShape) → list_all (λ p. not (list_any (same_path p) (map (λ k. k.path) ks))) (map (λ c. c.path) xs) ≡ true
          → list_all (λ x. not (list_any (same_path x.path) (map (λ k. k.path) ks))) xs ≡ true
      of_paths [] h = refl
      of_paths (x ∷ xs) h = let t = and_parts (not (list_any (same_path x.path) (map (λ k. k.path) ks))) _ h in and_from _ _ t.0 (of_paths xs t.1)

      all_apart : (p : Path) (zs : List ColumnShape) → list_any (same_path p) (map (λ k. k.path) zs) ≡ false → list_all (λ z. not (same_path p z.path)) zs ≡ true
      all_apart p [] h = refl
      all_apart p (z ∷ zs) h = let t = or_parts (same_path p z.path) _ h in and_from _ _ (not_from_false _ t.0) (all_apart p zs t.1)

      is_apart : (p : Path) (k : ColumnShape) → at_path (λ k. k.path) ks p ≡ Some k → list_any (same_path p) (map (λ k. k.path) ks) ≡ false → same_path p p ≡ false
      is_apart p k e h = ap (same_path p) (sym (entry-path (λ k. k.path) ks p k e)) ∙ not-true _ (found-all (λ z. same_path z.path p) (λ z. not (same_path p z.path)) ks k e (all_apart p ks h))

  -- a prefix that passes goes on passing
  passes-more : (x : Path × Option Entity) → prefix_fits w S i x ≡ true → prefix_fits w more (extended i cs) x ≡ true
  passes-more x h = go (prefix_at S x.0) h
    where
      go : (o : Option PrefixShape) → prefix_fits_at w S i x o ≡ true → prefix_fits_at w more (extended i cs) x o ≡ true
      go (Some y) h = h
      go None h =
          let p = and_3 (is_none x.1 && is_nonempty x.0) (list_any (λ c. is_proper_prefix x.0 c.path) S.columns || list_any (λ y. is_proper_prefix x.0 y.path) S.prefixes) _ h in
          and_from _ _ (and_from _ _ p.0 (ap (λ b. b || list_any (λ y. is_proper_prefix x.0 y.path) S.prefixes) (list_any-append (λ c. is_proper_prefix x.0 c.path) S.columns ks)
          ∙ wider (list_any (λ c. is_proper_prefix x.0 c.path) S.columns) (list_any (λ c. is_proper_prefix x.0 c.path) ks) (list_any (λ y. is_proper_prefix x.0 y.path) S.prefixes) p.1)) p.2
        where
          wider : (a b c : Bool) → (a || c) ≡ true → ((a || b) || c) ≡ true
          wider true b c h = refl
          wider false true c h = refl
          wider false false c h = h

  pub fit-more : Fit w more (extended i cs)
  fit-more = record {
    lawful = law;
    prefixes_differ = F.prefixes_differ;
    columns_differ = ap (are_distinct same_path) (map-append (λ c. c.0) i.columns cs)
        ∙ different-append (map (λ c. c.0) i.columns) (map (λ c. c.0) cs) F.columns_differ (ordered-differ (column_fits w i) cs ks order differ) old-apart;
    has_prefixes = F.has_prefixes;
    has_columns = all-append (λ c. c.absent || is_some (at_path (λ y. y.0) (i.columns ++ cs) c.path)) S.columns ks
        (all-each (λ c. c.absent || is_some (at_path (λ y. y.0) i.columns c.path)) (λ c. c.absent || is_some (at_path (λ y. y.0) (i.columns ++ cs) c.path)) S.columns F.has_columns (λ c h. either c (or_cases c.absent _ h)))
        (all-each (λ c. c.absent || is_some (at_path (λ y. y.0) cs c.path)) (λ c. c.absent || is_some (at_path (λ y. y.0) (i.columns ++ cs) c.path)) ks (ordered-there (column_fits w i) cs ks order) (λ c h. or_else c (or_cases c.absent _ h)));
    columns_fit = all-append (λ c. is_some_and (column_fits w (extended i cs) c) (column_at more c.0)) i.columns cs
        (all-each (λ c. is_some_and (column_fits w i c) (column_at S c.0)) _ i.columns F.columns_fit (λ c h. old-fits (column_fits w i c) c.0 h))
        (all-each (λ c. is_some_and (column_fits w i c) (at_path (λ k. k.path) ks c.0)) _ cs (ordered-fit (column_fits w i) cs ks order differ) (λ c h. new-fits (column_fits w i c) c.0 h));
    prefixes_fit = all-each (prefix_fits w S i) (prefix_fits w more (extended i cs)) i.prefixes F.prefixes_fit passes-more;
  }
    where
      either : (c : ColumnShape) → (c.absent ≡ true) ⊎ (is_some (at_path (λ y. y.0) i.columns c.path) ≡ true) → (c.absent || is_some (at_path (λ y. y.0) (i.columns ++ cs) c.path)) ≡ true
      either c (inl a) = or_left c.absent _ a
      either c (inr a) = or_right c.absent _ (ap is_some (find-joined (λ y. same_path y.0 c.path) i.columns cs) ∙ first-left (at_path (λ y. y.0) i.columns c.path) _ a)

      or_else : (c : ColumnShape) → (c.absent ≡ true) ⊎ (is_some (at_path (λ y. y.0) cs c.path) ≡ true) → (c.absent || is_some (at_path (λ y. y.0) (i.columns ++ cs) c.path)) ≡ true
      or_else c (inl a) = or_left c.absent _ a
      or_else c (inr a) = or_right c.absent _ (ap is_some (find-joined (λ y. same_path y.0 c.path) i.columns cs) ∙ first-right (at_path (λ y. y.0) i.columns c.path) _ a)
