-- What paths under a join's alias lead to: what they lead to without it, from what is related.
use Rattle.std.proofs.Common.{◌≡◌, ◌==◌, ℕ, if◌then◌else◌, refl, sym, ◌∙◌, ap, Bool, true, false, ◌&&◌, not, List, [], ◌∷◌, ◌++◌, Option, Some, None, map, cond}
use Rattle.std.specs.Prelude.{option_and_then, option_map, is_some, is_none, unwrap_or}
use Rattle.std.specs.List.{list_all, list_any}
use Rattle.std.proofs.lemmas.Bool.{eqb-true, and_parts, or_parts, or_from, not-true, false_from_ne_true, true≢false, not_from_false}
use Rattle.edm_values.specs.Lists.{is_nonempty, is_some_and, first_some}
use Rattle.edm_values.specs.Names.{Name, Path}
use Rattle.edm_values.specs.declared.EdmType.{EdmType}
use Rattle.edm_values.specs.declared.Value.{Value}
use Rattle.edm_values.proofs.OptionFacts.{and_3, none_or, some_and}
use Rattle.edm_values.proofs.ListFacts.{all-each, none-each}
use Rattle.edm_values.proofs.SearchFacts.{find-joined, found-all, none-all}
use Rattle.edm_values.proofs.SameTexts.{same_texts, text-self}
use Rattle.edm_model.specs.Models.{Model, Property}
use Rattle.edm_model.specs.LookUps.{property_named, navigation_named, one_named, property_on}
use Rattle.edm_data.specs.Worlds.{World, Entity}
use Rattle.edm_data.specs.References.{entity_type, property, referred}
use Rattle.context_typing.specs.Paths.{same_path, is_proper_prefix, begins, at_path}
use Rattle.context_typing.specs.Shapes.{RootShape, PrefixShape, ColumnShape, Shape}
use Rattle.context_typing.specs.Typing.{all_prefixes, prefix_at, column_at, path_property, path_kind, is_member, is_free, is_risky, joined_shape, prefix_under, column_under, widened}
use Rattle.context_typing.proofs.PathLemmas.{same_paths, entry-path, longest, longest-cons, longest-same, longest-map}
use Rattle.context_typing.proofs.TableLemmas.{under-nil, under-cons}
use Rattle.context_typing.proofs.ShapeLemmas.{Law, begins-behind}
use Rattle.context_typing.proofs.ShapeSteps.{free-prefix, free-column, free-member, no-property, root-prefix, prefix-joined, prefix-under}
use Rattle.apply_meaning.specs.Instances.{Instance, root_of, value_behind, lookup, column_value, prefix_value, leads_on, prefix_fits, prefix_fits_at, column_fits, entity_fits}
use Rattle.apply_meaning.specs.Meaning.{beneath, beside}
use Rattle.apply_meaning.proofs.FitLemmas.{Fit}
use Rattle.context_typing.proofs.PathOrders.{none-is}
use Rattle.rewrite_laws.proofs.ComputeFacts.{at-left}

-- ---- tables without a name

-- no path of the table begins with the name
none-behind : {A : Type 0} (path : A → Path) (a : Name) (xs : List A) → list_all (λ x. not (begins a (path x))) xs ≡ true → (q : Path) → at_path path xs (a ∷ q) ≡ None
none-behind path a [] h q = refl
none-behind path a (x ∷ xs) h q =
    let t = and_parts (not (begins a (path x))) _ h in
    let other : same_path (path x) (a ∷ q) ≡ false = false_from_ne_true _ (λ e. true≢false (sym (ap (begins a) (same_paths (path x) (a ∷ q) e) ∙ text-self a) ∙ not-true _ t.0)) in
    ap (λ b. cond b (Some x) (at_path path xs (a ∷ q))) other ∙ none-behind path a xs t.1 q

-- ---- types under the alias

module _ (m : Model) (outer : Bool) (a : Name) (S R : Shape) (LS : Law m S) (LR : Law m R) (free : is_free m S a ≡ true) (r : RootShape) (root : S.root ≡ Some r) where
  column-behind : (q : Path) → column_at (joined_shape outer a S R) (a ∷ q) ≡ option_map (column_under outer a) (column_at R q)
  column-behind q =
      find-joined (λ c. same_path c.path (a ∷ q)) S.columns (map (column_under outer a) R.columns)
      ∙ (λ i. first_some (none-behind (λ c. c.path) a S.columns (free-column m S a free) q i) (under-cons (λ c. c.path) a (column_under outer a) (λ c. refl) R.columns q i))

  property-behind : (q : Path) → path_property m (joined_shape outer a S R) (a ∷ q) ≡ path_property m R q
  property-behind q = ap leads steps ∙ go (longest (prefix_at R) q)
    where
      leads : Option (PrefixShape × Path) → Option Property
      leads = option_and_then (λ x. property_on m (x.0).of x.1)

      root_there : prefix_at (joined_shape outer a S R) [] ≡ Some (record { path = []; of = r.of; absent = r.absent })
      root_there = prefix-joined m outer a S R LS LR free r root [] ∙ ap (λ o. first_some o (at_path (λ x. x.path) (map (prefix_under outer a) (all_prefixes R)) [])) (root-prefix m S LS r root)

      steps : longest (prefix_at (joined_shape outer a S R)) (a ∷ q)
          ≡ first_some (option_map (λ x. (prefix_under outer a x.0, x.1)) (longest (prefix_at R) q)) (first_some {X = PrefixShape × Path} (Some (record { path = []; of = r.of; absent = r.absent }, a ∷ q)) None)
      steps = longest-cons (prefix_at (joined_shape outer a S R)) a q
          ∙ (λ i. first_some ((longest-same (λ s. prefix_at (joined_shape outer a S R) (a ∷ s)) (λ s. option_map (prefix_under outer a) (prefix_at R s)) q (λ s t e. prefix-under m outer a S R LS LR free r root s) ∙ longest-map (prefix_under outer a) (prefix_at R) q) i)
          (first_some {X = PrefixShape × Path} (option_map (λ x. (x, a ∷ q)) (root_there i)) None))

      go : (o : Option (PrefixShape × Path)) → leads (first_some (option_map (λ x. (prefix_under outer a x.0, x.1)) o) (first_some {X = PrefixShape × Path} (Some (record { path = []; of = r.of; absent = r.absent }, a ∷ q)) None)) ≡ leads o
      go None = no-property m r.of a q (free-member m S a free r root)
      go (Some x) = refl

  pub kind-behind : (q : Path) → path_kind m (joined_shape outer a S R) (a ∷ q) ≡ path_kind m R q
  kind-behind q = (λ i. by (column-behind q i) (property-behind q i)) ∙ go (column_at R q)
    where
      by : Option ColumnShape → Option Property → Option EdmType
      by o p = elim o [ Some c ↦ Some c.kind | None ↦ option_map (λ x. widened x.kind) p ]

      go : (o : Option ColumnShape) → by (option_map (column_under outer a) o) (path_property m R q) ≡ by o (path_property m R q)
      go None = refl
      go (Some c) = refl

  pub risk-behind : (q : Path) → is_risky (joined_shape outer a S R) (a ∷ q) ≡ is_risky R q
  risk-behind q = ap (is_some_and (λ c. c.risky)) (column-behind q) ∙ go (column_at R q)
    where
      go : (o : Option ColumnShape) → is_some_and (λ c. c.risky) (option_map (column_under outer a) o) ≡ is_some_and (λ c. c.risky) o
      go None = refl
      go (Some c) = refl

-- ---- values under the alias

-- a name that is no member of an entity's type leads nowhere
no-value : (w : World) (e : Entity) (t : ℕ) (a : Name) (q : Path) → entity_type w e ≡ Some t → is_member w.model t a ≡ false → value_behind w (a ∷ q) e ≡ None
no-value w e t a [] k h =
    let n = or_parts (is_some (property_named w.model t a)) _ h in
    ap (λ o. option_map (λ p. property w e p.0) (option_and_then (λ t. property_named w.model t a) o)) k ∙ ap (option_map (λ p. property w e p.0)) (none-is (property_named w.model t a) n.0)
no-value w e t a (n ∷ q) k h =
    let m = or_parts (is_some (property_named w.model t a)) _ h in
    ap (λ o. option_and_then (value_behind w (n ∷ q)) (option_and_then (referred w e) (option_and_then (λ t. one_named w.model t a) o))) k
    ∙ ap (λ o. option_and_then (value_behind w (n ∷ q)) (option_and_then (referred w e) (option_and_then (λ x. if (x.1).many then None else Some x.1) o))) (none-is (navigation_named w.model t a) m.1)

module _ (w : World) (a : Name) (S : Shape) (LS : Law w.model S) (free : is_free w.model S a ≡ true) (r : RootShape) (root : S.root ≡ Some r) (i : Instance) (F : Fit w S i) where
  -- no place of an instance that fits begins with a free name
  own-columns : (q : Path) → at_path (λ c. c.0) i.columns (a ∷ q) ≡ None
  own-columns q = none-behind (λ c. c.0) a i.columns (all-each (λ c. is_some_and (column_fits w i c) (column_at S c.0)) (λ c. not (begins a c.0)) i.columns F.columns_fit (λ c h.
      let k = some_and (column_fits w i c) (column_at S c.0) h in
      ap (λ p. not (begins a p)) (sym (entry-path (λ x. x.path) S.columns c.0 k.0 k.1)) ∙ found-all (λ x. same_path x.path c.0) (λ x. not (begins a x.path)) S.columns k.0 k.1 (free-column w.model S a free))) q

  own-prefixes : (q : Path) → at_path (λ x. x.0) i.prefixes (a ∷ q) ≡ None
  own-prefixes q = none-behind (λ x. x.0) a i.prefixes (all-each (prefix_fits w S i) (λ x. not (begins a x.0)) i.prefixes F.prefixes_fit (λ x h. not_from_false _ (false_from_ne_true _ (λ b. go x x.0 refl (prefix_at S x.0) refl b h)))) q
    where
      unlike : (p : Path) → begins a p ≡ true → leads_on S p ≡ true → ⊥
      unlike p b h =
          let no_columns = none-each (λ c. not (begins a c.path)) (λ c. is_proper_prefix p c.path) S.columns (free-column w.model S a free)
          (λ c k. false_from_ne_true _ (λ z. true≢false (sym (begins-behind a p c.path b z) ∙ not-true _ k))) in
          let no_prefixes = none-each (λ c. not (begins a c.path)) (λ c. is_proper_prefix p c.path) S.prefixes (none-all (λ x. begins a x.path) S.prefixes (not-true _ (and_3 (not (list_any (λ c. begins a c.path) S.columns)) (not (list_any (λ x. begins a x.path) S.prefixes)) (not (is_some_and (λ x. is_member w.model x.of a) S.root)) free).1))
          (λ c k. false_from_ne_true _ (λ z. true≢false (sym (begins-behind a p c.path b z) ∙ not-true _ k))) in
          true≢false (sym h ∙ or_from _ _ no_columns no_prefixes)

      go : (x : Path × Option Entity) (p : Path) → x.0 ≡ p → (o : Option PrefixShape) → prefix_at S x.0 ≡ o → begins a x.0 ≡ true → prefix_fits_at w S i x o ≡ true → ⊥
      go x [] e o f b h = true≢false (sym b ∙ ap (begins a) e)
      go x (n ∷ p) e (Some z) f b h =
          let same = same_texts a n (sym (ap (begins a) e) ∙ b) in
          none_or z (sym (free-prefix w.model S a free p) ∙ (λ k. prefix_at S (same k ∷ p)) ∙ sym (ap (prefix_at S) e) ∙ f)
      go x (n ∷ p) e None f b h = unlike x.0 b (and_parts (is_none x.1 && is_nonempty x.0) (leads_on S x.0) (and_parts (is_none x.1 && is_nonempty x.0 && leads_on S x.0) _ h).0).1

  -- nor does the name lead anywhere from its entity
  own-root : (q : Path) → option_and_then (value_behind w (a ∷ q)) (root_of i) ≡ None
  own-root q = go (at_path (λ x. x.0) i.prefixes []) refl
    where
      at_entity : (x : Path × Option Entity) (e : Option Entity) → x.1 ≡ e → at_path (λ x. x.0) i.prefixes [] ≡ Some x → option_and_then (value_behind w (a ∷ q)) e ≡ None
      at_entity x None e f = refl
      at_entity x (Some y) e f =
          let at = entry-path (λ x. x.0) i.prefixes [] x f in
          let fits_there = found-all (λ x. same_path x.0 []) (prefix_fits w S i) i.prefixes x f F.prefixes_fit in
          let there : entity_fits w r.of x.0 (Some y) ≡ true = sym ((λ k. prefix_fits_at w S i x ((ap (prefix_at S) at ∙ root-prefix w.model S LS r root) k)) ∙ ap (entity_fits w r.of x.0) e) ∙ fits_there in
          let type = some_and (λ t. t == r.of) (entity_type w y) (and_parts (is_some_and (λ t. t == r.of) (entity_type w y)) _ there).0 in
          no-value w y r.of a q (type.1 ∙ ap (λ t. Some t) (eqb-true type.0 r.of type.2)) (free-member w.model S a free r root)

      go : (o : Option (Path × Option Entity)) → at_path (λ x. x.0) i.prefixes [] ≡ o → option_and_then (value_behind w (a ∷ q)) (option_and_then (λ x. x.1) o) ≡ None
      go None e = refl
      go (Some x) e = at_entity x x.1 refl e

-- the value of a path under the alias is that of the path without it, of what stands there
pub lookup-behind : (w : World) (a : Name) (S : Shape) → Law w.model S → is_free w.model S a ≡ true → (r : RootShape) → S.root ≡ Some r → (i j : Instance) → Fit w S i → (q : Path) → lookup w (beside a i j) (a ∷ q) ≡ lookup w j q
lookup-behind w a S LS free r root i j F q = ap (λ o. unwrap_or o Value.Null) (λ k. first_some (columns k) (prefixes k))
  where
    columns : column_value (beside a i j) (a ∷ q) ≡ column_value j q
    columns =
        ap (option_map (λ c. c.1)) (find-joined (λ c. same_path c.0 (a ∷ q)) i.columns (map (beneath a) j.columns)
        ∙ (λ k. first_some (own-columns w a S LS free r root i F q k) (under-cons (λ c. c.0) a (beneath a) (λ c. refl) j.columns q k)))
        ∙ go (at_path (λ c. c.0) j.columns q)
      where
        go : (o : Option (Path × Value)) → option_map (λ c. c.1) (option_map (beneath a) o) ≡ option_map (λ c. c.1) o
        go None = refl
        go (Some c) = refl

    table : Path → Option (Path × Option Entity)
    table = at_path (λ x. x.0) (i.prefixes ++ map (beneath a) j.prefixes)

    leads : Option ((Path × Option Entity) × Path) → Option Value
    leads = option_and_then (λ x. option_and_then (value_behind w x.1) (x.0).1)

    under : (s : Path) → table (a ∷ s) ≡ option_map (beneath a) (at_path (λ x. x.0) j.prefixes s)
    under s =
        find-joined (λ x. same_path x.0 (a ∷ s)) i.prefixes (map (beneath a) j.prefixes)
        ∙ (λ k. first_some (own-prefixes w a S LS free r root i F s k) (under-cons (λ x. x.0) a (beneath a) (λ x. refl) j.prefixes s k))

    at_root : table [] ≡ at_path (λ x. x.0) i.prefixes []
    at_root = at-left (λ x. x.0) i.prefixes (map (beneath a) j.prefixes) [] (under-nil (λ x. x.0) a (beneath a) (λ x. refl) j.prefixes)

    steps : longest table (a ∷ q) ≡ first_some (option_map (λ x. (beneath a x.0, x.1)) (longest (at_path (λ x. x.0) j.prefixes) q)) (first_some (option_map (λ x. (x, a ∷ q)) (at_path (λ x. x.0) i.prefixes [])) None)
    steps = longest-cons table a q
        ∙ (λ k. first_some ((longest-same (λ s. table (a ∷ s)) (λ s. option_map (beneath a) (at_path (λ x. x.0) j.prefixes s)) q (λ s t e. under s) ∙ longest-map (beneath a) (at_path (λ x. x.0) j.prefixes) q) k)
        (first_some (option_map (λ x. (x, a ∷ q)) (at_root k)) None))

    prefixes : prefix_value w (beside a i j) (a ∷ q) ≡ prefix_value w j q
    prefixes = ap leads steps ∙ go (longest (at_path (λ x. x.0) j.prefixes) q) (at_path (λ x. x.0) i.prefixes []) (own-root w a S LS free r root i F q)
      where
        go : (o : Option ((Path × Option Entity) × Path)) (u : Option (Path × Option Entity)) → option_and_then (value_behind w (a ∷ q)) (option_and_then (λ x. x.1) u) ≡ None
            → leads (first_some (option_map (λ x. (beneath a x.0, x.1)) o) (first_some (option_map (λ x. (x, a ∷ q)) u) None)) ≡ leads o
        go None None h = refl
        go None (Some x) h = h
        go (Some x) u h = refl
