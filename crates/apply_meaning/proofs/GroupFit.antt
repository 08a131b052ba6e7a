-- What groupings make of lists that fit their shapes.
use Rattle.std.proofs.Common.{◌≡◌, refl, sym, ◌∙◌, ap, ℕ, zero, suc, ◌+◌, ◌≤◌, Bool, true, false, ◌&&◌, ◌||◌, not, List, [], ◌∷◌, ◌++◌, Option, Some, None, map, filter, length, reverse, take, inl, inr, arith}
use Rattle.std.specs.Prelude.{option_and_then, option_map, is_some, is_none, flat_map, slice_get, nat_le, unwrap_or, if◌then◌else◌}
use Rattle.std.specs.List.{list_all, list_any, range_with_len}
use Rattle.std.proofs.lemmas.List.{append-nil, append_assoc, map-append, reverse-append}
use Rattle.std.proofs.lemmas.Bool.{eq-eqb, and_parts, and_from, not-true, both_ways, or_right, not_from_false, le-leb}
use Rattle.edm_values.proofs.EachLemmas.{Each, each-append, each-map}
use Rattle.edm_values.proofs.KindLaws.{same_kind-fits}
use Rattle.edm_values.proofs.ListFacts.{all-any, all-append, all-map, all-parts, all-take, all-filter, filter-passes}
use Rattle.edm_values.proofs.OptionFacts.{all_some-parts, and_3, mapped, none_or, option_cases, some_and, some_value}
use Rattle.edm_values.proofs.SearchFacts.{IsAmong, all-distinct, found-all, member-self, none-all}
use Rattle.edm_values.specs.Lists.{all_some, is_nonempty, is_some_and}
use Rattle.edm_values.specs.Literals.{is_of_kind, same_kind}
use Rattle.edm_values.specs.Names.{Name, Path}
use Rattle.edm_values.specs.OrderLaws.{same_value_is, same_value_itself}
use Rattle.edm_values.specs.Values.{is_beyond, same_value}
use Rattle.edm_values.specs.declared.EdmType.{EdmType}
use Rattle.edm_values.specs.declared.Value.{Value}
use Rattle.edm_model.specs.LookUps.{HierarchyPlace, key_at, property_on, type_at}
use Rattle.edm_model.specs.Models.{EntityType, Model, Property}
use Rattle.edm_data.specs.Nodes.{identifier}
use Rattle.edm_data.specs.References.{entity_type}
use Rattle.edm_data.specs.Worlds.{Entity, World, entity_at}
use Rattle.apply_ast.specs.Trees.{HierName}
use Rattle.context_typing.proofs.LawfulLemmas.{member-of_property}
use Rattle.context_typing.proofs.MergedShape.{at-root, root_entry, same_kind-left}
use Rattle.context_typing.proofs.PathLemmas.{entry-path, longest-at, path-self}
use Rattle.context_typing.proofs.ShapeLemmas.{Law}
use Rattle.context_typing.proofs.TypingLaw.{no-overlap}
use Rattle.context_typing.specs.Paths.{at_path, is_none_or, is_proper_prefix, same_path}
use Rattle.context_typing.specs.Shapes.{ColumnShape, PrefixShape, RootShape, Shape}
use Rattle.context_typing.specs.Typing.{RollupPart, all_prefixes, column_at, hierarchy_at, is_member, is_node_path, is_risky, key_column, overlaps, path_kind, prefix_at, rollup_columns, rollup_paths}
use Rattle.apply_meaning.proofs.FitLemmas.{Fit, fit-parts}
use Rattle.apply_meaning.proofs.FitMore.{in_order}
use Rattle.apply_meaning.proofs.LookupLemmas.{by_column, lookup-fits, lookup-not_beyond, lookup-root}
use Rattle.apply_meaning.proofs.MeanLemmas.{root-entry, root-type_of, rooted-from}
use Rattle.apply_meaning.proofs.NodeLemmas.{named-parts}
use Rattle.apply_meaning.proofs.RootLemmas.{joined-all, root_passes}
use Rattle.apply_meaning.proofs.WellTyped.{IsWellTyped}
use Rattle.apply_meaning.specs.Instances.{Instance, column_fits, entity_property, fits, is_entity, is_passing, is_rooted, lookup, prefix_fits, root_of, value_on, extended}
use Rattle.apply_meaning.specs.Meaning.{Outcome, at_or_below, group, grouped, groups_by, joined, key_list, keyed, keys, level_paths, node_groups, same_keys}
use Rattle.apply_meaning.specs.MeaningLaws.{AllFit}

-- the value that a path leads to from the root of an instance is that of the path
pub root-value : (w : World) (S : Shape) (i : Instance) → Law w.model S → Fit w S i → (p : Path) (e : Entity) (t : ℕ) (q : Property)
    → root_of i ≡ Some e → entity_type w e ≡ Some t → property_on w.model t p ≡ Some q → lookup w i p ≡ value_on w e p
root-value w S i L F p e t q h k g = elim (option_cases (at_path (λ c. c.0) i.columns p)) [
  | inl n ↦ let f = root-entry i e h in lookup-root w i p n f.0 e (longest-at (at_path (λ x. x.0) i.prefixes) [] p (f.0, Some e) f.1 (none_further p g))
  | inr c ↦ column-value c.0 c.1
]
  where
    column-value : (c : Path × Value) → at_path (λ c. c.0) i.columns p ≡ Some c → lookup w i p ≡ value_on w e p
    column-value c a =
        let f = found-all (λ x. same_path x.0 p) (λ c. is_some_and (column_fits w i c) (column_at S c.0)) i.columns c a F.columns_fit in
        let x = some_and (column_fits w i c) (column_at S c.0) f in
        let r = (and_3 (is_of_kind (x.0).kind c.1) ((x.0).risky || not (is_beyond c.1)) (is_rooted w i c) x.2).2 in
        let path = entry-path (λ x. x.0) i.columns p c a in
        let o = sym (λ j. elim (h j) [ None ↦ true | Some e ↦ elim (option_and_then (λ t. property_on w.model t c.0) (entity_type w e)) [ None ↦ true | Some q ↦ same_value c.1 (value_on w e c.0) ] ]) ∙ r in
        let o2 = sym (λ j. elim (option_and_then (λ t. property_on w.model t c.0) (k j)) [ None ↦ true | Some q ↦ same_value c.1 (value_on w e c.0) ]) ∙ o in
        let o3 = sym (λ j. elim ((ap (property_on w.model t) path ∙ g) j) [ None ↦ true | Some q ↦ same_value c.1 (value_on w e c.0) ]) ∙ o2 in
        by_column w i p c a ∙ same_value_is c.1 (value_on w e c.0) o3 ∙ ap (value_on w e) path

    none_further : (p : Path) → property_on w.model t p ≡ Some q → (n : Name) (r s : Path) → (n ∷ r) ++ s ≡ p → at_path (λ x. x.0) i.prefixes (n ∷ r) ≡ None
    none_further p g n r s z = elim (option_cases (at_path (λ x. x.0) i.prefixes (n ∷ r))) [
      | inl o ↦ o
      | inr x ↦
          let member = member-of_property w.model t n (r ++ s) q (ap (property_on w.model t) z ∙ g) in
          let fit = found-all (λ y. same_path y.0 (n ∷ r)) (prefix_fits w S i) i.prefixes x.0 x.1 F.prefixes_fit in
          absurd (both_ways (is_member w.model t n) (stranger x.0 (entry-path (λ y. y.0) i.prefixes (n ∷ r) x.0 x.1) (prefix_at S (x.0).0) refl fit) member)
    ]
      where
        stranger : (x : Path × Option Entity) → x.0 ≡ n ∷ r → (o : Option PrefixShape) → prefix_at S x.0 ≡ o
            → elim o [ None ↦ is_passing w S i x | Some y ↦ elim x.1 [ None ↦ is_nonempty x.0 | Some e ↦ is_entity w y.of e ] ] ≡ true → is_member w.model t n ≡ false
        stranger x path (Some y) a b =
            let r0 = root-type_of w S i L F e h in
            let same = some_value (sym k ∙ r0.2) in
            ap (λ z. is_member w.model z n) same ∙ L.apart [] n r (root_entry r0.0) y (at-root S L.prefix_paths ∙ ap (option_map root_entry) r0.1) (ap (prefix_at S) (sym path) ∙ a)
        stranger x path None a b =
            let c = (and_3 (is_none x.1 && is_nonempty x.0) (list_any (λ c. is_proper_prefix x.0 c.path) S.columns || list_any (λ y. is_proper_prefix x.0 y.path) S.prefixes) _ b).2 in
            not-true _ (sym (λ j. not (is_some_and (λ n. is_some_and (λ t. is_member w.model t n) ((ap (option_and_then (entity_type w)) h ∙ k) j)) (slice_get (path j) 0))) ∙ c)

-- the test of a root: it has the value at the path that an instance has
abbrev pub has_value : World → Instance → Path → Entity → Bool
has_value w i p e = is_none_or (λ q. same_value (lookup w i p) (value_on w e p)) (entity_property w p e)

abbrev pub key_ok : World → Shape → Instance → Instance → Path → Bool
key_ok w S i x p = is_some (path_kind w.model S p) && root_passes (has_value w i p) x

-- key columns beside the values of an instance
module _ (w : World) (P : IsWellTyped w) (S G : Shape) (LS : Law w.model S) (LG : Law w.model G) (i : Instance) (F : Fit w S i) (x : Instance) (X : Fit w G x) where
  abbrev key_value : Path → Path × Value
  key_value p = (p, lookup w i p)

  key-fits : (b : Bool) (p : Path) → is_some (path_kind w.model S p) ≡ true → root_passes (has_value w i p) x ≡ true → (same_path p p && column_fits w x (key_value p) (key_column w.model S b p)) ≡ true
  key-fits b p t r = and_from _ _ (path-self p) (and_from _ _ (and_from _ _ (typed (path_kind w.model S p) refl t) (risk (is_risky S p) refl)) r)
    where
      typed : (o : Option EdmType) → path_kind w.model S p ≡ o → is_some o ≡ true → is_of_kind (unwrap_or o EdmType.Text) (lookup w i p) ≡ true
      typed None e h = cc
      typed (Some k) e h = lookup-fits w P S i p k F e

      risk : (b : Bool) → is_risky S p ≡ b → (b || not (is_beyond (lookup w i p))) ≡ true
      risk true e = refl
      risk false e = not_from_false _ (lookup-not_beyond w P S i p F e)

  plain-order : (ps : List Path) (cs : List (Path × Value)) (ks : List ColumnShape) → list_all (key_ok w S i x) ps ≡ true → in_order (column_fits w x) cs ks ≡ true
      → in_order (column_fits w x) (map key_value ps ++ cs) (map (key_column w.model S false) ps ++ ks) ≡ true
  plain-order [] cs ks a h = h
  plain-order (p ∷ ps) cs ks a h = let t = and_parts (key_ok w S i x p) _ a in let u = and_parts (is_some (path_kind w.model S p)) _ t.0 in and_from _ _ (key-fits false p u.0 u.1) (plain-order ps cs ks t.1 h)

  all-absent : (ps : List Path) → list_all (λ k. k.absent) (map (key_column w.model S true) ps) ≡ true
  all-absent [] = refl
  all-absent (p ∷ ps) = all-absent ps

  later-order : (j : ℕ) (ps : List Path) → list_all (key_ok w S i x) (take j ps) ≡ true → in_order (column_fits w x) (map key_value (take j ps)) (map (key_column w.model S true) ps) ≡ true
  later-order zero ps a = all-absent ps
  later-order (suc j) [] a = refl
  later-order (suc j) (p ∷ ps) a = let t = and_parts (key_ok w S i x p) _ a in let u = and_parts (is_some (path_kind w.model S p)) _ t.0 in and_from _ _ (key-fits true p u.0 u.1) (later-order j ps t.1)

  level-order : (all : Bool) (j : ℕ) (ps : List Path) → (all || nat_le 1 j) ≡ true → list_all (key_ok w S i x) (take j ps) ≡ true → in_order (column_fits w x) (map key_value (take j ps)) (rollup_columns w.model S (RollupPart.Levels all ps)) ≡ true
  level-order all zero [] b a = refl
  level-order all (suc j) [] b a = refl
  level-order true zero (p ∷ ps) b a = all-absent ps
  level-order false zero (p ∷ ps) b a = cc
  level-order all (suc j) (p ∷ ps) b a = let t = and_parts (key_ok w S i x p) _ a in let u = and_parts (is_some (path_kind w.model S p)) _ t.0 in and_from _ _ (key-fits all p u.0 u.1) (later-order j ps t.1)

-- the values of one key list are those of another, one by one
same-keys : (w : World) (i j : Instance) (ps : List Path) → same_keys (key_list w ps i) (key_list w ps j) ≡ true → list_all (λ p. same_value (lookup w i p) (lookup w j p)) ps ≡ true
same-keys w i j [] h = refl
same-keys w i j (p ∷ ps) h = let t = and_parts (same_value (lookup w i p) (lookup w j p)) _ h in and_from _ _ t.0 (same-keys w i j ps t.1)

zip-values : (w : World) (i : Instance) (ps : List Path) → keyed ps (key_list w ps i) ≡ map (λ p. (p, lookup w i p)) ps
zip-values w i [] = refl
zip-values w i (p ∷ ps) = ap (λ z. (p, lookup w i p) ∷ z) (zip-values w i ps)

-- what is made of groups passes a test that each result with the values of an instance passes
module _ (w : World) (S G : Shape) (LS : Law w.model S) (f : List Instance → Outcome) (fit : (l r : List Instance) → AllFit w S l → f l ≡ Some r → AllFit w G r)
    (roots : (Q : Entity → Bool) (l r : List Instance) → list_all (root_passes Q) l ≡ true → f l ≡ Some r → list_all (root_passes Q) r ≡ true) where
  pub grouped-all : (level : List Path) (l out : List Instance) → AllFit w S l → grouped w level f l ≡ Some out → list_all (λ p. is_some (path_kind w.model S p)) level ≡ true → (test : Instance → Bool)
      → ((i x : Instance) → Fit w S i → Fit w G x → list_all (key_ok w S i x) level ≡ true → test (extended x (map (λ p. (p, lookup w i p)) level)) ≡ true) → list_all test out ≡ true
  grouped-all level l out a e typed test h = joined-all test (λ k. option_map (map (λ r. extended r (keyed level k))) (f (group w level k l))) (keys w level l) out e (λ k m y z.
      let t = mapped (map (λ r. extended r (keyed level k))) (f (group w level k l)) y z in
      sym (ap (list_all test) t.2) ∙ all-map (λ r. test (extended r (keyed level k))) test (λ r. extended r (keyed level k)) t.0 (at k (m passes all_pass) t.0 t.1) (λ r p. p))
    where
      passes_in : List Value → Option (List Instance) → Bool
      passes_in k o = elim o [ None ↦ true | Some r ↦ list_all (λ r. test (extended r (keyed level k))) r ]

      passes : List Value → Bool
      passes k = passes_in k (f (group w level k l))

      at : (k : List Value) → passes k ≡ true → (r : List Instance) → f (group w level k l) ≡ Some r → list_all (λ r. test (extended r (keyed level k))) r ≡ true
      at k p r e = sym (ap (passes_in k) e) ∙ p

      one : (i : Instance) → Fit w S i → (o : Option (List Instance)) → f (group w level (key_list w level i) l) ≡ o → passes_in (key_list w level i) o ≡ true
      one i F None e = refl
      one i F (Some r) e =
          let fits_all = fit (group w level (key_list w level i) l) r (all-filter (fits w S) (λ j. same_keys (key_list w level j) (key_list w level i)) l a) e in
          member-self r (λ x. test (extended x (keyed level (key_list w level i)))) (λ x m.
          ap (λ cs. test (extended x cs)) (zip-values w i level)
          ∙ h i x F (fit-parts w G x (m (fits w G) fits_all)) (member-self level (key_ok w S i x) (λ p n.
          and_from _ _ (n (λ p. is_some (path_kind w.model S p)) typed)
          (m (root_passes (has_value w i p)) (roots (has_value w i p) (group w level (key_list w level i) l) r (of_group p n) e)))))
        where
          of_group : (p : Path) → IsAmong level p → list_all (root_passes (has_value w i p)) (group w level (key_list w level i) l) ≡ true
          of_group p n = member-self (group w level (key_list w level i) l) (root_passes (has_value w i p)) (λ j m.
              let J = fit-parts w S j (m (fits w S) (all-filter (fits w S) (λ j. same_keys (key_list w level j) (key_list w level i)) l a)) in
              let same = n (λ p. same_value (lookup w j p) (lookup w i p)) (same-keys w j i level (m (λ j. same_keys (key_list w level j) (key_list w level i)) (filter-passes (λ j. same_keys (key_list w level j) (key_list w level i)) l))) in
              rooted-from w j (p, lookup w i p) (λ e t q b c d.
              ap (λ v. same_value v (value_on w e p)) (sym (same_value_is (lookup w j p) (lookup w i p) same) ∙ root-value w S j LS J p e t q b c d) ∙ same_value_itself (value_on w e p)))

      all_pass : list_all passes (keys w level l) ≡ true
      all_pass = all-distinct passes same_keys (map (key_list w level) l) (all-map (fits w S) passes (key_list w level) l a (λ i F. one i (fit-parts w S i F) (f (group w level (key_list w level i) l)) refl))

-- the key of a set is that of its type
key-at : (m : Model) (s t : ℕ) (E : EntityType) → option_map (λ x. x.of) (slice_get m.sets s) ≡ Some t → type_at m t ≡ Some E → key_at m s ≡ E.key
key-at m s t E h k =
    let x = mapped (λ x. x.of) (slice_get m.sets s) t h in
    ap (λ o. unwrap_or (option_map (λ t. t.key) (option_and_then (λ es. type_at m es.of) o)) 0) x.1
    ∙ ap (λ z. unwrap_or (option_map (λ t. t.key) (type_at m z)) 0) x.2 ∙ ap (λ o. unwrap_or (option_map (λ t. t.key) o) 0) k

-- the values of a node's identifier
identifier-fits : (w : World) → IsWellTyped w → (h : HierName) (t : HierarchyPlace) → hierarchy_at w.model h ≡ Some t → (x : ℕ) → (is_of_kind t.key.kind (identifier w t x) ≡ true) × (is_beyond (identifier w t x) ≡ false)
identifier-fits w P h t e x =
    let n = named-parts w.model h t e in
    P.values (entity_at t.set x) t.type n.1 (key_at w.model t.set) t.key n.0 n.2 (ap (slice_get (n.1).properties) (key-at w.model t.set t.type n.1 n.0 n.2) ∙ n.3)

-- all elements of a list the other way round
pub all-reverse : {X : Type 0} (q : X → Bool) (xs : List X) → list_all q xs ≡ true → list_all q (reverse xs) ≡ true
all-reverse q [] h = refl
all-reverse q (x ∷ xs) h =
    let t = and_parts (q x) _ h in
    ap (list_all q) (reverse-append (x ∷ []) xs) ∙ all-append q (reverse xs) (x ∷ []) (all-reverse q xs t.1) (and_from _ _ t.0 refl)

pub from-one : (n len : ℕ) → 1 ≤ n → list_all (λ j. nat_le 1 j) (range_with_len n len) ≡ true
from-one n zero h = refl
from-one n (suc len) h = and_from _ _ (le-leb 1 n h) (from-one (n + 1) len (omega (arith, h)))

each-all : {X : Type 0} (P : X → Type 0) (q : X → Bool) (xs : List X) → list_all q xs ≡ true → ((x : X) → q x ≡ true → P x) → Each P xs
each-all P q [] a h = tt
each-all P q (x ∷ xs) a h = let t = and_parts (q x) _ a in (h x t.0, each-all P q xs t.1 h)

joined-each : {X : Type 0} (p : Instance → Bool) (h : X → Outcome) (xs : List X) (out : List Instance) → Each (λ x. (r : List Instance) → h x ≡ Some r → list_all p r ≡ true) xs → joined (map h xs) ≡ Some out → list_all p out ≡ true
joined-each p h xs out k e =
    let t = mapped (λ ls. flat_map (λ l. l) ls) (all_some (map h xs)) out e in
    sym (ap (list_all p) t.2) ∙ each xs t.0 t.1 k
  where
    each : (xs : List _) (ls : List (List Instance)) → all_some (map h xs) ≡ Some ls → Each (λ x. (r : List Instance) → h x ≡ Some r → list_all p r ≡ true) xs → list_all p (flat_map (λ l. l) ls) ≡ true
    each [] ls e k = sym (ap (λ z. list_all p (flat_map (λ l. l) z)) (some_value e))
    each (x ∷ xs) ls e k =
        let t = all_some-parts (h x) (map h xs) ls e in
        sym (ap (λ z. list_all p (flat_map (λ l. l) z)) t.4) ∙ all-append p t.0 (flat_map (λ l. l) t.2) (k.0 t.0 t.1) (each xs t.2 t.3 k.1)

same_kind-self : (k : EdmType) → same_kind k k ≡ true
same_kind-self EdmType.Bool = refl
same_kind-self EdmType.Int = refl
same_kind-self (EdmType.Dec s p) = eq-eqb s s refl
same_kind-self EdmType.Text = refl
same_kind-self EdmType.Day = refl

-- a hierarchy's nodes may be the values of a path
abbrev pub PartTyped : World → Shape → Shape → RollupPart → Type 0
PartTyped w S G RollupPart.NoRollup = Unit {0}
PartTyped w S G (RollupPart.Levels all ps) = Unit {0}
PartTyped w S G (RollupPart.Nodes h p) = (is_node_path w.model S h p ≡ true) × (is_nonempty (all_prefixes G) ≡ false)

-- a grouping: what is made of each group fits, with the values of its keys
module _ (w : World) (P : IsWellTyped w) (S G S' : Shape) (LS : Law w.model S) (LG : Law w.model G) (f : List Instance → Outcome) (fit : (l r : List Instance) → AllFit w S l → f l ≡ Some r → AllFit w G r)
    (roots : (Q : Entity → Bool) (l r : List Instance) → list_all (root_passes Q) l ≡ true → f l ≡ Some r → list_all (root_passes Q) r ≡ true) (plain : List Path) where
  abbrev Extends : RollupPart → Type 0
  Extends part = (x : Instance) → Fit w G x → (cs : List (Path × Value)) → in_order (column_fits w x) cs (map (key_column w.model S false) plain ++ rollup_columns w.model S part) ≡ true → fits w S' (extended x cs) ≡ true

  abbrev typed : Path → Bool
  typed p = is_some (path_kind w.model S p)

  level-fits : (all : Bool) (ps : List Path) → list_all typed (plain ++ ps) ≡ true → Extends (RollupPart.Levels all ps) → (l : List Instance) → AllFit w S l → (j : ℕ) → (all || nat_le 1 j) ≡ true → (out : List Instance)
      → grouped w (plain ++ take j ps) f l ≡ Some out → AllFit w S' out
  level-fits all ps t E l a j h out e =
      let u = all-parts typed plain ps t in
      grouped-all w S G LS f fit roots (plain ++ take j ps) l out a e (all-append typed plain (take j ps) u.0 (all-take typed j ps u.1)) (fits w S') (λ i x F X k.
      let v = all-parts (key_ok w S i x) plain (take j ps) k in
      ap (λ cs. fits w S' (extended x cs)) (map-append (λ p. (p, lookup w i p)) plain (take j ps))
      ∙ E x X (map (λ p. (p, lookup w i p)) plain ++ map (λ p. (p, lookup w i p)) (take j ps))
      (plain-order w P S G LS LG i F x X plain (map (λ p. (p, lookup w i p)) (take j ps)) (rollup_columns w.model S (RollupPart.Levels all ps)) v.0
      (level-order w P S G LS LG i F x X all j ps h v.1)))

  levels-each : (all : Bool) (ps : List Path) → list_all typed (plain ++ ps) ≡ true → Extends (RollupPart.Levels all ps) → (l : List Instance) → AllFit w S l
      → Each (λ level. (r : List Instance) → grouped w level f l ≡ Some r → AllFit w S' r) (level_paths plain (RollupPart.Levels all ps))
  levels-each all ps t E l a =
      each-append (λ level. (r : List Instance) → grouped w level f l ≡ Some r → AllFit w S' r) (map (λ j. plain ++ take j ps) (reverse (range_with_len 1 (length ps)))) (if all then plain ∷ [] else [])
      (each-map (λ level. (r : List Instance) → grouped w level f l ≡ Some r → AllFit w S' r) (λ j. nat_le 1 j ≡ true) (λ j. plain ++ take j ps) (λ j h r e. level-fits all ps t E l a j (or_right all _ h) r e)
      (reverse (range_with_len 1 (length ps))) (each-all (λ j. nat_le 1 j ≡ true) (λ j. nat_le 1 j) (reverse (range_with_len 1 (length ps))) (all-reverse (λ j. nat_le 1 j) (range_with_len 1 (length ps)) (from-one 1 (length ps) (omega arith))) (λ j h. h)))
      (whole all E)
    where
      whole : (all : Bool) → Extends (RollupPart.Levels all ps) → Each (λ level. (r : List Instance) → grouped w level f l ≡ Some r → AllFit w S' r) (if all then plain ∷ [] else [])
      whole true E = ((λ r e. level-fits true ps t E l a 0 refl r (ap (λ level. grouped w level f l) (append-nil plain) ∙ e)), tt)
      whole false E = tt

  pub parts-fit : (part : RollupPart) → list_all typed (plain ++ rollup_paths part) ≡ true → Extends part → PartTyped w S G part → (shown : List ℕ) (l out : List Instance) → AllFit w S l
      → groups_by w part plain shown f l ≡ Some out → AllFit w S' out
  parts-fit RollupPart.NoRollup t E n shown l out a e =
      joined-each (fits w S') (λ level. grouped w level f l) (level_paths plain RollupPart.NoRollup) out ((λ r k. level-fits true [] t E' l a 0 refl r (ap (λ level. grouped w level f l) (append-nil plain) ∙ k)), tt) e
    where
      E' : Extends (RollupPart.Levels true [])
      E' = E
  parts-fit (RollupPart.Levels all ps) t E n shown l out a e = joined-each (fits w S') (λ level. grouped w level f l) (level_paths plain (RollupPart.Levels all ps)) out (levels-each all ps t E l a) e
  parts-fit (RollupPart.Nodes h p) t E n shown l out a e = nodes (hierarchy_at w.model h) refl e
    where
      column-ok : (t : HierarchyPlace) → hierarchy_at w.model h ≡ Some t → (x : Instance) → Fit w G x → (k : ℕ) → in_order (column_fits w x) ((p, identifier w t k) ∷ []) (rollup_columns w.model S (RollupPart.Nodes h p)) ≡ true
      column-ok t q x X k =
          let f = some_and (same_kind t.key.kind) (path_kind w.model S p) (sym (ap (is_some_and (λ f. is_some_and (same_kind f.key.kind) (path_kind w.model S p))) q) ∙ n.0) in
          let id = identifier-fits w P h t q k in
          and_from _ _ (and_from _ _ (path-self p) (and_from _ _ (and_from _ _
          (ap (λ o. is_of_kind (unwrap_or o EdmType.Text) (identifier w t k)) f.1 ∙ same_kind-fits f.0 t.key.kind (identifier w t k) (sym (same_kind-left t.key.kind f.0 t.key.kind f.2) ∙ same_kind-self t.key.kind) id.0)
          (not_from_false _ id.1))
          (rooted-from w x (p, identifier w t k) (λ e t' q' b c d. absurd (rootless e (root-type_of w G x LG X e b)))))) refl
        where
          rootless : (e : Entity) → (r : RootShape) × (G.root ≡ Some r) × (entity_type w e ≡ Some r.of) → ⊥
          rootless e r = both_ways _ n.1 (ap (λ o. is_nonempty (elim o [ None ↦ G.prefixes | Some r ↦ root_entry r ∷ G.prefixes ])) r.1)

      nodes : (o : Option HierarchyPlace) → hierarchy_at w.model h ≡ o → node_groups w o plain p shown f l ≡ Some out → AllFit w S' out
      nodes None q e = none_or out e
      nodes (Some t') q e = joined-each (fits w S') (λ x. option_map (map (λ r. extended r ((p, identifier w t' x) ∷ []))) (grouped w plain f (filter (at_or_below w t' p x) l))) shown out
          (each-all _ (λ x. true) shown (all-any (λ x. true) shown (λ x. refl)) (λ k h' r z.
          let u = mapped (map (λ r. extended r ((p, identifier w t' k) ∷ []))) (grouped w plain f (filter (at_or_below w t' p k) l)) r z in
          sym (ap (list_all (fits w S')) u.2)
          ∙ all-map (λ r. fits w S' (extended r ((p, identifier w t' k) ∷ []))) (fits w S') (λ r. extended r ((p, identifier w t' k) ∷ [])) u.0
          (grouped-all w S G LS f fit roots plain (filter (at_or_below w t' p k) l) u.0 (all-filter (fits w S) (at_or_below w t' p k) l a) u.1 (all-parts typed plain (p ∷ []) t).0
          (λ r. fits w S' (extended r ((p, identifier w t' k) ∷ [])))
          (λ i x F X ok. (λ i'. fits w S' (record x { columns = append_assoc x.columns (map (λ p. (p, lookup w i p)) plain) ((p, identifier w t' k) ∷ []) i' }))
          ∙ E x X (map (λ p. (p, lookup w i p)) plain ++ (p, identifier w t' k) ∷ []) (plain-order w P S G LS LG i F x X plain ((p, identifier w t' k) ∷ []) (rollup_columns w.model S (RollupPart.Nodes h p)) ok (column-ok t' q x X k))))
          (λ r g. g))) e

-- the columns of a grouping's keys are apart from those of what each group becomes
pub grouped-apart : (ks : List Path) (cs : List ColumnShape) → not (list_any (λ c. overlaps ks c.path) cs) ≡ true → list_all (λ p. not (list_any (same_path p) ks)) (map (λ c. c.path) cs) ≡ true
grouped-apart ks cs h = all-map (λ c. not (overlaps ks c.path)) (λ p. not (list_any (same_path p) ks)) (λ c. c.path) cs (none-all (λ c. overlaps ks c.path) cs (not-true _ h)) (λ c k. not_from_false _ (no-overlap ks c.path (not-true _ k)))
