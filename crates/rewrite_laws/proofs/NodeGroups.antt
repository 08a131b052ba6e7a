-- A filter on the node alone, behind a grouping by nodes and among the nodes: its values, and the rows that it keeps.
use Rattle.std.proofs.Common.{◌≡◌, refl, sym, ◌∙◌, ap, subst, ℕ, ◌==◌, Bool, true, false, ◌&&◌, ◌||◌, not, List, [], ◌∷◌, ◌++◌, map, filter, Option, Some, None, IsTrue, cond, inl, inr, if◌then◌else◌}
use Rattle.std.specs.Prelude.{nat_eq, option_and_then, option_map, filter_map, is_some, is_none}
use Rattle.std.specs.Bool.{then_some}
use Rattle.std.specs.List.{list_all, list_any, cons_option}
use Rattle.std.proofs.lemmas.Bool.{and_parts, and_from, or_parts, or_cases, not-true, not_from_false, true≢false, false_from_ne_true, eqb-true, eq-eqb}
use Rattle.edm_values.specs.Lists.{distinct, first_some, are_distinct, places}
use Rattle.edm_values.specs.Literals.{is_boolean_kind}
use Rattle.edm_values.specs.Names.{Path}
use Rattle.edm_values.specs.OrderLaws.{same_value_itself}
use Rattle.edm_values.specs.Values.{is_beyond, is_value, same_value}
use Rattle.edm_values.specs.declared.Value.{Value}
use Rattle.edm_values.proofs.EachLemmas.{map-agree_all}
use Rattle.edm_values.proofs.OptionFacts.{none_or, some_value, option_cases, chained, mapped, then_some-parts, map-there}
use Rattle.edm_values.proofs.ListFacts.{all-each, all-filter, all-map, all-parts}
use Rattle.edm_values.proofs.SearchFacts.{find-joined, all-distinct}
use Rattle.edm_model.specs.LookUps.{HierarchyPlace}
use Rattle.edm_data.specs.Worlds.{World, entity_at}
use Rattle.edm_data.specs.References.{count}
use Rattle.edm_data.specs.Nodes.{identifier}
use Rattle.apply_ast.specs.Trees.{Expr, Keys, OptPipe, Step}
use Rattle.context_typing.specs.Paths.{is_none_or, same_path, at_path}
use Rattle.context_typing.specs.Shapes.{ColumnShape, RootShape, Shape, set_shape}
use Rattle.context_typing.specs.Typing.{Customs, hierarchy_at, group_keys, rollup_paths, plain_paths, key_paths, column_at, has_kind, is_sure, is_lawful, root_type, inner_shape, customs_typed}
use Rattle.context_typing.proofs.LawfulShapes.{own_is_lawful}
use Rattle.context_typing.proofs.PathLemmas.{same_paths, path-self}
use Rattle.context_typing.proofs.ShapeLemmas.{Law}
use Rattle.context_typing.proofs.TypingLaw.{inner_law, law-own, root-same}
use Rattle.apply_meaning.specs.Instances.{extended, Instance, entity_instance, fits, lookup, no_instance, root_of, rows, val}
use Rattle.apply_meaning.specs.Meaning.{Outcome, mean, step_mean, inner_mean, keys_shown, shown_of, grouped, group, keyed, keys, key_list, same_keys, groups_by, node_groups, grouping_mean, at_or_below, joined}
use Rattle.apply_meaning.specs.MeaningLaws.{AllFit}
use Rattle.apply_meaning.proofs.FitLemmas.{fit-parts}
use Rattle.apply_meaning.proofs.LookupLemmas.{by_column, column-of}
use Rattle.apply_meaning.proofs.RootLemmas.{joined-all, root_passes, inner_roots}
use Rattle.rewrite_laws.specs.Rewrites.{over, is_among, on_node, ended_inner, ended_keys, grouping_quiet}
use Rattle.rewrite_laws.proofs.RuleLemmas.{Laws, sure-filter, has_kind-typed}
use Rattle.rewrite_laws.proofs.ExprPaths.{val-moved, val-same}
use Rattle.rewrite_laws.proofs.JoinedResults.{joined-more, filter-by, filter-joined, map-mapped}
use Rattle.rewrite_laws.proofs.InnerLaws.{inner-fits}
use Rattle.rewrite_laws.proofs.EndedPipes.{ended_inner-mean}
use Rattle.rewrite_laws.proofs.GroupRules.{level-is, distinct-filter, all-one}
use Rattle.rewrite_laws.proofs.GroupingRules.{IsGrouping, made-total, made-fits, plainly, apart-last}
use Rattle.rewrite_laws.proofs.NodeKeys.{NodeKey}
use Rattle.rewrite_laws.proofs.NodeLookups.{node-lookup}

-- ---- lists

-- joined results of which some are empty
joined-gaps : {X : Type 0} (keep : X → Bool) (h : X → Outcome) (xs : List X) → joined (map (λ x. if keep x then h x else Some []) xs) ≡ joined (map h (filter keep xs))
joined-gaps keep h [] = refl
joined-gaps keep h (x ∷ xs) = joined-more (if keep x then h x else Some []) (map (λ x. if keep x then h x else Some []) xs) ∙ go (keep x) (joined-gaps keep h xs)
  where
    whole : (o : Outcome) → option_map (λ y. [] ++ y) o ≡ o
    whole None = refl
    whole (Some y) = refl

    go : (b : Bool) → joined (map (λ x. if keep x then h x else Some []) xs) ≡ joined (map h (filter keep xs))
        → option_and_then (λ z. option_map (λ y. z ++ y) (joined (map (λ x. if keep x then h x else Some []) xs))) (if b then h x else Some []) ≡ joined (map h (cond b (x ∷ filter keep xs) (filter keep xs)))
    go true e = ap (λ o. option_and_then (λ z. option_map (λ y. z ++ y) o) (h x)) e ∙ sym (joined-more (h x) (map h (filter keep xs)))
    go false e = whole (joined (map (λ x. if keep x then h x else Some []) xs)) ∙ e

-- what is found on elements that pass
all-found : {X Y : Type 0} (p : X → Bool) (q : Y → Bool) (h : X → Option Y) (xs : List X) → list_all p xs ≡ true → ((x : X) (y : Y) → p x ≡ true → h x ≡ Some y → q y ≡ true) → list_all q (filter_map h xs) ≡ true
all-found p q h [] a k = refl
all-found {X} {Y} p q h (x ∷ xs) a k = let t = and_parts (p x) _ a in go (h x) refl t.0 (all-found p q h xs t.1 k)
  where
    go : (o : Option Y) → h x ≡ o → p x ≡ true → list_all q (filter_map h xs) ≡ true → list_all q (cons_option o (filter_map h xs)) ≡ true
    go None e t r = r
    go (Some y) e t r = and_from _ _ (k x y t e) r

filter-found : {X Y : Type 0} (p : X → Bool) (keep : Y → Bool) (u : X → Bool) (h : X → Option Y) (xs : List X) → list_all p xs ≡ true → ((x : X) (y : Y) → p x ≡ true → h x ≡ Some y → keep y ≡ u x)
    → filter keep (filter_map h xs) ≡ filter_map h (filter u xs)
filter-found p keep u h [] a k = refl
filter-found {X} {Y} p keep u h (x ∷ xs) a k = let t = and_parts (p x) _ a in go (h x) refl (u x) refl t.0 (filter-found p keep u h xs t.1 k)
  where
    go : (o : Option Y) → h x ≡ o → (b : Bool) → u x ≡ b → p x ≡ true → filter keep (filter_map h xs) ≡ filter_map h (filter u xs) → filter keep (cons_option o (filter_map h xs)) ≡ filter_map h (cond b (x ∷ filter u xs) (filter u xs))
    go None e true q t r = r ∙ sym (ap (λ o. cons_option o (filter_map h (filter u xs))) e)
    go None e false q t r = r
    go (Some y) e true q t r = ap (λ c. cond c (y ∷ filter keep (filter_map h xs)) (filter keep (filter_map h xs))) (k x y t e ∙ q) ∙ ap (λ z. y ∷ z) r ∙ sym (ap (λ o. cons_option o (filter_map h (filter u xs))) e)
    go (Some y) e false q t r = ap (λ c. cond c (y ∷ filter keep (filter_map h xs)) (filter keep (filter_map h xs))) (k x y t e ∙ q) ∙ r

none-of_one : {X : Type 0} (v : Value) (xs : List X) → is_beyond v ≡ false → list_any is_beyond (map (λ x. v) xs) ≡ false
none-of_one v [] h = refl
none-of_one v (x ∷ xs) h = ap (λ b. b || list_any is_beyond (map (λ x. v) xs)) h ∙ none-of_one v xs h

-- ---- rows without a column

apart-back : (p q : Path) → same_path p q ≡ false → same_path q p ≡ false
apart-back p q h = false_from_ne_true (same_path q p) (λ e. true≢false (sym (path-self p) ∙ ap (same_path p) (sym (same_paths q p e)) ∙ h))

-- the columns of keys lack other paths
keyed-lacks : (ps : List Path) (k : List Value) (p : Path) → is_among ps p ≡ false → at_path (λ c. c.0) (keyed ps k) p ≡ None
keyed-lacks [] k p h = refl
keyed-lacks (q ∷ ps) [] p h = refl
keyed-lacks (q ∷ ps) (v ∷ k) p h =
    let t = or_parts (same_path p q) (is_among ps p) h in
    ap (λ b. cond b (Some (q, v)) (at_path (λ c. c.0) (keyed ps k) p)) (apart-back p q t.0) ∙ keyed-lacks ps k p t.1

abbrev lacks_path : Path → Instance → Bool
lacks_path p i = is_none (at_path (λ c. c.0) i.columns p)

lacks-is : (p : Path) (i : Instance) → lacks_path p i ≡ true → at_path (λ c. c.0) i.columns p ≡ None
lacks-is p i h = go (at_path (λ c. c.0) i.columns p) h
  where
    go : (o : Option (Path × Value)) → is_none o ≡ true → o ≡ None
    go None h = refl
    go (Some x) h = absurd (true≢false (sym h))

module _ (w : World) (S G : Shape) (plain : List Path) (p : Path) (f : List Instance → Outcome) (fit : (l r : List Instance) → AllFit w S l → f l ≡ Some r → AllFit w G r) (other : is_among plain p ≡ false) (lacks : column_at G p ≡ None) where
  fit-lacks : (i : Instance) → fits w G i ≡ true → at_path (λ c. c.0) i.columns p ≡ None
  fit-lacks i g = elim (option_cases (at_path (λ c. c.0) i.columns p)) [
    | inl n ↦ n
    | inr c ↦ let k = column-of w G i (fit-parts w G i g) p c.0 c.1 in none_or k.0 (sym lacks ∙ k.1)
  ]

  -- the results of a grouping lack a path that is no key and no column of what is made of each group
  grouped-lacks : (l out : List Instance) → AllFit w S l → grouped w plain f l ≡ Some out → list_all (lacks_path p) out ≡ true
  grouped-lacks l out a e = joined-all (lacks_path p) (λ k. option_map (map (λ r. extended r (keyed plain k))) (f (group w plain k l))) (keys w plain l) out e (λ k m r h.
      let t = mapped (map (λ r. extended r (keyed plain k))) (f (group w plain k l)) r h in
      sym (ap (list_all (lacks_path p)) t.2)
      ∙ all-map (fits w G) (lacks_path p) (λ r. extended r (keyed plain k)) t.0 (fit (group w plain k l) t.0 (all-filter (fits w S) (λ i. same_keys (key_list w plain i) k) l a) t.1)
      (λ i g. ap is_none (find-joined (λ c. same_path c.0 p) i.columns (keyed plain k) ∙ (λ n. first_some (fit-lacks i g n) (keyed-lacks plain k p other n)))))

-- ---- the values of a filter on the node

module _ (w : World) (f : HierarchyPlace) (p : Path) (b : Expr) (all : over (p ∷ []) b ≡ true) where
  -- an instance with the identifier of a node alone
  abbrev sample : ℕ → Instance
  sample x = record { prefixes = []; columns = (p, identifier w f x) ∷ [] }

  -- the value of the filter at a node
  abbrev pub at_node : ℕ → Value
  at_node x = val w (sample x) b

  the-path : (q : Path) → is_among (p ∷ []) q ≡ true → q ≡ p
  the-path q h = elim (or_cases (same_path q p) false h) [ inl e ↦ same_paths q p e | inr e ↦ absurd (true≢false (sym e)) ]

  sample-lookup : (x : ℕ) (q : Path) → is_among (p ∷ []) q ≡ true → lookup w (sample x) q ≡ identifier w f x
  sample-lookup x q h = ap (lookup w (sample x)) (the-path q h) ∙ by_column w (sample x) p (p, identifier w f x) (ap (λ c. cond c (Some (p, identifier w f x)) None) (path-self p))

  -- of a row that has the identifier behind columns without the path
  row-value : (x : ℕ) (r : Instance) → lacks_path p r ≡ true → val w (extended r ((p, identifier w f x) ∷ [])) b ≡ at_node x
  row-value x r h = val-same w (sample x) (extended r ((p, identifier w f x) ∷ [])) (is_among (p ∷ [])) (λ q k.
      ap (lookup w (extended r ((p, identifier w f x) ∷ []))) (the-path q k)
      ∙ by_column w (extended r ((p, identifier w f x) ∷ [])) p (p, identifier w f x)
      (find-joined (λ c. same_path c.0 p) r.columns ((p, identifier w f x) ∷ []) ∙ (λ n. first_some (lacks-is p r h n) (cond (path-self p n) (Some (p, identifier w f x)) None)))
      ∙ sym (sample-lookup x q k)) b all

-- ---- the grouping

module _ (A : World → Type 0) (L : Laws A) (w : World) (c : Customs) (u : A w) (k : IsTrue (customs_typed w.model c)) (S S1 : Shape) (law : IsTrue (is_lawful w.model S)) (ks : Keys) (T : OptPipe) (g : IsGrouping w.model c S ks T S1)
    (quiet : grouping_quiet w.model c S ks T ≡ true) (K : NodeKey w c ks) (f : HierarchyPlace) (at : hierarchy_at w.model K.hierarchy ≡ Some f) (N : Shape) (chosen_is : inner_shape w.model c (set_shape f.type) (set_shape f.type) K.chooses ≡ Some N)
    (root_is : root_type N ≡ Some f.type) (b : Expr) (all : over (K.path ∷ []) b ≡ true) (kindN : has_kind is_boolean_kind w.model N (on_node (f.key).name b) ≡ true) (sureN : is_sure w.model N (on_node (f.key).name b) ≡ true) where
  -- the paths of all keys, with that of the node last
  key-paths : key_paths (group_keys ks) ≡ plain_paths ks ++ K.path ∷ []
  key-paths = ap (λ part. plain_paths ks ++ rollup_paths part) K.part

  other : is_among (plain_paths ks) K.path ≡ false
  other = apart-last (plain_paths ks) K.path (subst (λ ps. are_distinct same_path ps ≡ true) key-paths g.differ)

  lacking-all : (list_all (λ p. not (is_some (column_at g.inner p))) (plain_paths ks) ≡ true) × (list_all (λ p. not (is_some (column_at g.inner p))) (K.path ∷ []) ≡ true)
  lacking-all = all-parts (λ p. not (is_some (column_at g.inner p))) (plain_paths ks) (K.path ∷ []) (subst (λ ps. list_all (λ p. not (is_some (column_at g.inner p))) ps ≡ true) key-paths g.lacks)

  no-column : column_at g.inner K.path ≡ None
  no-column = go (column_at g.inner K.path) (and_parts (not (is_some (column_at g.inner K.path))) true lacking-all.1).0
    where
      go : (o : Option ColumnShape) → not (is_some o) ≡ true → o ≡ None
      go None h = refl
      go (Some x) h = absurd (true≢false (sym h))

  -- what is made of each group
  abbrev of_group : List Instance → Outcome
  of_group = inner_mean w c S (λ g. Some (no_instance ∷ [])) T

  total : (x : List Instance) → AllFit w S x → is_some (inner_mean w c S (λ g. Some (no_instance ∷ [])) T x) ≡ true
  total = made-total w c S S1 ks T g A L u k law quiet

  fitting : (l r : List Instance) → AllFit w S l → inner_mean w c S (λ g. Some (no_instance ∷ [])) T l ≡ Some r → AllFit w g.inner r
  fitting = made-fits w c S S1 ks T g A L u k law quiet

  module _ (l : List Instance) (fit : AllFit w S l) where
    -- the rows of a node
    abbrev block : ℕ → Outcome
    block x = option_map (map (λ r. extended r ((K.path, identifier w f x) ∷ []))) (grouped w (plain_paths ks) of_group (filter (at_or_below w f K.path x) l))

    under-fit : (x : ℕ) → AllFit w S (filter (at_or_below w f K.path x) l)
    under-fit x = all-filter (fits w S) (at_or_below w f K.path x) l fit

    block-some : (x : ℕ) → is_some (block x) ≡ true
    block-some x = map-there (map (λ r. extended r ((K.path, identifier w f x) ∷ []))) (grouped w (plain_paths ks) of_group (filter (at_or_below w f K.path x) l))
        (ap is_some (level-is w S g.inner of_group total fitting (Expr.Bool' true) (plain_paths ks) refl lacking-all.0 (filter (at_or_below w f K.path x) l) (under-fit x)))

    -- each has the node's value
    block-values : (x : ℕ) (out : List Instance) → block x ≡ Some out → map (λ r. val w r b) out ≡ map (λ r. at_node w f K.path b all x) out
    block-values x out e =
        let t = mapped (map (λ r. extended r ((K.path, identifier w f x) ∷ []))) (grouped w (plain_paths ks) of_group (filter (at_or_below w f K.path x) l)) out e in
        all-one (λ r. val w r b) (at_node w f K.path b all x) out (sym (ap (list_all (λ r. same_value (val w r b) (at_node w f K.path b all x))) t.2)
        ∙ all-map (lacks_path K.path) (λ r. same_value (val w r b) (at_node w f K.path b all x)) (λ r. extended r ((K.path, identifier w f x) ∷ [])) t.0
        (grouped-lacks w S g.inner (plain_paths ks) K.path of_group fitting other no-column (filter (at_or_below w f K.path x) l) t.0 (under-fit x) t.1)
        (λ r h. ap (λ z. same_value z (at_node w f K.path b all x)) (row-value w f K.path b all x r h) ∙ same_value_itself (at_node w f K.path b all x)))

    -- so a filter keeps all or none of them
    block-kept : (x : ℕ) → is_beyond (at_node w f K.path b all x) ≡ false → option_and_then (step_mean w c S1 (Step.Filter b)) (block x) ≡ (if is_value true (at_node w f K.path b all x) then block x else Some [])
    unfolding mean
    block-kept x h = go (block x) refl (block-some x)
      where
        by : (z : Bool) (out : List Instance) → Some (if z then out else []) ≡ (if z then Some out else Some [])
        by true out = refl
        by false out = refl

        go : (o : Outcome) → block x ≡ o → is_some o ≡ true → option_and_then (step_mean w c S1 (Step.Filter b)) o ≡ (if is_value true (at_node w f K.path b all x) then o else Some [])
        go None e s = absurd (true≢false (sym s))
        go (Some out) e s =
            let same = block-values x out e in
            (λ n. then_some (not ((ap (list_any is_beyond) same ∙ none-of_one (at_node w f K.path b all x) out h) n)) (filter-by (λ r. val w r b) (at_node w f K.path b all x) out same n))
            ∙ by (is_value true (at_node w f K.path b all x)) out

    -- what the grouping makes of the nodes that are shown
    blocks-are : (shown : List ℕ) → grouping_mean w (group_keys ks) shown of_group l ≡ joined (map block shown)
    blocks-are shown =
        plainly w c S S1 ks T g A L u k law quiet l fit shown
        ∙ ap (λ part. groups_by w part (plain_paths ks) shown of_group l) K.part
        ∙ ap (λ o. node_groups w o (plain_paths ks) K.path shown of_group l) at

  -- ---- the nodes that are chosen

  -- the filter on the nodes
  abbrev on : Expr
  on = on_node (f.key).name b

  abbrev node_at : Instance → Option ℕ
  node_at i = option_map (λ e. e.at) (root_of i)

  -- an instance of the chosen ones: it fits, and its entity is of the hierarchy's set
  abbrev is_chosen : Instance → Bool
  is_chosen i = fits w N i && root_passes (λ e. e.set == f.set) i

  law-chosen : Law w.model N
  law-chosen = (inner_law w.model c K.chooses (set_shape f.type) (set_shape f.type) N (law-own w.model f.type) (law-own w.model f.type, root-same (set_shape f.type) (set_shape f.type) refl) chosen_is).0

  root-chosen : (r : RootShape) × (N.root ≡ Some r) × (r.of ≡ f.type)
  root-chosen =
      let t = chained (λ r. then_some (not r.absent) r.of) N.root f.type root_is in
      (t.0, t.1, (then_some-parts (not (t.0).absent) (t.0).of f.type t.2).1)

  -- the filter at a node is that at its instance
  chosen-value : (i : Instance) (x : ℕ) → is_chosen i ≡ true → node_at i ≡ Some x → val w i (on_node (f.key).name b) ≡ at_node w f K.path b all x
  chosen-value i x h e =
      let t = and_parts (fits w N i) _ h in
      let y = mapped (λ e. e.at) (root_of i) x e in
      let set : (y.0).set ≡ f.set = eqb-true (y.0).set f.set (sym (ap (is_none_or (λ e. e.set == f.set)) y.1) ∙ t.1) in
      let r = root-chosen in
      val-moved w (sample w f K.path b all x) i (λ q. (f.key).name ∷ []) (is_among (K.path ∷ [])) (λ q k.
      node-lookup w f (L.keys w K.hierarchy f u at) N law-chosen r.0 r.1 r.2 i (fit-parts w N i t.0) y.0 y.1 set ∙ ap (identifier w f) y.2 ∙ sym (sample-lookup w f K.path b all x q k)) b all

  chosen-sure : (i : Instance) (x : ℕ) → is_chosen i ≡ true → node_at i ≡ Some x → is_beyond (at_node w f K.path b all x) ≡ false
  chosen-sure i x h e =
      ap is_beyond (sym (chosen-value i x h e)) ∙ L.sure w N (on_node (f.key).name b) i u (has_kind-typed w.model N (on_node (f.key).name b) kindN) sureN (and_parts (fits w N i) _ h).0

  module _ (chosen : List Instance) (are : list_all is_chosen chosen ≡ true) where
    shown-sure : list_all (λ x. not (is_beyond (at_node w f K.path b all x))) (shown_of chosen) ≡ true
    shown-sure = all-distinct (λ x. not (is_beyond (at_node w f K.path b all x))) nat_eq (filter_map node_at chosen)
        (all-found is_chosen (λ x. not (is_beyond (at_node w f K.path b all x))) node_at chosen are (λ i x h e. not_from_false _ (chosen-sure i x h e)))

    -- the nodes of the kept instances are the kept nodes
    shown-kept : filter (λ x. is_value true (at_node w f K.path b all x)) (shown_of chosen) ≡ shown_of (filter (λ i. is_value true (val w i (on_node (f.key).name b))) chosen)
    shown-kept =
        sym (distinct-filter nat_eq (λ x. is_value true (at_node w f K.path b all x)) (λ x y e. ap (λ z. is_value true (at_node w f K.path b all z)) (eqb-true x y e)) (filter_map node_at chosen))
        ∙ ap (distinct nat_eq) (filter-found is_chosen (λ x. is_value true (at_node w f K.path b all x)) (λ i. is_value true (val w i (on_node (f.key).name b))) node_at chosen are (λ i x h e. ap (is_value true) (sym (chosen-value i x h e))))

    -- the filter behind the grouping, and among the nodes
    shown-filter : (l : List Instance) → AllFit w S l → option_and_then (step_mean w c S1 (Step.Filter b)) (grouping_mean w (group_keys ks) (shown_of chosen) of_group l)
        ≡ grouping_mean w (group_keys ks) (shown_of (filter (λ i. is_value true (val w i (on_node (f.key).name b))) chosen)) of_group l
    shown-filter l fit =
        ap (option_and_then (step_mean w c S1 (Step.Filter b))) (blocks-are l fit (shown_of chosen))
        ∙ filter-joined w c S1 b (map (block l fit) (shown_of chosen))
        ∙ ap joined (map-mapped (block l fit) (option_and_then (step_mean w c S1 (Step.Filter b))) (λ x. option_and_then (step_mean w c S1 (Step.Filter b)) (block l fit x)) (λ x. refl) (shown_of chosen)
        ∙ map-agree_all (λ x. not (is_beyond (at_node w f K.path b all x))) (λ x. option_and_then (step_mean w c S1 (Step.Filter b)) (block l fit x)) (λ x. if is_value true (at_node w f K.path b all x) then block l fit x else Some []) (shown_of chosen) shown-sure
        (λ x h. block-kept l fit x (not-true _ h)))
        ∙ joined-gaps (λ x. is_value true (at_node w f K.path b all x)) (block l fit) (shown_of chosen)
        ∙ ap (λ xs. joined (map (block l fit) xs)) shown-kept
        ∙ sym (blocks-are l fit (shown_of (filter (λ i. is_value true (val w i (on_node (f.key).name b))) chosen)))

  -- what the pipeline that chooses makes of the nodes
  abbrev choice : Outcome
  choice = inner_mean w c (set_shape f.type) (λ r. Some r) K.chooses (rows w f.set)

  both-pass : (p q : Instance → Bool) (l : List Instance) → list_all p l ≡ true → list_all q l ≡ true → list_all (λ i. p i && q i) l ≡ true
  both-pass p q [] h k = refl
  both-pass p q (i ∷ l) h k = let s = and_parts (p i) _ h in let t = and_parts (q i) _ k in and_from _ _ (and_from _ _ s.0 t.0) (both-pass p q l s.1 t.1)

  rows-pass : (xs : List ℕ) → list_all (root_passes (λ e. e.set == f.set)) (map entity_instance (map (entity_at f.set) xs)) ≡ true
  rows-pass [] = refl
  rows-pass (x ∷ xs) = and_from _ _ (eq-eqb f.set f.set refl) (rows-pass xs)

  choice-chosen : (chosen : List Instance) → choice ≡ Some chosen → list_all is_chosen chosen ≡ true
  choice-chosen chosen e =
      both-pass (fits w N) (root_passes (λ e. e.set == f.set)) chosen
      (inner-fits A L w c u k (set_shape f.type) (set_shape f.type) N K.chooses (own_is_lawful w.model f.type) chosen_is (λ r. Some r) (λ l r a e. subst (λ z. AllFit w (set_shape f.type) z) (some_value e) a) (rows w f.set) chosen (L.nodes w K.hierarchy f u at) e)
      (inner_roots w c (λ e. e.set == f.set) K.chooses (set_shape f.type) (λ r. Some r) (λ l r a e. subst (λ z. list_all (root_passes (λ e. e.set == f.set)) z ≡ true) (some_value e) a) (rows w f.set) chosen (rows-pass (places (count w f.set))) e)

  shown_by : OptPipe → Option HierarchyPlace → Option (List ℕ)
  shown_by U o = elim o [ None ↦ None | Some f ↦ option_map shown_of (inner_mean w c (set_shape f.type) (λ l. Some l) U (rows w f.set)) ]

  shown-is : keys_shown w c ks ≡ option_map shown_of choice
  unfolding mean shown_by
  shown-is = K.shows ∙ ap (shown_by K.chooses) at

  shown_ended-is : keys_shown w c (ended_keys (Step.Filter (on_node (f.key).name b)) ks) ≡ option_map shown_of (option_and_then (step_mean w c N (Step.Filter (on_node (f.key).name b))) choice)
  unfolding mean shown_by
  shown_ended-is =
      K.shows_ended (Step.Filter (on_node (f.key).name b)) ∙ ap (shown_by (ended_inner K.chooses (Step.Filter (on_node (f.key).name b)))) at
      ∙ ap (option_map shown_of) (ended_inner-mean w c (set_shape f.type) N K.chooses (on_node (f.key).name b) (rows w f.set) chosen_is)

  -- the grouping with the filter among the nodes is the grouping, filtered
  pub nodes-mean : (l : List Instance) → AllFit w S l → step_mean w c S (Step.GroupBy (ended_keys (Step.Filter (on_node (f.key).name b)) ks) T) l ≡ option_and_then (step_mean w c S1 (Step.Filter b)) (step_mean w c S (Step.GroupBy ks T) l)
  unfolding mean
  nodes-mean l fit =
      (λ i. option_and_then (λ shown. grouping_mean w (K.keys_ended (Step.Filter (on_node (f.key).name b)) i) shown of_group l) (shown_ended-is i))
      ∙ go choice refl
      ∙ sym (ap (λ o. option_and_then (step_mean w c S1 (Step.Filter b)) (option_and_then (λ shown. grouping_mean w (group_keys ks) shown of_group l) o)) shown-is)
    where
      out : List ℕ → Outcome
      out shown = grouping_mean w (group_keys ks) shown of_group l

      go : (o : Outcome) → choice ≡ o → option_and_then (λ shown. grouping_mean w (group_keys ks) shown of_group l) (option_map shown_of (option_and_then (step_mean w c N (Step.Filter (on_node (f.key).name b))) o))
          ≡ option_and_then (step_mean w c S1 (Step.Filter b)) (option_and_then (λ shown. grouping_mean w (group_keys ks) shown of_group l) (option_map shown_of o))
      go None e = refl
      go (Some chosen) e =
          let are = choice-chosen chosen e in
          let fits_there = all-each is_chosen (fits w N) chosen are (λ i h. (and_parts (fits w N i) _ h).0) in
          ap (λ o. option_and_then out (option_map shown_of o)) (sure-filter A L w c u N (on_node (f.key).name b) chosen kindN sureN fits_there)
          ∙ sym (shown-filter chosen are l fit)
