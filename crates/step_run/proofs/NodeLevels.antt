-- The levels of a recursive rollup: what is made of their groups, and the lists that these have.
use Rattle.std.proofs.Common.{◌≡◌, ℕ, suc, ◌+◌, refl, sym, ◌∙◌, ap, subst, Bool, true, false, cond, ◌&&◌, ◌==◌, Option, Some, None, List, [], ◌∷◌, ◌++◌, length, map, filter, IsTrue, arith, add-zero}
use Rattle.std.specs.Prelude.{flat_map, option_map, unwrap_or, slice_get, nat_lt, ⊤}
use Rattle.std.specs.List.{list_all}
use Rattle.std.proofs.lemmas.Bool.{eq-eqb}
use Rattle.std.proofs.lemmas.Bool.Decides.{nat_tests}
use Rattle.std.proofs.lemmas.List.{append_assoc, length-map, map-append}
use Rattle.std.proofs.lemmas.Option.{slice_get-map}
use Rattle.std.proofs.lemmas.Simd.{map-map}
use Rattle.edm_values.proofs.EachLemmas.{Each, each-filter, each-map, map-agree, map-agree_all}
use Rattle.edm_values.proofs.ListFacts.{all-any, all-map}
use Rattle.edm_values.proofs.SearchFacts.{all-distinct}
use Rattle.edm_values.specs.declared.Value.{Value}
use Rattle.edm_values.specs.Lists.{at_places, distinct, is_nonempty, is_some_and}
use Rattle.edm_values.specs.Names.{Path}
use Rattle.edm_model.specs.LookUps.{HierarchyPlace}
use Rattle.edm_data.specs.Hierarchies.{is_under}
use Rattle.edm_data.specs.Nodes.{identifier, parents_of}
use Rattle.edm_data.specs.Worlds.{World}
use Rattle.apply_meaning.specs.Instances.{Instance, extended, lookup}
use Rattle.apply_meaning.specs.Meaning.{Outcome, at_or_below, group, grouped, joined, key_list, keyed, keys, node, node_groups, same_keys}
use Rattle.par_stages.specs.Placed.{placed}
use Rattle.par_stages.proofs.Passing.{filter-map, passing, passing-below, passing-items}
use Rattle.aggregate_ops.specs.KeyTables.{groups_of, places_of}
use Rattle.rollup_rec.specs.Rollups.{groups_under, is_row_under, rolled}
use Rattle.step_run.specs.Costs as costs
use Rattle.step_run.specs.Levels.{Level, group_made, level_lists, level_made, node_level, node_levels, with_node}
use Rattle.step_run.proofs.GroupLemmas.{begun, joined-some}

-- ---- items that pass

pub filter-both : {X : Type 0} (q r : X → Bool) (xs : List X) → filter q (filter r xs) ≡ filter (λ x. r x && q x) xs
filter-both q r [] = refl
filter-both q r (x ∷ xs) = go (r x) (filter-both q r xs)
  where
    go : (b : Bool) → filter q (filter r xs) ≡ filter (λ x. r x && q x) xs
        → filter q (cond b (x ∷ filter r xs) (filter r xs)) ≡ cond (b && q x) (x ∷ filter (λ x. r x && q x) xs) (filter (λ x. r x && q x) xs)
    go true e = λ i. cond (q x) (x ∷ e i) (e i)
    go false e = e

-- the images of items with their places, where the places pass as the items do
rows-placed : {X : Type 0} {K : Type 0} (q : ℕ → Bool) (r : X → Bool) (g : X → K) (n : ℕ) (xs : List X) → ((k : ℕ) (x : X) → slice_get xs k ≡ Some x → q (n + k) ≡ r x)
    → filter (λ y. q y.1) (placed n (map g xs)) ≡ map (λ y. (g y.0, y.1)) (filter (λ y. r y.0) (placed n xs))
rows-placed q r g n [] h = refl
rows-placed {X} {K} q r g n (x ∷ xs) h = go (r x) here (rows-placed q r g (n + 1) xs next)
  where
    here : q n ≡ r x
    here = ap q (sym (add-zero n)) ∙ h 0 x refl

    next : (k : ℕ) (y : X) → slice_get xs k ≡ Some y → q (n + 1 + k) ≡ r y
    next k y e = let s : n + 1 + k ≡ n + suc k = omega arith in ap q s ∙ h (suc k) y e

    images : List (K × ℕ)
    images = filter (λ y. q y.1) (placed (n + 1) (map g xs))

    rest : List (X × ℕ)
    rest = filter (λ y. r y.0) (placed (n + 1) xs)

    go : (b : Bool) → q n ≡ b → images ≡ map (λ y. (g y.0, y.1)) rest → cond (q n) ((g x, n) ∷ images) images ≡ map (λ y. (g y.0, y.1)) (cond b ((x, n) ∷ rest) rest)
    go true e t = ap (λ b. cond b ((g x, n) ∷ images) images) e ∙ ap (λ ys. (g x, n) ∷ ys) t
    go false e t = ap (λ b. cond b ((g x, n) ∷ images) images) e ∙ t

-- what a function makes of the items that pass
items-passing : {X Y : Type 0} (r : X → Bool) (g : X → Y) (n : ℕ) (xs : List X) → map (λ y. g y.0) (filter (λ y. r y.0) (placed n xs)) ≡ map g (filter r xs)
items-passing r g n [] = refl
items-passing {X} {Y} r g n (x ∷ xs) = go (r x) (items-passing r g (n + 1) xs)
  where
    rest : List (X × ℕ)
    rest = filter (λ y. r y.0) (placed (n + 1) xs)

    go : (b : Bool) → map (λ y. g y.0) rest ≡ map g (filter r xs) → map (λ y. g y.0) (cond b ((x, n) ∷ rest) rest) ≡ map g (cond b (x ∷ filter r xs) (filter r xs))
    go true e = ap (λ ys. g x ∷ ys) e
    go false e = e

-- ---- lists joined

-- the first outcome, and what is joined of the others
abbrev first_with : Outcome → Outcome → Outcome
first_with None rest = None
first_with (Some r) rest = option_map (λ l. r ++ l) rest

joined-first : (o : Outcome) (os : List Outcome) → joined (o ∷ os) ≡ first_with o (joined os)
joined-first None os = refl
joined-first (Some r) os = joined-some r os

-- what is made of each instance of a joined list
joined-each : {X : Type 0} (h : Instance → Instance) (o : X → Outcome) (xs : List X) → joined (map (λ x. option_map (map h) (o x)) xs) ≡ option_map (map h) (joined (map o xs))
joined-each h o [] = refl
joined-each h o (x ∷ xs) =
    joined-first (option_map (map h) (o x)) (map (λ x. option_map (map h) (o x)) xs)
    ∙ ap (first_with (option_map (map h) (o x))) (joined-each h o xs)
    ∙ go (o x) (joined (map o xs))
    ∙ ap (option_map (map h)) (sym (joined-first (o x) (map o xs)))
  where
    go : (a rest : Outcome) → first_with (option_map (map h) a) (option_map (map h) rest) ≡ option_map (map h) (first_with a rest)
    go None rest = refl
    go (Some r) None = refl
    go (Some r) (Some l) = ap Some (sym (map-append h r l))

-- ---- the groups at or below a node

pub keyed-last : (ks : List Path) (k : List Value) (p : Path) (v : Value) → length k ≡ length ks → keyed (ks ++ p ∷ []) (k ++ v ∷ []) ≡ keyed ks k ++ (p, v) ∷ []
keyed-last [] [] p v e = refl
keyed-last [] (u ∷ k) p v e = cc
keyed-last (q ∷ ks) [] p v e = cc
keyed-last (q ∷ ks) (u ∷ k) p v e = ap (λ cs. (q, u) ∷ cs) (keyed-last ks k p v (omega (arith, e)))

-- columns that are put on one after the other
extended-twice : (cs ds : List (Path × Value)) (o : Outcome) → option_map (map (λ r. extended r (cs ++ ds))) o ≡ option_map (map (λ r. extended r ds)) (option_map (map (λ r. extended r cs)) o)
extended-twice cs ds None = refl
extended-twice cs ds (Some l) =
    ap Some (map-agree (λ r. extended r (cs ++ ds)) (λ r. extended (extended r cs) ds) l (λ r. λ i. record r { columns = sym (append_assoc r.columns cs ds) i }) ∙ sym (map-map (λ r. extended r ds) (λ r. extended r cs) l))

module _ (w : World) (f : HierarchyPlace) (ks : List Path) (p : Path) (l : List Instance) where
  -- the groups of the instances at a node or below it
  abbrev found : ℕ → List (List Value × List ℕ)
  found x = groups_under (parents_of w f) (map (node w f p) l) (map (key_list w ks) l) x

  -- these instances
  abbrev below : ℕ → List Instance
  below x = filter (at_or_below w f p x) l

  -- the instances of one of these groups
  abbrev is_of : ℕ → List Value → Instance → Bool
  is_of x k i = at_or_below w f p x i && same_keys (key_list w ks i) k

  row-under : (x n : ℕ) (i : Instance) → slice_get l n ≡ Some i → is_row_under (parents_of w f) (map (node w f p) l) x (0 + n) ≡ at_or_below w f p x i
  row-under x n i e =
      let zero-n : 0 + n ≡ n = omega arith in
      ap (is_row_under (parents_of w f) (map (node w f p) l) x) zero-n
      ∙ ap (λ o. unwrap_or (option_map (is_under (parents_of w f) x) (unwrap_or o None)) false) (slice_get-map (node w f p) l n ∙ ap (option_map (node w f p)) e)
      ∙ go (node w f p i)
    where
      go : (o : Option ℕ) → unwrap_or (option_map (is_under (parents_of w f) x) o) false ≡ is_some_and (is_under (parents_of w f) x) o
      go None = refl
      go (Some y) = refl

  -- the groups by their keys
  pub found-is : (x : ℕ) → found x ≡ map (λ k. (k, passing (is_of x k) 0 l)) (keys w ks (below x))
  found-is x =
      let image : Instance × ℕ → List Value × ℕ = λ y. (key_list w ks y.0, y.1) in
      let rows = filter (λ (y : Instance × ℕ). at_or_below w f p x y.0) (placed 0 l) in
      let places : (k : List Value) → places_of (map image rows) k ≡ passing (is_of x k) 0 l =
      λ k. filter-map (λ (y : List Value × ℕ). y.1) (λ y. same_keys y.0 k) image rows ∙ ap (map (λ (y : Instance × ℕ). y.1)) (filter-both (λ (y : Instance × ℕ). same_keys (key_list w ks y.0) k) (λ y. at_or_below w f p x y.0) (placed 0 l)) in
      let own : map (λ (y : List Value × ℕ). y.0) (map image rows) ≡ map (key_list w ks) (below x) =
      map-map (λ (y : List Value × ℕ). y.0) image rows ∙ items-passing (at_or_below w f p x) (key_list w ks) 0 l in
      ap groups_of (rows-placed (is_row_under (parents_of w f) (map (node w f p) l) x) (at_or_below w f p x) (key_list w ks) 0 l (row-under x))
      ∙ (λ i. map (λ k. (k, places k i)) (distinct same_keys (own i)))

  -- the instances at the places of a group
  group-is : (x : ℕ) (k : List Value) → at_places l (passing (is_of x k) 0 l) ≡ group w ks k (below x)
  group-is x k = passing-items (is_of x k) l ∙ sym (filter-both (λ i. same_keys (key_list w ks i) k) (at_or_below w f p x) l)

  -- a group of a node's level: the key with the node's identifier
  abbrev level_group : ℕ → List Value → List Value × List ℕ
  level_group x k = (k ++ identifier w f x ∷ [], passing (is_of x k) 0 l)

  level-groups : (x : ℕ) → (node_level w f (ks ++ p ∷ []) (x, found x)).1 ≡ map (level_group x) (keys w ks (below x))
  level-groups x =
      ap (with_node (Some (identifier w f x))) (found-is x) ∙ map-map (λ (g : List Value × List ℕ). (g.0 ++ identifier w f x ∷ [], g.1)) (λ k. (k, passing (is_of x k) 0 l)) (keys w ks (below x))

  -- the key lists have as many values as there are paths
  abbrev is_long : List Value → Bool
  is_long k = length k == length ks

  keys-long : (r : List Instance) → list_all is_long (keys w ks r) ≡ true
  keys-long r =
      all-distinct is_long same_keys (map (key_list w ks) r)
      (all-map (λ i. true) is_long (key_list w ks) r (all-any (λ i. true) r (λ i. refl)) (λ i e. eq-eqb (length (key_list w ks i)) (length ks) (length-map ks (lookup w i))))

  module _ (F : List Instance → Outcome) where
    -- what is made of a node's level has the columns of the keys, and then that of the node
    one-made : (x : ℕ) (k : List Value) → is_long k ≡ true
        → group_made (ks ++ p ∷ []) F l (level_group x k) ≡ option_map (map (λ r. extended r ((p, identifier w f x) ∷ []))) (option_map (map (λ r. extended r (keyed ks k))) (F (group w ks k (below x))))
    one-made x k long =
        let same : length k ≡ length ks = grind (arith, nat_tests, long) in
        (λ i. option_map (map (λ r. extended r (keyed-last ks k p (identifier w f x) same i))) (F (group-is x k i)))
        ∙ extended-twice (keyed ks k) ((p, identifier w f x) ∷ []) (F (group w ks k (below x)))

    node-made : (x : ℕ) → level_made F l (node_level w f (ks ++ p ∷ []) (x, found x)) ≡ option_map (map (λ r. extended r ((p, identifier w f x) ∷ []))) (grouped w ks F (below x))
    node-made x =
        let made : List Value → Outcome = λ k. option_map (map (λ r. extended r (keyed ks k))) (F (group w ks k (below x))) in
        ap (λ gs. joined (map (group_made (ks ++ p ∷ []) F l) gs)) (level-groups x)
        ∙ ap joined (map-map (group_made (ks ++ p ∷ []) F l) (level_group x) (keys w ks (below x)))
        ∙ ap joined (map-agree_all is_long (λ k. group_made (ks ++ p ∷ []) F l (level_group x k)) (λ k. option_map (map (λ r. extended r ((p, identifier w f x) ∷ []))) (made k)) (keys w ks (below x)) (keys-long (below x)) (one-made x))
        ∙ joined-each (λ r. extended r ((p, identifier w f x) ∷ [])) made (keys w ks (below x))

    -- what is made of each node's instances
    abbrev made_at : ℕ → Outcome
    made_at x = option_map (map (λ r. extended r ((p, identifier w f x) ∷ []))) (grouped w ks F (below x))

    -- a recursive rollup is what is made of the levels of its nodes: a node without instances has none
    pub nodes-made : (shown : List ℕ) → joined (map (level_made F l) (node_levels w f ks p shown l)) ≡ node_groups w (Some f) ks p shown F l
    nodes-made [] = refl
    nodes-made (x ∷ shown) = go (found x) refl (nodes-made shown)
      where
        rest : List Outcome
        rest = map (level_made F l) (node_levels w f ks p shown l)

        others : List Outcome
        others = map made_at shown

        next : joined rest ≡ joined others → (o : Outcome) → o ≡ made_at x → joined (o ∷ rest) ≡ joined (made_at x ∷ others)
        next e o h = joined-first o rest ∙ (λ i. first_with (h i) (e i)) ∙ sym (joined-first (made_at x) others)

        go : (gs : List (List Value × List ℕ)) → found x ≡ gs → joined rest ≡ joined others
            → joined (map (level_made F l) (map (node_level w f (ks ++ p ∷ [])) (cond (is_nonempty gs) ((x, found x) ∷ rolled (parents_of w f) (map (node w f p) l) (map (key_list w ks) l) shown) (rolled (parents_of w f) (map (node w f p) l) (map (key_list w ks) l) shown)))) ≡ joined (made_at x ∷ others)
        go (g ∷ gs) e t = next t (level_made F l (node_level w f (ks ++ p ∷ []) (x, found x))) (node-made x)
        go [] e t =
            let none : Some [] ≡ made_at x = ap (λ gs. level_made F l (node_level w f (ks ++ p ∷ []) (x, gs))) (sym e) ∙ node-made x in
            begun (joined rest) ∙ sym (joined-first (Some []) rest) ∙ next t (Some []) none

  -- ---- the lists of the groups

  node-lists : (x : ℕ) → level_lists l (node_level w f (ks ++ p ∷ []) (x, found x)) ≡ costs.groups w ks (below x)
  node-lists x =
      ap (map (λ (g : List Value × List ℕ). at_places l g.1)) (level-groups x)
      ∙ map-map (λ (g : List Value × List ℕ). at_places l g.1) (level_group x) (keys w ks (below x))
      ∙ map-agree (λ k. at_places l (passing (is_of x k) 0 l)) (λ k. group w ks k (below x)) (keys w ks (below x)) (group-is x)

  pub nodes-lists : (shown : List ℕ) → flat_map (level_lists l) (node_levels w f ks p shown l) ≡ flat_map (λ x. costs.groups w ks (below x)) shown
  nodes-lists [] = refl
  nodes-lists (x ∷ shown) = go (found x) refl (nodes-lists shown)
    where
      rest : List (List Instance)
      rest = flat_map (level_lists l) (node_levels w f ks p shown l)

      others : List (List Instance)
      others = flat_map (λ x. costs.groups w ks (below x)) shown

      go : (gs : List (List Value × List ℕ)) → found x ≡ gs → rest ≡ others
          → flat_map (level_lists l) (map (node_level w f (ks ++ p ∷ [])) (cond (is_nonempty gs) ((x, found x) ∷ rolled (parents_of w f) (map (node w f p) l) (map (key_list w ks) l) shown) (rolled (parents_of w f) (map (node w f p) l) (map (key_list w ks) l) shown))) ≡ costs.groups w ks (below x) ++ others
      go (g ∷ gs) e t = λ i. node-lists x i ++ t i
      go [] e t =
          let none : [] ≡ costs.groups w ks (below x) = ap (λ gs. level_lists l (node_level w f (ks ++ p ∷ []) (x, gs))) (sym e) ∙ node-lists x in
          t ∙ ap (λ xs. xs ++ others) none

  -- ---- each level has the paths of the keys and that of the node, and groups of these instances

  abbrev IsWithin : List Value × List ℕ → Type 0
  IsWithin g = IsTrue (list_all (λ k. nat_lt k (length l)) g.1)

  abbrev IsNodeLevel : Level → Type 0
  IsNodeLevel level = (level.0 ≡ ks ++ p ∷ []) × Each IsWithin level.1

  each-any : {X : Type 0} (xs : List X) → Each (λ (x : X). ⊤) xs
  each-any [] = tt
  each-any (x ∷ xs) = (tt, each-any xs)

  found-within : (x : ℕ) → Each IsWithin (found x)
  found-within x =
      subst (Each IsWithin) (sym (found-is x))
      (each-map IsWithin (λ (k : List Value). ⊤) (λ k. (k, passing (is_of x k) 0 l)) (λ k e. (let size : length l ≡ 0 + length l = omega arith in passing-below (is_of x k) (length l) 0 l size)) (keys w ks (below x)) (each-any (keys w ks (below x))))

  pub nodes-within : (shown : List ℕ) → Each IsNodeLevel (node_levels w f ks p shown l)
  nodes-within shown =
      each-map IsNodeLevel (λ (x : ℕ × List (List Value × List ℕ)). Each IsWithin x.1) (node_level w f (ks ++ p ∷ []))
      (λ x e. (refl, each-map IsWithin IsWithin (λ (g : List Value × List ℕ). (g.0 ++ identifier w f x.0 ∷ [], g.1)) (λ g h. h) x.1 e))
      (rolled (parents_of w f) (map (node w f p) l) (map (key_list w ks) l) shown)
      (each-filter (λ (x : ℕ × List (List Value × List ℕ)). Each IsWithin x.1) (λ x. is_nonempty x.1) (map (λ x. (x, found x)) shown)
      (each-map (λ (x : ℕ × List (List Value × List ℕ)). Each IsWithin x.1) (λ (x : ℕ). ⊤) (λ x. (x, found x)) (λ x e. found-within x) shown (each-any shown)))
