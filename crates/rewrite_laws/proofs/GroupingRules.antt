-- Filters on keys pass groupings by plain keys, with a rollup, and with a recursive rollup.
use Rattle.std.proofs.Common.{◌≡◌, refl, sym, ◌∙◌, ap, ℕ, zero, suc, Bool, true, false, ◌&&◌, ◌||◌, not, List, [], ◌∷◌, ◌++◌, Option, Some, None, IsTrue, map, filter, cond, length, take, reverse, inl, inr, ◌⊎◌, arith, if◌then◌else◌}
use Rattle.std.specs.Prelude.{option_and_then, option_map, is_some, flat_map, unwrap_or, nat_le}
use Rattle.std.specs.List.{list_all, list_any, range_with_len}
use Rattle.std.proofs.lemmas.Bool.{and_parts, and_from, or_left, or_right, or_cases, or_from, not-true, both_ways, false_from_ne_true}
use Rattle.edm_values.specs.Lists.{are_distinct, first_some, is_nonempty, is_some_and}
use Rattle.edm_values.specs.Literals.{is_boolean_kind}
use Rattle.edm_values.specs.Names.{Path}
use Rattle.edm_values.specs.Values.{is_value}
use Rattle.edm_values.specs.declared.EdmType.{EdmType}
use Rattle.edm_values.specs.declared.Value.{Value}
use Rattle.edm_values.proofs.OptionFacts.{and_7, none_or, some_value, option_cases, chained, then_some-parts, if_else-parts, first_some-None}
use Rattle.edm_values.proofs.ListFacts.{all-append, all-filter, all-map, all-any, all-each, all-take, all-parts, flat_map-agree}
use Rattle.edm_values.proofs.SearchFacts.{chosen, found-all, find-joined, member-self, none-all}
use Rattle.edm_values.proofs.Reorderings.{filter-swapped}
use Rattle.edm_model.specs.Models.{Model}
use Rattle.edm_model.specs.LookUps.{HierarchyPlace}
use Rattle.edm_data.specs.Worlds.{World}
use Rattle.edm_data.specs.Nodes.{identifier}
use Rattle.apply_ast.specs.Trees.{Expr, OptPipe, Keys, Step, pipe, is_long}
use Rattle.context_typing.specs.Paths.{same_path, at_path}
use Rattle.context_typing.specs.Shapes.{ColumnShape, Shape}
use Rattle.context_typing.specs.Typing.{Customs, RollupPart, GroupKeys, hierarchy_at, group_keys, rollup_part, rollup_parts, rollup_paths, plain_paths, key_paths, key_column, key_columns, rollup_columns, column_at, path_kind, is_risky, is_sure, has_kind, is_lawful, steps_shape, step_shape, inner_shape, no_shape, after, keys_typed, grouped_shape, overlaps, customs_typed, all_prefixes, is_nodes}
use Rattle.context_typing.proofs.PathLemmas.{entry-path, same_paths, path-self}
use Rattle.context_typing.proofs.LawfulLemmas.{kind-of_column}
use Rattle.context_typing.proofs.TypingLaw.{no-overlap}
use Rattle.apply_meaning.specs.Instances.{extended, Instance, val, fits, no_instance}
use Rattle.apply_meaning.specs.Meaning.{Outcome, mean, step_mean, inner_mean, keys_shown, grouped, level_paths, groups_by, node_groups, grouping_mean, at_or_below, joined, group, keys, keyed}
use Rattle.apply_meaning.specs.MeaningLaws.{AllFit}
use Rattle.apply_meaning.proofs.GroupFit.{all-reverse, from-one}
use Rattle.rewrite_laws.specs.Rewrites.{paths, over, is_among, passing, pass_grouping, pass_groups, pass_rollup, pass_nodes, grouping_quiet, rollup_keys_in_every_row, is_no_rollup, is_levels}
use Rattle.rewrite_laws.specs.RewriteLaws.{KeepsMeaningInPlace, SameMeaning}
use Rattle.rewrite_laws.proofs.RuleLemmas.{Laws, Commutes, passing-keeps_meaning, sure-filter, step-fits}
use Rattle.rewrite_laws.proofs.ExprPaths.{lookup-same, val-same, kind-same, sure-same}
use Rattle.context_typing.proofs.PathOrders.{none-is}
use Rattle.rewrite_laws.proofs.TraverseRule.{filter-flat}
use Rattle.rewrite_laws.proofs.JoinedResults.{joined-whole, filter-mapped}
use Rattle.rewrite_laws.proofs.InnerLaws.{inner-runs, inner-fits, keys-none}
use Rattle.rewrite_laws.proofs.GroupRules.{level-is, level-filter}

-- a path among paths passes what all pass, and stands among more
pub among-passes : (q : Path → Bool) (ps : List Path) (p : Path) → is_among ps p ≡ true → list_all q ps ≡ true → q p ≡ true
among-passes q [] p h a = cc
among-passes q (k ∷ ps) p h a = let t = and_parts (q k) _ a in elim (or_cases (same_path p k) _ h) [ inl e ↦ ap q (same_paths p k e) ∙ t.0 | inr e ↦ among-passes q ps p e t.1 ]

among-cases : (ps qs : List Path) (p : Path) → is_among (ps ++ qs) p ≡ true → (is_among ps p ≡ true) ⊎ (is_among qs p ≡ true)
among-cases [] qs p h = inr h
among-cases (k ∷ ps) qs p h = elim (or_cases (same_path p k) _ h) [
  | inl e ↦ inl (or_left (same_path p k) _ e)
  | inr e ↦ elim (among-cases ps qs p e) [ inl x ↦ inl (or_right (same_path p k) _ x) | inr x ↦ inr x ]
]

among-left : (ps qs : List Path) (p : Path) → is_among ps p ≡ true → is_among (ps ++ qs) p ≡ true
among-left [] qs p h = cc
among-left (k ∷ ps) qs p h = elim (or_cases (same_path p k) _ h) [ inl e ↦ or_left (same_path p k) _ e | inr e ↦ or_right (same_path p k) _ (among-left ps qs p e) ]

pub among-right : (ps qs : List Path) (p : Path) → is_among qs p ≡ true → is_among (ps ++ qs) p ≡ true
among-right [] qs p h = h
among-right (k ∷ ps) qs p h = or_right (same_path p k) _ (among-right ps qs p h)

-- the keys that stand in every row, among all keys and in every level
row-key : (part : RollupPart) (p : Path) → is_among (rollup_keys_in_every_row part) p ≡ true → is_among (rollup_paths part) p ≡ true
row-key RollupPart.NoRollup p h = cc
row-key (RollupPart.Levels true ps) p h = cc
row-key (RollupPart.Levels false []) p h = cc
row-key (RollupPart.Levels false (q ∷ ps)) p h = elim (or_cases (same_path p q) false h) [ inl e ↦ or_left (same_path p q) _ e | inr e ↦ absurd (both_ways false refl e) ]
row-key (RollupPart.Nodes n q) p h = cc

row-level : (all : Bool) (ps : List Path) (j : ℕ) (p : Path) → (all || nat_le 1 j) ≡ true → is_among (rollup_keys_in_every_row (RollupPart.Levels all ps)) p ≡ true → is_among (take j ps) p ≡ true
row-level true ps j p z h = cc
row-level false [] j p z h = cc
row-level false (q ∷ ps) zero p z h = cc
row-level false (q ∷ ps) (suc j) p z h = elim (or_cases (same_path p q) false h) [ inl e ↦ or_left (same_path p q) _ e | inr e ↦ absurd (both_ways false refl e) ]

module _ (w : World) (S G : Shape) (f : List Instance → Outcome) (total : (l : List Instance) → AllFit w S l → is_some (f l) ≡ true) (fit : (l r : List Instance) → AllFit w S l → f l ≡ Some r → AllFit w G r) (b : Expr) where
  abbrev passes : Instance → Bool
  passes i = is_value true (val w i b)

  abbrev lacking : Path → Bool
  lacking p = not (is_some (column_at G p))

  abbrev level_ok : List Path → Bool
  level_ok level = over level b && list_all lacking level

  some-filtered : (o o' : Outcome) (x y : List Instance) → o ≡ Some x → o' ≡ Some y → filter passes x ≡ y → option_map (filter passes) o ≡ o'
  some-filtered o o' x y e k h = ap (option_map (filter passes)) e ∙ ap (λ z. Some z) h ∙ sym k

  -- all levels of a grouping
  levels-filter : (levels : List (List Path)) → list_all level_ok levels ≡ true → (l : List Instance) → AllFit w S l
      → option_map (filter passes) (joined (map (λ level. grouped w level f l) levels)) ≡ joined (map (λ level. grouped w level f (filter passes l)) levels)
  levels-filter levels ok l a =
      let a' = all-filter (fits w S) passes l a in
      some-filtered _ _ _ _ (joined-whole (λ level. grouped w level f l) levels (there levels ok l a)) (joined-whole (λ level. grouped w level f (filter passes l)) levels (there levels ok (filter passes l) a'))
      (filter-flat passes (λ level. unwrap_or (grouped w level f l) []) levels ∙ each levels ok)
    where
      there : (levels : List (List Path)) → list_all level_ok levels ≡ true → (l : List Instance) → AllFit w S l → list_all (λ level. is_some (grouped w level f l)) levels ≡ true
      there levels ok l a = all-each level_ok (λ level. is_some (grouped w level f l)) levels ok (λ level h. let t = and_parts (over level b) _ h in ap is_some (level-is w S G f total fit b level t.0 t.1 l a))

      each : (levels : List (List Path)) → list_all level_ok levels ≡ true → flat_map (λ level. filter passes (unwrap_or (grouped w level f l) [])) levels ≡ flat_map (λ level. unwrap_or (grouped w level f (filter passes l)) []) levels
      each [] ok = refl
      each (level ∷ levels) ok =
          let u = and_parts (level_ok level) _ ok in
          let t = and_parts (over level b) _ u.0 in
          let a' = all-filter (fits w S) passes l a in
          λ i. (ap (λ o. filter passes (unwrap_or o [])) (level-is w S G f total fit b level t.0 t.1 l a) ∙ level-filter w S G f total fit b level t.0 t.1 l a
          ∙ sym (ap (λ o. unwrap_or o []) (level-is w S G f total fit b level t.0 t.1 (filter passes l) a'))) i ++ each levels u.1 i

  -- the filter does not see a column of another path
  unseen : (plain : List Path) → over plain b ≡ true → (p : Path) → is_among plain p ≡ false → (v : Value) (r : Instance) → val w (extended r ((p, v) ∷ [])) b ≡ val w r b
  unseen plain all p lone v r = val-same w r (extended r ((p, v) ∷ [])) (is_among plain) (λ q h. lookup-same w r (extended r ((p, v) ∷ [])) q
      (find-joined (λ c. same_path c.0 q) r.columns ((p, v) ∷ []) ∙ ap (first_some (at_path (λ c. c.0) r.columns q)) (ap (λ z. cond z (Some (p, v)) None) (differs q h)) ∙ first_some-None (at_path (λ c. c.0) r.columns q)) refl) b all
    where
      differs : (q : Path) → is_among plain q ≡ true → same_path p q ≡ false
      differs q h = false_from_ne_true _ (λ e. both_ways (is_among plain p) lone (ap (is_among plain) (same_paths p q e) ∙ h))

  -- what is asked of the keys, of each kind of grouping
  abbrev Ready : List Path → RollupPart → Type 0
  Ready plain RollupPart.NoRollup = level_ok plain ≡ true
  Ready plain (RollupPart.Levels all ps) = list_all level_ok (level_paths plain (RollupPart.Levels all ps)) ≡ true
  Ready plain (RollupPart.Nodes h p) = (level_ok plain ≡ true) × (is_among plain p ≡ false)

  parts-filter : (part : RollupPart) (plain : List Path) (shown : List ℕ) → Ready plain part → (l : List Instance) → AllFit w S l
      → option_map (filter passes) (groups_by w part plain shown f l) ≡ groups_by w part plain shown f (filter passes l)
  parts-filter RollupPart.NoRollup plain shown ok l a = levels-filter (level_paths plain RollupPart.NoRollup) (and_from _ _ ok refl) l a
  parts-filter (RollupPart.Levels all ps) plain shown ok l a = levels-filter (level_paths plain (RollupPart.Levels all ps)) ok l a
  parts-filter (RollupPart.Nodes h p) plain shown ok l a = nodes (hierarchy_at w.model h)
    where
      one : HierarchyPlace → List Instance → ℕ → Outcome
      one t l x = option_map (map (λ r. extended r ((p, identifier w t x) ∷ []))) (grouped w plain f (filter (λ i. at_or_below w t p x i) l))

      is : (t : HierarchyPlace) (l : List Instance) → AllFit w S l → (x : ℕ) → (o : List Instance) × (option_map (map (λ r. extended r ((p, identifier w t x) ∷ []))) (grouped w plain f (filter (λ i. at_or_below w t p x i) l)) ≡ Some (map (λ r. extended r ((p, identifier w t x) ∷ [])) o)) × (grouped w plain f (filter (λ i. at_or_below w t p x i) l) ≡ Some o)
      is t l a x =
          let u = and_parts (over plain b) _ ok.0 in
          let g = level-is w S G f total fit b plain u.0 u.1 (filter (λ i. at_or_below w t p x i) l) (all-filter (fits w S) (λ i. at_or_below w t p x i) l a) in
          (_, ap (option_map (map (λ r. extended r ((p, identifier w t x) ∷ [])))) g, g)

      same : (t : HierarchyPlace) (x : ℕ) → filter passes (unwrap_or (option_map (map (λ r. extended r ((p, identifier w t x) ∷ []))) (grouped w plain f (filter (λ i. at_or_below w t p x i) l))) [])
          ≡ unwrap_or (option_map (map (λ r. extended r ((p, identifier w t x) ∷ []))) (grouped w plain f (filter (λ i. at_or_below w t p x i) (filter passes l)))) []
      same t x =
          let u = and_parts (over plain b) _ ok.0 in
          let under = λ (i : Instance). at_or_below w t p x i in
          let a1 = all-filter (fits w S) under l a in
          let a2 = all-filter (fits w S) under (filter passes l) (all-filter (fits w S) passes l a) in
          ap (λ o. filter passes (unwrap_or (option_map (map (λ r. extended r ((p, identifier w t x) ∷ []))) o) [])) (level-is w S G f total fit b plain u.0 u.1 (filter under l) a1)
          ∙ filter-mapped (λ r. extended r ((p, identifier w t x) ∷ [])) passes passes (λ r. ap (is_value true) (unseen plain u.0 p ok.1 (identifier w t x) r)) _
          ∙ ap (map (λ r. extended r ((p, identifier w t x) ∷ []))) (level-filter w S G f total fit b plain u.0 u.1 (filter under l) a1)
          ∙ sym (ap (λ o. unwrap_or (option_map (map (λ r. extended r ((p, identifier w t x) ∷ []))) o) []) (level-is w S G f total fit b plain u.0 u.1 (filter under (filter passes l)) a2
          ∙ ap (λ z. Some (flat_map (λ k. unwrap_or (option_map (map (λ r. extended r (keyed plain k))) (f (group w plain k z))) []) (keys w plain z))) (filter-swapped under passes l)))

      nodes : (o : Option HierarchyPlace) → option_map (filter passes) (node_groups w o plain p shown f l) ≡ node_groups w o plain p shown f (filter passes l)
      nodes None = refl
      nodes (Some t) =
          some-filtered _ _ _ _ (joined-whole (one t l) shown (all-any _ shown (λ x. ap is_some (is t l a x).1))) (joined-whole (one t (filter passes l)) shown (all-any _ shown (λ x. ap is_some (is t (filter passes l) (all-filter (fits w S) passes l a) x).1)))
          (filter-flat passes (λ x. unwrap_or (one t l x) []) shown ∙ flat_map-agree _ _ (same t) shown)

-- the keys are ready for the filter
over-wider : (K L : List Path) (b : Expr) → ((p : Path) → is_among K p ≡ true → is_among L p ≡ true) → over K b ≡ true → over L b ≡ true
over-wider K L b h a = all-each (is_among K) (is_among L) (paths b) a h

pub apart-last : (ps : List Path) (p : Path) → are_distinct same_path (ps ++ p ∷ []) ≡ true → is_among ps p ≡ false
apart-last [] p d = refl
apart-last (q ∷ ps) p d =
    let t = and_parts (not (list_any (same_path q) (ps ++ p ∷ []))) _ d in
    or_from _ _ (false_from_ne_true _ (λ e. both_ways (list_any (same_path q) (ps ++ p ∷ [])) (not-true _ t.0) (among-right ps (p ∷ []) q (or_left (same_path q p) false (ap (same_path q) (same_paths p q e) ∙ path-self q))))) (apart-last ps p t.1)

module _ (w : World) (S G : Shape) (b : Expr) (plain : List Path) where
  abbrev lacks_column : Path → Bool
  lacks_column p = not (is_some (column_at G p))

  abbrev fine : List Path → Bool
  fine level = over level b && list_all lacks_column level

  abbrev ReadyFor : RollupPart → Type 0
  ReadyFor RollupPart.NoRollup = fine plain ≡ true
  ReadyFor (RollupPart.Levels all ps) = list_all fine (level_paths plain (RollupPart.Levels all ps)) ≡ true
  ReadyFor (RollupPart.Nodes h p) = (fine plain ≡ true) × (is_among plain p ≡ false)

  ready : (part : RollupPart) → over (plain ++ rollup_keys_in_every_row part) b ≡ true → list_all lacks_column (plain ++ rollup_paths part) ≡ true → are_distinct same_path (plain ++ rollup_paths part) ≡ true → ReadyFor part
  ready RollupPart.NoRollup o n d = and_from _ _ (over-wider (plain ++ []) plain b (λ p h. elim (among-cases plain [] p h) [ inl x ↦ x | inr x ↦ cc ]) o) (all-parts lacks_column plain [] n).0
  ready (RollupPart.Levels all ps) o n d =
      all-append fine (map (λ j. plain ++ take j ps) (reverse (range_with_len 1 (length ps)))) (if all then plain ∷ [] else [])
      (all-map (λ j. nat_le 1 j) fine (λ j. plain ++ take j ps) (reverse (range_with_len 1 (length ps))) (all-reverse (λ j. nat_le 1 j) (range_with_len 1 (length ps)) (from-one 1 (length ps) (omega arith)))
      (λ j h. and_from _ _ (over-wider (plain ++ rollup_keys_in_every_row (RollupPart.Levels all ps)) (plain ++ take j ps) b (λ p x. elim (among-cases plain (rollup_keys_in_every_row (RollupPart.Levels all ps)) p x) [
        | inl y ↦ among-left plain (take j ps) p y
        | inr y ↦ among-right plain (take j ps) p (row-level all ps j p (or_right all _ h) y)
      ]) o) (all-append lacks_column plain (take j ps) u.0 (all-take lacks_column j ps u.1))))
      (whole all o)
    where
      u : (list_all lacks_column plain ≡ true) × (list_all lacks_column ps ≡ true)
      u = all-parts lacks_column plain ps n

      whole : (all : Bool) → over (plain ++ rollup_keys_in_every_row (RollupPart.Levels all ps)) b ≡ true → list_all fine (if all then plain ∷ [] else []) ≡ true
      whole true o = and_from _ _ (and_from _ _ (over-wider (plain ++ []) plain b (λ p h. elim (among-cases plain [] p h) [ inl x ↦ x | inr x ↦ cc ]) o) (all-parts lacks_column plain ps n).0) refl
      whole false o = refl
  ready (RollupPart.Nodes h p) o n d = (and_from _ _ (over-wider (plain ++ []) plain b (λ p h. elim (among-cases plain [] p h) [ inl x ↦ x | inr x ↦ cc ]) o) (all-parts lacks_column plain (p ∷ []) n).0, apart-last plain p d)

-- the columns of the keys at a path
plain-at : (m : Model) (S : Shape) (ps : List Path) (p : Path) → is_among ps p ≡ true → at_path (λ c. c.path) (map (key_column m S false) ps) p ≡ Some (key_column m S false p)
plain-at m S [] p h = cc
plain-at m S (q ∷ ps) p h = go (same_path q p) refl (plain-at m S ps p)
  where
    go : (b : Bool) → same_path q p ≡ b → (is_among ps p ≡ true → at_path (λ c. c.path) (map (key_column m S false) ps) p ≡ Some (key_column m S false p))
        → cond b (Some (key_column m S false q)) (at_path (λ c. c.path) (map (key_column m S false) ps) p) ≡ Some (key_column m S false p)
    go true e r = ap (λ z. Some (key_column m S false z)) (same_paths q p e)
    go false e r = elim (or_cases (same_path p q) _ h) [
      | inl a ↦ absurd (both_ways (same_path q p) e (ap (λ z. same_path z p) (sym (same_paths p q a)) ∙ path-self p))
      | inr a ↦ r a
    ]

module _ (m : Model) (S G : Shape) (g : GroupKeys) where
  abbrev every : List Path
  every = g.plain ++ rollup_keys_in_every_row (rollup_part g)

  key-at : (p : Path) → is_among every p ≡ true → column_at G p ≡ None → (k : ColumnShape) × (at_path (λ c. c.path) (G.columns ++ key_columns m S g) p ≡ Some k) × (k.kind ≡ unwrap_or (path_kind m S p) EdmType.Text) × (k.risky ≡ is_risky S p)
  key-at p h n = elim (option_cases (at_path (λ c. c.path) (map (key_column m S false) g.plain) p)) [
    | inl a ↦ elim (among-cases g.plain (rollup_keys_in_every_row (rollup_part g)) p h) [
      | inl x ↦ none_or (key_column m S false p) (sym a ∙ plain-at m S g.plain p x)
      | inr x ↦ let t = rollup-at (rollup_part g) x in (t.0, front ∙ (λ i. first_some (a i) (t.1 i)), t.2, t.3)
    ]
    | inr k ↦
        let path = entry-path (λ c. c.path) (map (key_column m S false) g.plain) p k.0 k.1 in
        let t = plain-from g.plain k.0 k.1 in
        (k.0, front ∙ ap (λ o. first_some o (at_path (λ c. c.path) (rollup_columns m S (rollup_part g)) p)) k.1, t.0, t.1)
  ]
    where
      front : at_path (λ c. c.path) (G.columns ++ key_columns m S g) p ≡ first_some (at_path (λ c. c.path) (map (key_column m S false) g.plain) p) (at_path (λ c. c.path) (rollup_columns m S (rollup_part g)) p)
      front = find-joined (λ c. same_path c.path p) G.columns (key_columns m S g) ∙ ap (λ o. first_some o (at_path (λ c. c.path) (key_columns m S g) p)) n ∙ find-joined (λ c. same_path c.path p) (map (key_column m S false) g.plain) (rollup_columns m S (rollup_part g))

      rollup-at : (part : RollupPart) → is_among (rollup_keys_in_every_row part) p ≡ true → (k : ColumnShape) × (at_path (λ c. c.path) (rollup_columns m S part) p ≡ Some k) × (k.kind ≡ unwrap_or (path_kind m S p) EdmType.Text) × (k.risky ≡ is_risky S p)
      rollup-at RollupPart.NoRollup x = cc
      rollup-at (RollupPart.Levels true ps) x = cc
      rollup-at (RollupPart.Levels false []) x = cc
      rollup-at (RollupPart.Levels false (q ∷ ps)) x = elim (or_cases (same_path p q) false x) [
        | inl e ↦
            let s = same_paths p q e in
            (key_column m S false q, ap (λ z. cond z (Some (key_column m S false q)) (at_path (λ c. c.path) (map (key_column m S true) ps) p)) (ap (same_path q) s ∙ path-self q), ap (λ z. unwrap_or (path_kind m S z) EdmType.Text) (sym s), ap (is_risky S) (sym s))
        | inr e ↦ absurd (both_ways false refl e)
      ]
      rollup-at (RollupPart.Nodes h q) x = cc

      plain-from : (ps : List Path) (k : ColumnShape) → at_path (λ c. c.path) (map (key_column m S false) ps) p ≡ Some k → (k.kind ≡ unwrap_or (path_kind m S p) EdmType.Text) × (k.risky ≡ is_risky S p)
      plain-from [] k e = none_or k e
      plain-from (q ∷ ps) k e = elim (chosen (same_path q p) (key_column m S false q) k _ e) [
        | inl t ↦ let s = same_paths q p t.0 in (ap (λ c. c.kind) (sym t.1) ∙ ap (λ z. unwrap_or (path_kind m S z) EdmType.Text) s, ap (λ c. c.risky) (sym t.1) ∙ ap (is_risky S) s)
        | inr t ↦ plain-from ps k t.1
      ]

-- ---- a typed grouping

-- what a grouping that is typed has: the shape of what is made of each group, which lacks the keys' columns, and typed keys that differ
pub record IsGrouping (m : Model) (c : Customs) (S : Shape) (ks : Keys) (T : OptPipe) (S1 : Shape) : Type 0 where
  pub inner : Shape
  pub inner_is : inner_shape m c S no_shape T ≡ Some inner
  pub keys_ok : keys_typed m c S ks ≡ true
  pub one_part : nat_le (length (rollup_parts ks)) 1 ≡ true
  pub typed : list_all (λ p. is_some (path_kind m S p)) (key_paths (group_keys ks)) ≡ true
  pub differ : are_distinct same_path (key_paths (group_keys ks)) ≡ true
  pub lacks : list_all (λ p. not (is_some (column_at inner p))) (key_paths (group_keys ks)) ≡ true
  pub shape_is : record inner { columns = inner.columns ++ key_columns m S (group_keys ks) } ≡ S1
  pub grouped_is : grouped_shape m S (group_keys ks) inner ≡ Some S1

pub grouping-parts : (m : Model) (c : Customs) (S S1 : Shape) (ks : Keys) (T : OptPipe) → step_shape m c S (Step.GroupBy ks T) ≡ Some S1 → IsGrouping m c S ks T S1
unfolding steps_shape
grouping-parts m c S S1 ks T e =
    let t = if_else-parts (keys_typed m c S ks) (option_and_then (grouped_shape m S (group_keys ks)) (inner_shape m c S no_shape T)) S1 e in
    let G = chained (grouped_shape m S (group_keys ks)) (inner_shape m c S no_shape T) S1 t.1 in
    let u = then_some-parts _ _ S1 G.2 in
    let v = and_7 (is_nonempty (key_paths (group_keys ks))) (nat_le (length (rollup_parts ks)) 1) _ _ _ _ (not (is_nodes (rollup_part (group_keys ks))) || not (is_nonempty (all_prefixes G.0))) u.0 in
    record { inner = G.0; inner_is = G.1; keys_ok = t.0; one_part = v.1; typed = v.2; differ = v.3; lacks = lacking_keys G.0 v.4; shape_is = u.1; grouped_is = G.2 }
  where
    lacking_keys : (G : Shape) → not (list_any (λ c. overlaps (key_paths (group_keys ks)) c.path) G.columns) ≡ true → list_all (λ p. not (is_some (column_at G p))) (key_paths (group_keys ks)) ≡ true
    lacking_keys G n = member-self (key_paths (group_keys ks)) (λ p. not (is_some (column_at G p))) (λ p m. elim (option_cases (column_at G p)) [
      | inl o ↦ ap (λ z. not (is_some z)) o
      | inr c ↦
          let fine = found-all (λ x. same_path x.path p) (λ c. not (overlaps (key_paths (group_keys ks)) c.path)) G.columns c.0 c.1 (none-all (λ c. overlaps (key_paths (group_keys ks)) c.path) G.columns (not-true _ n)) in
          let none = no-overlap (key_paths (group_keys ks)) (c.0).path (not-true _ fine) in
          let self = m (λ q. not (same_path (c.0).path q)) (none-all (same_path (c.0).path) (key_paths (group_keys ks)) none) in
          absurd (both_ways (same_path (c.0).path p) (not-true _ self) (ap (λ z. same_path z p) (entry-path (λ x. x.path) G.columns p c.0 c.1) ∙ path-self p))
    ])

-- the paths by which a filter may pass a grouping
abbrev pub row_keys : Keys → List Path
row_keys ks = plain_paths ks ++ rollup_keys_in_every_row (rollup_part (group_keys ks))

module _ (w : World) (c : Customs) (S S1 : Shape) (ks : Keys) (T : OptPipe) (g : IsGrouping w.model c S ks T S1) where
  every_key : (p : Path) → is_among (row_keys ks) p ≡ true → is_among (key_paths (group_keys ks)) p ≡ true
  every_key p a = elim (among-cases (plain_paths ks) (rollup_keys_in_every_row (rollup_part (group_keys ks))) p a) [
    | inl x ↦ among-left (plain_paths ks) (rollup_paths (rollup_part (group_keys ks))) p x
    | inr x ↦ among-right (plain_paths ks) (rollup_paths (rollup_part (group_keys ks))) p (row-key (rollup_part (group_keys ks)) p x)
  ]

  no_own : (p : Path) → is_among (key_paths (group_keys ks)) p ≡ true → column_at g.inner p ≡ None
  no_own p a = none-is (column_at g.inner p) (not-true _ (among-passes (λ p. not (is_some (column_at g.inner p))) (key_paths (group_keys ks)) p a g.lacks))

  pub key-kind : (p : Path) → is_among (row_keys ks) p ≡ true → path_kind w.model S1 p ≡ path_kind w.model S p
  key-kind p a =
      let x = key-at w.model S g.inner (group_keys ks) p a (no_own p (every_key p a)) in
      sym (ap (λ Z. path_kind w.model Z p) g.shape_is) ∙ kind-of_column w.model (record g.inner { columns = (g.inner).columns ++ key_columns w.model S (group_keys ks) }) p x.0 x.1 ∙ ap (λ z. Some z) x.2
      ∙ whole (path_kind w.model S p) (among-passes (λ p. is_some (path_kind w.model S p)) (key_paths (group_keys ks)) p (every_key p a) g.typed)
    where
      whole : (o : Option EdmType) → is_some o ≡ true → Some (unwrap_or o EdmType.Text) ≡ o
      whole None h = cc
      whole (Some k) h = refl

  pub key-risk : (p : Path) → is_among (row_keys ks) p ≡ true → is_risky S1 p ≡ is_risky S p
  key-risk p a =
      let x = key-at w.model S g.inner (group_keys ks) p a (no_own p (every_key p a)) in
      sym (ap (λ Z. is_risky Z p) g.shape_is) ∙ ap (is_some_and (λ c. c.risky)) x.1 ∙ x.3

  module _ (A : World → Type 0) (L : Laws A) (u : A w) (k : IsTrue (customs_typed w.model c)) (law : IsTrue (is_lawful w.model S)) (quiet : grouping_quiet w.model c S ks T ≡ true) where
    -- what is made of a group
    abbrev pub made : List Instance → Outcome
    made = inner_mean w c S (λ g. Some (no_instance ∷ [])) T

    pub made-total : (x : List Instance) → AllFit w S x → is_some (inner_mean w c S (λ g. Some (no_instance ∷ [])) T x) ≡ true
    made-total x f = inner-runs A L w c u k S no_shape g.inner T law g.inner_is (and_parts (not (list_any (is_risky S) (key_paths (group_keys ks)))) _ quiet).1 (λ g. Some (no_instance ∷ [])) (λ g. refl) x f

    pub made-fits : (l r : List Instance) → AllFit w S l → inner_mean w c S (λ g. Some (no_instance ∷ [])) T l ≡ Some r → AllFit w g.inner r
    made-fits = inner-fits A L w c u k S no_shape g.inner T law g.inner_is (λ g. Some (no_instance ∷ [])) (λ l r f e. sym (ap (list_all (fits w no_shape)) (some_value e)))

    -- no key is Beyond
    pub plainly : (l : List Instance) → AllFit w S l → (shown : List ℕ) → grouping_mean w (group_keys ks) shown made l ≡ groups_by w (rollup_part (group_keys ks)) (plain_paths ks) shown made l
    plainly l f shown = ap (λ z. if z then None else groups_by w (rollup_part (group_keys ks)) (plain_paths ks) shown made l)
        (keys-none A L w u S (key_paths (group_keys ks)) l g.typed (none-all (is_risky S) (key_paths (group_keys ks)) (not-true _ (and_parts (not (list_any (is_risky S) (key_paths (group_keys ks)))) _ quiet).0)) f)

    commutes : step_shape w.model c S (Step.GroupBy ks T) ≡ Some S1 → (b : Expr) → over (row_keys ks) b ≡ true → has_kind is_boolean_kind w.model S1 b ≡ true → is_sure w.model S1 b ≡ true → has_kind is_boolean_kind w.model S b ≡ true → is_sure w.model S b ≡ true
        → Commutes w c S (Step.GroupBy ks T) b
    unfolding mean
    commutes e b all h sure typed sureS l f = go (keys_shown w c ks) refl
      where
        keeps : Instance → Bool
        keeps i = is_value true (val w i b)

        and-filter : (o : Outcome) → ((r : List Instance) → o ≡ Some r → AllFit w S1 r) → option_and_then (step_mean w c S (Step.Filter b)) o ≡ option_map (filter keeps) o
        and-filter None g = refl
        and-filter (Some r) g = sure-filter A L w c u S1 b r h sure (g r refl)

        go : (o : Option (List ℕ)) → keys_shown w c ks ≡ o
            → option_and_then (step_mean w c S (Step.Filter b)) (option_and_then (λ shown. grouping_mean w (group_keys ks) shown made l) o)
            ≡ option_and_then (λ l. option_and_then (λ shown. grouping_mean w (group_keys ks) shown made l) o) (step_mean w c S (Step.Filter b) l)
        go None z = sym (ap (option_and_then (λ (l : List Instance). None)) (sure-filter A L w c u S b l typed sureS f))
        go (Some shown) z =
            let out = grouping_mean w (group_keys ks) shown made in
            and-filter (out l) (λ r m. step-fits A L w c u k S S1 (Step.GroupBy ks T) l r law e f (ap (option_and_then (λ shown. grouping_mean w (group_keys ks) shown made l)) z ∙ m))
            ∙ ap (option_map (filter keeps)) (plainly l f shown)
            ∙ parts-filter w S g.inner made made-total made-fits b (rollup_part (group_keys ks)) (plain_paths ks) shown
            (ready w S g.inner b (plain_paths ks) (rollup_part (group_keys ks)) all g.lacks g.differ) l f
            ∙ sym (plainly (filter keeps l) (all-filter (fits w S) keeps l f) shown)
            ∙ sym (ap (option_and_then out) (sure-filter A L w c u S b l typed sureS f))

-- ---- the rules

pub pass_grouping-keeps_meaning : (kind : RollupPart → Bool) (A : World → Type 0) → Laws A → KeepsMeaningInPlace A (pass_grouping kind)
unfolding steps_shape
pass_grouping-keeps_meaning kind A L w c S S' before (Step.GroupBy ks T) ss ss' k law e got = choose (kind (rollup_part (group_keys ks)) && grouping_quiet w.model c S ks T) refl got
  where
    choose : (z : Bool) → (kind (rollup_part (group_keys ks)) && grouping_quiet w.model c S ks T) ≡ z
        → (if z then passing w.model (after w.model c S (Step.GroupBy ks T)) (λ b. over (row_keys ks) b && is_sure w.model (after w.model c S (Step.GroupBy ks T)) b) (Step.GroupBy ks T) ss else None) ≡ Some ss'
        → IsTrue (before || is_long (pipe ss')) × SameMeaning A w c S (pipe (Step.GroupBy ks T ∷ ss)) (pipe ss')
    choose false q z = none_or ss' z
    choose true q z =
        let S1 = chained (λ T. steps_shape w.model c T (pipe ss)) (step_shape w.model c S (Step.GroupBy ks T)) S' e in
        let at = ap (λ o. unwrap_or o S) S1.1 in
        let g = grouping-parts w.model c S S1.0 ks T S1.1 in
        passing-keeps_meaning A L w c k S S1.0 S' law (Step.GroupBy ks T) S1.1 (after w.model c S (Step.GroupBy ks T)) before ss ss'
        (λ b. over (row_keys ks) b && is_sure w.model (after w.model c S (Step.GroupBy ks T)) b) at e z (λ b t h.
        let p = and_parts (over (row_keys ks) b) _ t in
        let sure = ap (λ Z. is_sure w.model Z b) (sym at) ∙ p.1 in
        let typed = ap (is_some_and is_boolean_kind) (sym (kind-same w.model S S1.0 (is_among (row_keys ks)) (key-kind w c S S1.0 ks T g) b p.0)) ∙ h in
        let sureS = sym (sure-same w.model S S1.0 (is_among (row_keys ks)) (key-kind w c S S1.0 ks T g) (key-risk w c S S1.0 ks T g) b p.0) ∙ sure in
        (typed, λ u. commutes w c S S1.0 ks T g A L u k law (and_parts _ _ q).1 S1.1 b p.0 h sure typed sureS))
pass_grouping-keeps_meaning kind A L w c S S' before s ss ss' k law e got = none_or ss' got

-- rules 6, 7 and 16
pub pass_groups-keeps_meaning : (A : World → Type 0) → Laws A → KeepsMeaningInPlace A pass_groups
pass_groups-keeps_meaning = pass_grouping-keeps_meaning is_no_rollup

pub pass_rollup-keeps_meaning : (A : World → Type 0) → Laws A → KeepsMeaningInPlace A pass_rollup
pass_rollup-keeps_meaning = pass_grouping-keeps_meaning is_levels

pub pass_nodes-keeps_meaning : (A : World → Type 0) → Laws A → KeepsMeaningInPlace A pass_nodes
pass_nodes-keeps_meaning = pass_grouping-keeps_meaning is_nodes
