-- The law of replacement: a rule that keeps typing and meaning in place keeps them at every place.
use Rattle.std.proofs.Common.{◌==◌, ℕ, ◌≡◌, refl, sym, ◌∙◌, ap, subst, Bool, true, false, ◌&&◌, List, [], ◌∷◌, ◌++◌, Option, Some, None, IsTrue, map, filter, Contains, inl, inr, ◌⊎◌}
use Rattle.std.specs.Prelude.{option_and_then, option_map, unwrap_or, if◌then◌else◌, flat_map, is_some}
use Rattle.std.specs.List.{list_any}
use Rattle.std.proofs.lemmas.List.Elements.{Contains-append_left, Contains-append_right, Contains-append_cases}
use Rattle.std.specs.Bool.{then_some}
use Rattle.edm_data.specs.Worlds.{World}
use Rattle.edm_model.specs.Models.{Navigation}
use Rattle.edm_values.specs.Values.{is_beyond}
use Rattle.apply_ast.specs.Trees.{HierName, Pipe, Step, OptPipe, Pipes, Key, Keys, is_long, is_distance}
use Rattle.edm_values.specs.Names.{Name, Path}
use Rattle.edm_model.specs.LookUps.{HierarchyPlace}
use Rattle.context_typing.specs.Typing.{hierarchy_at, Customs, Types, customs_typed, RollupPart, GroupKeys, group_keys, rollup_part, key_paths, is_lawful, no_shape, steps_shape, step_shape, inner_shape, branch_shapes, key_typed, keys_typed, grouped_shape, concat_shape, joined_shape, is_free, is_node_path, root_type, join_navigation}
use Rattle.edm_values.specs.Lists.{is_some_and, all_some}
use Rattle.context_typing.specs.Shapes.{Shape, set_shape}
use Rattle.apply_meaning.specs.Instances.{extended, Instance, fits, rows, no_instance, lookup}
use Rattle.apply_meaning.specs.Meaning.{Outcome, mean, step_mean, inner_mean, branch_means, key_shown, keys_shown, grouped, group, keys, same_keys, key_list, keyed, joined, groups_by, node_groups, grouping_mean, level_paths, related_rows, bound_to, refused_at_beyond, climbed, shown_of, at_or_below}
use Rattle.edm_data.specs.Nodes.{identifier}
use Rattle.rewrite_laws.specs.Rewrites.{Rule, IsRewrite, pipe_results}
use Rattle.apply_ast.specs.NamedHierarchies.{hierarchies, inner_hierarchies, branch_hierarchies, key_hierarchies, keys_hierarchies, step_hierarchies}
use Rattle.apply_meaning.specs.MeaningLaws.{AllFit, MeanFits, NodesFit, RelatedFit}
use Rattle.context_typing.specs.TypingLaws.{TypingKeepsLawful}
use Rattle.rewrite_laws.specs.RewriteLaws.{SameMeaning, KeepsMeaningInPlace}
use Rattle.edm_values.proofs.OptionFacts.{some_value}
use Rattle.rewrite_laws.proofs.EachPlace.{Respected, behind_key, pipe_each}
use Rattle.rewrite_laws.proofs.FilterRuns.{chains_agree}
use Rattle.rewrite_laws.proofs.WorldForms.{KeepsMeaningInWorlds}
use Rattle.edm_values.proofs.EachLemmas.{Each, each-filter, each-contains}
use Rattle.edm_values.proofs.ListFacts.{all-filter}

abbrev IsLawful : World → Shape → Type 0
IsLawful w S = IsTrue (is_lawful w.model S)

-- what is asked of the meaning of one step, of nodes and of related instances
abbrev StepFits : (World → Type 0) → World → Customs → Type 0
StepFits A w c = (S S' : Shape) (s : Step) (l out : List Instance) → A w → IsLawful w S → step_shape w.model c S s ≡ Some S' → AllFit w S l → step_mean w c S s l ≡ Some out → AllFit w S' out

abbrev NodesFitIn : (World → Type 0) → World → Type 0
NodesFitIn A w = (h : HierName) (f : HierarchyPlace) → A w → hierarchy_at w.model h ≡ Some f → AllFit w (set_shape f.type) (rows w f.set)

abbrev RelatedFitIn : (World → Type 0) → World → Type 0
RelatedFitIn A w = (S : Shape) (n : Name) (v : Navigation) (i : Instance) → A w → join_navigation w.model S n ≡ Some v → AllFit w (set_shape v.target) (related_rows w v i)

-- one list names no more than another
abbrev Within : List HierName → List HierName → Type 0
Within hs gs = (h : HierName) → Contains hs h → Contains gs h

within-append : (hs gs hs' gs' : List HierName) → Within hs gs → Within hs' gs' → Within (hs ++ hs') (gs ++ gs')
within-append hs gs hs' gs' a b h k = go (Contains-append_cases hs hs' h k)
  where
    go : Contains hs h ⊎ Contains hs' h → Contains (gs ++ gs') h
    go (inl x) = Contains-append_left gs gs' h (a h x)
    go (inr x) = Contains-append_right gs gs' h (b h x)

same_within : (hs : List HierName) → Within hs hs
same_within hs h k = k

module _ (A : World → Type 0) (w : World) (c : Customs) where
  abbrev SameStep : Shape → Step → Step → Type 0
  SameStep S s s' = Within (step_hierarchies s') (step_hierarchies s) × (step_shape w.model c S s' ≡ step_shape w.model c S s)
      × (A w → (l : List Instance) → AllFit w S l → step_mean w c S s' l ≡ step_mean w c S s l)

  abbrev SameInner : Shape → OptPipe → OptPipe → Type 0
  SameInner S T T' = Within (inner_hierarchies T') (inner_hierarchies T) × ((d : Shape) → inner_shape w.model c S d T' ≡ inner_shape w.model c S d T)
      × (A w → (f : List Instance → Outcome) (l : List Instance) → AllFit w S l → inner_mean w c S f T' l ≡ inner_mean w c S f T l)

  abbrev SameBranches : Shape → Pipes → Pipes → Type 0
  SameBranches S ps qs = Within (branch_hierarchies qs) (branch_hierarchies ps) × (branch_shapes w.model c S qs ≡ branch_shapes w.model c S ps)
      × (A w → (l : List Instance) → AllFit w S l → branch_means w c S qs l ≡ branch_means w c S ps l)

  abbrev SameKeys : Keys → Keys → Type 0
  SameKeys ks ks' = Within (keys_hierarchies ks') (keys_hierarchies ks) × ((S : Shape) → keys_typed w.model c S ks' ≡ keys_typed w.model c S ks)
      × (group_keys ks' ≡ group_keys ks) × (A w → keys_shown w c ks' ≡ keys_shown w c ks)

  -- keys that differ in the first, or behind it
  abbrev SameKey : Key → Key → Type 0
  SameKey k k' = Within (key_hierarchies k') (key_hierarchies k) × ((S : Shape) → key_typed w.model c S k' ≡ key_typed w.model c S k)
      × ((ks : Keys) → group_keys (Keys.MoreKeys k' ks) ≡ group_keys (Keys.MoreKeys k ks)) × (A w → key_shown w c k' ≡ key_shown w c k)

  -- another first step, and other steps behind it
  with_step : (S : Shape) (s s' : Step) (p : Pipe) → SameStep S s s' → SameMeaning A w c S (Pipe.Then s p) (Pipe.Then s' p)
  unfolding mean steps_shape pipe_results
  with_step S s s' p h = (
    within-append (step_hierarchies s') (step_hierarchies s) (hierarchies p) (hierarchies p) h.0 (same_within (hierarchies p)),
    ap (λ o. option_and_then (λ S'. steps_shape w.model c S' p) o) h.1,
    λ a l f. (λ i. option_and_then (mean w c (unwrap_or (h.1 i) S) p) (h.2 a l f i)),
  )

  with_rest : StepFits A w c → (S S' : Shape) (s : Step) (p q : Pipe) → IsLawful w S → step_shape w.model c S s ≡ Some S' → SameMeaning A w c S' p q
      → SameMeaning A w c S (Pipe.Then s p) (Pipe.Then s q)
  unfolding mean steps_shape pipe_results
  with_rest F S S' s p q law e h = (
    within-append (step_hierarchies s) (step_hierarchies s) (hierarchies q) (hierarchies p) (same_within (step_hierarchies s)) h.0,
    ap (option_and_then (λ T. steps_shape w.model c T q)) e ∙ h.1 ∙ sym (ap (option_and_then (λ T. steps_shape w.model c T p)) e),
    λ a l f.
        let P : Shape → Type 0 = λ T. option_and_then (mean w c T q) (step_mean w c S s l) ≡ option_and_then (mean w c T p) (step_mean w c S s l) in
        subst P (sym (ap (λ o. unwrap_or o S) e))
        (chains_agree (mean w c S' q) (mean w c S' p) (step_mean w c S s l)
        (λ out k. h.2 a out (F S S' s l out a law e f k))),
  )

  -- what is made of each group may be replacement_keeps_meaning where it agrees on lists that fit
  grouped_agree : (S : Shape) (ks : List Path) (f g : List Instance → Outcome) (l : List Instance) → AllFit w S l → ((x : List Instance) → AllFit w S x → f x ≡ g x) → grouped w ks f l ≡ grouped w ks g l
  grouped_agree S ks f g l a h =
      λ i. joined (map (λ k. option_map (map (λ r. extended r (keyed ks k))) (h (group w ks k l) (all-filter (fits w S) (λ j. same_keys (key_list w ks j) k) l a) i)) (keys w ks l))

  node_groups_agree : (S : Shape) (t : Option HierarchyPlace) (ks : List Path) (p : Path) (shown : List ℕ) (f g : List Instance → Outcome) (l : List Instance) → AllFit w S l
      → ((x : List Instance) → AllFit w S x → f x ≡ g x) → node_groups w t ks p shown f l ≡ node_groups w t ks p shown g l
  node_groups_agree S None ks p shown f g l a h = refl
  node_groups_agree S (Some t) ks p shown f g l a h =
      λ i. joined (map (λ x. option_map (map (λ r. extended r ((p, identifier w t x) ∷ [])))
      (grouped_agree S ks f g (filter (at_or_below w t p x) l) (all-filter (fits w S) (at_or_below w t p x) l a) h i)) shown)

  groups_by_agree : (S : Shape) (part : RollupPart) (ks : List Path) (shown : List ℕ) (f g : List Instance → Outcome) (l : List Instance) → AllFit w S l
      → ((x : List Instance) → AllFit w S x → f x ≡ g x) → groups_by w part ks shown f l ≡ groups_by w part ks shown g l
  groups_by_agree S RollupPart.NoRollup ks shown f g l a h = λ i. joined (map (λ level. grouped_agree S level f g l a h i) (level_paths ks RollupPart.NoRollup))
  groups_by_agree S (RollupPart.Levels all ps) ks shown f g l a h = λ i. joined (map (λ level. grouped_agree S level f g l a h i) (level_paths ks (RollupPart.Levels all ps)))
  groups_by_agree S (RollupPart.Nodes n p) ks shown f g l a h = node_groups_agree S (hierarchy_at w.model n) ks p shown f g l a h

  grouping_agree : (S : Shape) (k : GroupKeys) (shown : List ℕ) (f g : List Instance → Outcome) (l : List Instance) → AllFit w S l
      → ((x : List Instance) → AllFit w S x → f x ≡ g x) → grouping_mean w k shown f l ≡ grouping_mean w k shown g l
  unfolding mean steps_shape pipe_results
  grouping_agree S k shown f g l a h =
      ap (λ o. if list_any is_beyond (flat_map (key_list w (key_paths k)) l) then None else o) (groups_by_agree S (rollup_part k) k.plain shown f g l a h)

  -- a grouping with other keys, or with another pipeline for each group
  with_group_keys : (S : Shape) (ks ks' : Keys) (T : OptPipe) → SameKeys ks ks' → SameStep S (Step.GroupBy ks T) (Step.GroupBy ks' T)
  unfolding mean steps_shape pipe_results
  with_group_keys S ks ks' T h = (
    within-append (keys_hierarchies ks') (keys_hierarchies ks) (inner_hierarchies T) (inner_hierarchies T) h.0 (same_within (inner_hierarchies T)),
    (λ i. if h.1 S i then option_and_then (grouped_shape w.model S (h.2 i)) (inner_shape w.model c S no_shape T) else None),
    λ a l f. (λ i. option_and_then (λ shown. grouping_mean w (h.2 i) shown (inner_mean w c S (λ g. Some (no_instance ∷ [])) T) l) (h.3 a i)),
  )

  with_group_inner : (S : Shape) (ks : Keys) (T T' : OptPipe) → SameInner S T T' → SameStep S (Step.GroupBy ks T) (Step.GroupBy ks T')
  unfolding mean steps_shape pipe_results
  with_group_inner S ks T T' h = (
    within-append (keys_hierarchies ks) (keys_hierarchies ks) (inner_hierarchies T') (inner_hierarchies T) (same_within (keys_hierarchies ks)) h.0,
    ap (λ o. if keys_typed w.model c S ks then option_and_then (grouped_shape w.model S (group_keys ks)) o else None) (h.1 no_shape),
    λ a l f. chains_agree (λ shown. grouping_mean w (group_keys ks) shown (inner_mean w c S (λ g. Some (no_instance ∷ [])) T') l)
        (λ shown. grouping_mean w (group_keys ks) shown (inner_mean w c S (λ g. Some (no_instance ∷ [])) T) l) (keys_shown w c ks)
        (λ shown k. grouping_agree S (group_keys ks) shown (inner_mean w c S (λ g. Some (no_instance ∷ [])) T') (inner_mean w c S (λ g. Some (no_instance ∷ [])) T) l f
        (λ x b. h.2 a (λ g. Some (no_instance ∷ [])) x b)),
  )

  with_branches : (S : Shape) (ps qs : Pipes) → SameBranches S ps qs → SameStep S (Step.Concat ps) (Step.Concat qs)
  unfolding mean steps_shape pipe_results
  with_branches S ps qs h = (h.0, ap (λ bs. option_and_then (concat_shape w.model) (all_some bs)) h.1, λ a l f. ap joined (h.2 a l f))

  with_join : RelatedFitIn A w → (S : Shape) (outer : Bool) (n a : Name) (v : Navigation) (T T' : OptPipe) → join_navigation w.model S n ≡ Some v → SameInner (set_shape v.target) T T'
      → SameStep S (Step.Join outer n a T) (Step.Join outer n a T')
  unfolding mean steps_shape pipe_results
  with_join J S outer n a v T T' e h = (
    h.0,
    chains_agree (λ v. option_and_then (λ R. then_some (is_free w.model S a) (joined_shape outer a S R)) (inner_shape w.model c (set_shape v.target) (set_shape v.target) T'))
        (λ v. option_and_then (λ R. then_some (is_free w.model S a) (joined_shape outer a S R)) (inner_shape w.model c (set_shape v.target) (set_shape v.target) T)) (join_navigation w.model S n)
        (λ u k. let P : Navigation → Type 0 = λ u. option_and_then (λ R. then_some (is_free w.model S a) (joined_shape outer a S R)) (inner_shape w.model c (set_shape u.target) (set_shape u.target) T')
        ≡ option_and_then (λ R. then_some (is_free w.model S a) (joined_shape outer a S R)) (inner_shape w.model c (set_shape u.target) (set_shape u.target) T) in
        subst P (some_value (sym e ∙ k)) (ap (λ o. option_and_then (λ R. then_some (is_free w.model S a) (joined_shape outer a S R)) o) (h.1 (set_shape v.target)))),
    λ x l f. means x l,
  )
    where
      run : OptPipe → List Instance → Option Navigation → Outcome
      run T l o = elim o [ None ↦ None | Some v ↦ joined (map (λ i. option_map (bound_to outer a i) (inner_mean w c (set_shape v.target) (λ r. Some r) T (related_rows w v i))) l) ]

      means : A w → (l : List Instance) → run T' l (join_navigation w.model S n) ≡ run T l (join_navigation w.model S n)
      means x l =
          ap (run T' l) e ∙ (λ i. joined (map (λ j. option_map (bound_to outer a j) (h.2 x (λ r. Some r) (related_rows w v j) (J S n v j x e) i)) l)) ∙ sym (ap (run T l) e)

  with_climb : (S : Shape) (up : Bool) (h : HierName) (p : Path) (T T' : Pipe) (d : Option ℕ) (keep : Bool) → is_long T ≡ true → is_long T' ≡ true → SameMeaning A w c S T T'
      → SameStep S (Step.Climb up h p T d keep) (Step.Climb up h p T' d keep)
  unfolding mean steps_shape pipe_results
  with_climb S up h p T T' d keep long long' e = (
    within-append (h ∷ []) (h ∷ []) (hierarchies T') (hierarchies T) (same_within (h ∷ [])) e.0,
    (λ i. then_some (is_node_path w.model S h p && is_distance d && (long' ∙ sym long) i && is_some_and (λ R. is_node_path w.model R h p) (e.1 i)) S),
    λ a l f. ap (run l) (e.2 a l f),
  )
    where
      run : List Instance → Outcome → Outcome
      run l o = elim (hierarchy_at w.model h) [ None ↦ None | Some f ↦ option_and_then (λ r. refused_at_beyond (map (λ i. lookup w i p) (l ++ r)) (climbed w up f p d keep r l)) o ]

  -- another pipeline that chooses the nodes of a recursive rollup
  with_recursive : NodesFitIn A w → (h : HierName) (f : HierarchyPlace) (p : Path) (T T' : OptPipe) → hierarchy_at w.model h ≡ Some f → SameInner (set_shape f.type) T T'
      → SameKey (Key.Recursive h p T) (Key.Recursive h p T')
  unfolding mean steps_shape pipe_results
  with_recursive N h f p T T' e k = (
    within-append (h ∷ []) (h ∷ []) (inner_hierarchies T') (inner_hierarchies T) (same_within (h ∷ [])) k.0,
    (λ S. ap (λ b. is_node_path w.model S h p && b) (ap (is_some_and (leaves T')) e ∙ ap (is_some_and (λ R. is_some_and (λ t. t == f.type) (root_type R))) (k.1 (set_shape f.type)) ∙ sym (ap (is_some_and (leaves T)) e))),
    (λ ks. refl),
    λ a. ap (run T') e ∙ ap (option_map shown_of) (k.2 a (λ l. Some l) (rows w f.set) (N h f a e)) ∙ sym (ap (run T) e),
  )
    where
      leaves : OptPipe → HierarchyPlace → Bool
      leaves T g = is_some_and (λ R. is_some_and (λ t. t == g.type) (root_type R)) (inner_shape w.model c (set_shape g.type) (set_shape g.type) T)

      run : OptPipe → Option HierarchyPlace → Option (List ℕ)
      run T o = elim o [ None ↦ None | Some g ↦ option_map shown_of (inner_mean w c (set_shape g.type) (λ l. Some l) T (rows w g.set)) ]

  with_key : (k k' : Key) (ks : Keys) → SameKey k k' → SameKeys (Keys.MoreKeys k ks) (Keys.MoreKeys k' ks)
  unfolding mean steps_shape pipe_results
  with_key k k' ks h = (
    within-append (key_hierarchies k') (key_hierarchies k) (keys_hierarchies ks) (keys_hierarchies ks) h.0 (same_within (keys_hierarchies ks)),
    (λ S. ap (λ b. b && keys_typed w.model c S ks) (h.1 S)),
    h.2 ks,
    λ a. ap (λ o. option_and_then (λ xs. option_map (λ ys. xs ++ ys) (keys_shown w c ks)) o) (h.3 a),
  )

  with_keys : (k : Key) (ks ks' : Keys) → SameKeys ks ks' → SameKeys (Keys.MoreKeys k ks) (Keys.MoreKeys k ks')
  unfolding mean steps_shape pipe_results
  with_keys k ks ks' h = (
    within-append (key_hierarchies k) (key_hierarchies k) (keys_hierarchies ks') (keys_hierarchies ks) (same_within (key_hierarchies k)) h.0,
    (λ S. ap (λ b. key_typed w.model c S k && b) (h.1 S)),
    behind_key k ks ks' h.2,
    λ a. ap (λ o. option_and_then (λ xs. option_map (λ ys. xs ++ ys) o) (key_shown w c k)) (h.3 a),
  )

  with_inner : (S : Shape) (p q : Pipe) → is_long p ≡ true → is_long q ≡ true → SameMeaning A w c S p q → SameInner S (OptPipe.SomePipe p) (OptPipe.SomePipe q)
  unfolding mean steps_shape pipe_results
  with_inner S p q long long' h = (h.0, (λ d. λ i. if (long' ∙ sym long) i then h.1 i else None), λ a f l k. h.2 a l k)

  -- another branch
  with_branch : (S : Shape) (p q : Pipe) (ps : Pipes) → is_long p ≡ true → is_long q ≡ true → SameMeaning A w c S p q → SameBranches S (Pipes.MorePipes p ps) (Pipes.MorePipes q ps)
  unfolding mean steps_shape pipe_results
  with_branch S p q ps long long' h = (
    within-append (hierarchies q) (hierarchies p) (branch_hierarchies ps) (branch_hierarchies ps) h.0 (same_within (branch_hierarchies ps)),
    (λ i. (if (long' ∙ sym long) i then h.1 i else None) ∷ branch_shapes w.model c S ps),
    λ a l k. (λ i. h.2 a l k i ∷ branch_means w c S ps l),
  )

  with_other_branches : (S : Shape) (p : Pipe) (ps qs : Pipes) → SameBranches S ps qs → SameBranches S (Pipes.MorePipes p ps) (Pipes.MorePipes p qs)
  unfolding mean steps_shape pipe_results
  with_other_branches S p ps qs h = (
    within-append (hierarchies p) (hierarchies p) (branch_hierarchies qs) (branch_hierarchies ps) (same_within (hierarchies p)) h.0,
    ap (λ bs. (if is_long p then steps_shape w.model c S p else None) ∷ bs) h.1,
    λ a l k. ap (λ bs. mean w c S p l ∷ bs) (h.2 a l k),
  )

  -- steps, keys and inner pipelines respect them
  respected : StepFits A w c → NodesFitIn A w → RelatedFitIn A w → Respected w.model c (SameMeaning A w c) SameStep SameInner SameBranches SameKey SameKeys
  respected F N J = record {
    with_step = with_step;
    with_rest = with_rest F;
    with_inner = with_inner;
    with_branch = with_branch;
    with_other_branches = with_other_branches;
    with_group_keys = with_group_keys;
    with_group_inner = with_group_inner;
    with_branches = with_branches;
    with_join = with_join J;
    with_climb = with_climb;
    with_recursive = with_recursive N;
    with_key = with_key;
    with_keys = with_keys;
  }

-- whatever a rule makes of a typed pipeline, if it keeps typing and meaning in place
pub every_result : (A : World → Type 0) → TypingKeepsLawful (λ m. Unit {0}) → MeanFits A → NodesFit A → RelatedFit A → (r : Rule) → KeepsMeaningInPlace A r
    → (w : World) (c : Customs) (S S' : Shape) (p : Pipe) → IsTrue (customs_typed w.model c) → IsTrue (is_lawful w.model S) → Types w.model c S p S'
    → Each (λ q. IsTrue (is_long q) × SameMeaning A w c S p q) (pipe_results r w.model c S false p)
unfolding mean steps_shape pipe_results
every_result A T M N J r K w c S S' p k law t =
    let F : StepFits A w c = λ S S' s l out a b e f o. M w c S S' (Pipe.Then s Pipe.End) l out a k b (refl, ap (option_and_then (λ (U : Shape). Some U)) e) f (ap (option_and_then (λ (U : List Instance). Some U)) o) in
    pipe_each w.model c (SameMeaning A w c) (SameStep A w c) (SameInner A w c) (SameBranches A w c) (SameKey A w c) (SameKeys A w c) (respected A w c F (N w) (J w)) r
    (λ S S' before s ss ss' l e o. K w c S S' before s ss ss' k l e o)
    (λ S S' s l e. T w.model c S S' (Pipe.Then s Pipe.End) tt l (refl, ap (option_and_then (λ (U : Shape). Some U)) e))
    p S S' false law t.1

-- what a rule that keeps typing and meaning in place makes at any place
pub replacement : (A : World → Type 0) → TypingKeepsLawful (λ m. Unit {0}) → MeanFits A → NodesFit A → RelatedFit A → (r : Rule) → KeepsMeaningInPlace A r → KeepsMeaningInWorlds A (IsRewrite r)
replacement A T M N J r K w c S S' p q k law t x =
    let P : Pipe → Type 0 = λ q. IsTrue (is_long q) × SameMeaning A w c S p q in
    each-contains P (filter (λ q. is_some (steps_shape w.model c S q)) (pipe_results r w.model c S false p)) q
    (each-filter P (λ q. is_some (steps_shape w.model c S q)) (pipe_results r w.model c S false p) (every_result A T M N J r K w c S S' p k law t)) x
