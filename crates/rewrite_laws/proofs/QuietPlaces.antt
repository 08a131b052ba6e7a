-- The law of replacement for what typing comes to: a rule that keeps shape and quiet in place keeps them at every place.
use Rattle.std.proofs.Common.{◌==◌, ℕ, ◌≡◌, refl, sym, ◌∙◌, ap, Bool, true, false, ◌&&◌, ◌||◌, not, ◌∷◌, Option, Some, None, IsTrue, filter}
use Rattle.std.specs.Prelude.{option_and_then, unwrap_or, if◌then◌else◌, is_some}
use Rattle.std.specs.Bool.{then_some}
use Rattle.edm_model.specs.Models.{Model, Navigation}
use Rattle.edm_model.specs.LookUps.{HierarchyPlace}
use Rattle.edm_values.specs.Lists.{is_some_and, all_some}
use Rattle.edm_values.specs.Names.{Name, Path}
use Rattle.edm_values.proofs.EachLemmas.{Each, each-contains, each-filter}
use Rattle.apply_ast.specs.Trees.{HierName, Pipe, Step, OptPipe, Pipes, Key, Keys, pipe, is_long, is_distance}
use Rattle.context_typing.specs.Outcomes.{outcome, steps_outcome}
use Rattle.context_typing.specs.Shapes.{Shape, set_shape}
use Rattle.context_typing.specs.Typing.{hierarchy_at, Customs, group_keys, is_lawful, no_shape, steps_shape, step_shape, inner_shape, branch_shapes, key_typed, keys_typed, grouped_shape, concat_shape, joined_shape, is_free, is_node_path, is_risky, root_type, join_navigation, after, is_quiet, step_quiet, inner_quiet, branches_quiet, key_quiet, keys_quiet, customs_typed}
use Rattle.context_typing.specs.TypingLaws.{TypingKeepsLawful}
use Rattle.context_typing.proofs.WalkFacts.{outcome-parts}
use Rattle.rewrite_laws.specs.Rewrites.{Rule, pipe_results}
use Rattle.rewrite_laws.specs.RewriteLaws.{KeepsOutcomeInPlace, RuleKeepsOutcome}
use Rattle.rewrite_laws.proofs.EachPlace.{Respected, behind_key, pipe_each}

module _ (m : Model) (c : Customs) where
  -- they lead to the same shape, and are quiet where the others are
  abbrev pub SameSteps : Shape → Pipe → Pipe → Type 0
  SameSteps S p q = (steps_shape m c S q ≡ steps_shape m c S p) × (is_quiet m c S q ≡ is_quiet m c S p)

  abbrev pub SameStep : Shape → Step → Step → Type 0
  SameStep S s s' = (step_shape m c S s' ≡ step_shape m c S s) × (step_quiet m c S s' ≡ step_quiet m c S s)

  abbrev pub SameInner : Shape → OptPipe → OptPipe → Type 0
  SameInner S T T' = ((d : Shape) → inner_shape m c S d T' ≡ inner_shape m c S d T) × (inner_quiet m c S T' ≡ inner_quiet m c S T)

  abbrev pub SameBranches : Shape → Pipes → Pipes → Type 0
  SameBranches S ps qs = (branch_shapes m c S qs ≡ branch_shapes m c S ps) × (branches_quiet m c S qs ≡ branches_quiet m c S ps)

  abbrev pub SameKey : Key → Key → Type 0
  SameKey k k' = ((S : Shape) → key_typed m c S k' ≡ key_typed m c S k) × ((ks : Keys) → group_keys (Keys.MoreKeys k' ks) ≡ group_keys (Keys.MoreKeys k ks)) × ((S : Shape) → key_quiet m c S k' ≡ key_quiet m c S k)

  abbrev pub SameKeys : Keys → Keys → Type 0
  SameKeys ks ks' = ((S : Shape) → keys_typed m c S ks' ≡ keys_typed m c S ks) × (group_keys ks' ≡ group_keys ks) × ((S : Shape) → keys_quiet m c S ks' ≡ keys_quiet m c S ks)

  with_step : (S : Shape) (s s' : Step) (p : Pipe) → SameStep S s s' → SameSteps S (Pipe.Then s p) (Pipe.Then s' p)
  unfolding steps_shape is_quiet
  with_step S s s' p h = (ap (option_and_then (λ T. steps_shape m c T p)) h.0, λ i. h.1 i && is_quiet m c (unwrap_or (h.0 i) S) p)

  with_rest : (S S' : Shape) (s : Step) (p q : Pipe) → IsTrue (is_lawful m S) → step_shape m c S s ≡ Some S' → SameSteps S' p q → SameSteps S (Pipe.Then s p) (Pipe.Then s q)
  unfolding steps_shape is_quiet
  with_rest S S' s p q law e h =
      let at : after m c S s ≡ S' = ap (λ o. unwrap_or o S) e in (
        ap (option_and_then (λ T. steps_shape m c T q)) e ∙ h.0 ∙ sym (ap (option_and_then (λ T. steps_shape m c T p)) e),
        ap (λ T. step_quiet m c S s && is_quiet m c T q) at ∙ ap (λ b. step_quiet m c S s && b) h.1 ∙ sym (ap (λ T. step_quiet m c S s && is_quiet m c T p) at),
      )

  with_inner : (S : Shape) (p q : Pipe) → is_long p ≡ true → is_long q ≡ true → SameSteps S p q → SameInner S (OptPipe.SomePipe p) (OptPipe.SomePipe q)
  unfolding steps_shape is_quiet
  with_inner S p q l k h = ((λ d i. if (k ∙ sym l) i then h.0 i else None), h.1)

  with_branch : (S : Shape) (p q : Pipe) (ps : Pipes) → is_long p ≡ true → is_long q ≡ true → SameSteps S p q → SameBranches S (Pipes.MorePipes p ps) (Pipes.MorePipes q ps)
  unfolding steps_shape is_quiet
  with_branch S p q ps l k h = ((λ i. (if (k ∙ sym l) i then h.0 i else None) ∷ branch_shapes m c S ps), ap (λ b. b && branches_quiet m c S ps) h.1)

  with_other_branches : (S : Shape) (p : Pipe) (ps qs : Pipes) → SameBranches S ps qs → SameBranches S (Pipes.MorePipes p ps) (Pipes.MorePipes p qs)
  unfolding steps_shape is_quiet
  with_other_branches S p ps qs h = (ap (λ os. (if is_long p then steps_shape m c S p else None) ∷ os) h.0, ap (λ b. is_quiet m c S p && b) h.1)

  with_group_keys : (S : Shape) (ks ks' : Keys) (T : OptPipe) → SameKeys ks ks' → SameStep S (Step.GroupBy ks T) (Step.GroupBy ks' T)
  unfolding steps_shape is_quiet
  with_group_keys S ks ks' T h = (
    (λ i. if h.0 S i then option_and_then (grouped_shape m S (h.1 i)) (inner_shape m c S no_shape T) else None),
    ap (λ b. b && inner_quiet m c S T) (h.2 S),
  )

  with_group_inner : (S : Shape) (ks : Keys) (T T' : OptPipe) → SameInner S T T' → SameStep S (Step.GroupBy ks T) (Step.GroupBy ks T')
  unfolding steps_shape is_quiet
  with_group_inner S ks T T' h = (
    ap (λ o. if keys_typed m c S ks then option_and_then (grouped_shape m S (group_keys ks)) o else None) (h.0 no_shape),
    ap (λ b. keys_quiet m c S ks && b) h.1,
  )

  with_branches : (S : Shape) (ps qs : Pipes) → SameBranches S ps qs → SameStep S (Step.Concat ps) (Step.Concat qs)
  unfolding steps_shape is_quiet
  with_branches S ps qs h = (ap (λ os. option_and_then (concat_shape m) (all_some os)) h.0, h.1)

  with_join : (S : Shape) (outer : Bool) (n a : Name) (v : Navigation) (T T' : OptPipe) → join_navigation m S n ≡ Some v → SameInner (set_shape v.target) T T' → SameStep S (Step.Join outer n a T) (Step.Join outer n a T')
  unfolding steps_shape is_quiet
  with_join S outer n a v T T' e h = (
    ap (option_and_then (leads T')) e ∙ ap (option_and_then (λ R. then_some (is_free m S a) (joined_shape outer a S R))) (h.0 (set_shape v.target)) ∙ sym (ap (option_and_then (leads T)) e),
    ap (is_some_and (calm T')) e ∙ h.1 ∙ sym (ap (is_some_and (calm T)) e),
  )
    where
      leads : OptPipe → Navigation → Option Shape
      leads T v = option_and_then (λ R. then_some (is_free m S a) (joined_shape outer a S R)) (inner_shape m c (set_shape v.target) (set_shape v.target) T)

      calm : OptPipe → Navigation → Bool
      calm T v = inner_quiet m c (set_shape v.target) T

  with_climb : (S : Shape) (up : Bool) (h : HierName) (p : Path) (T T' : Pipe) (d : Option ℕ) (keep : Bool) → is_long T ≡ true → is_long T' ≡ true → SameSteps S T T'
      → SameStep S (Step.Climb up h p T d keep) (Step.Climb up h p T' d keep)
  unfolding steps_shape is_quiet
  with_climb S up h p T T' d keep long long' e = (
    (λ i. then_some (is_node_path m S h p && is_distance d && (long' ∙ sym long) i && is_some_and (λ R. is_node_path m R h p) (e.0 i)) S),
    λ i. not (is_risky S p) && e.1 i && is_some_and (λ R. not (is_risky R p)) (e.0 i),
  )

  with_recursive : (h : HierName) (f : HierarchyPlace) (p : Path) (T T' : OptPipe) → hierarchy_at m h ≡ Some f → SameInner (set_shape f.type) T T' → SameKey (Key.Recursive h p T) (Key.Recursive h p T')
  unfolding steps_shape is_quiet
  with_recursive h f p T T' e k = (
    (λ S. ap (λ b. is_node_path m S h p && b) (ap (is_some_and (leaves T')) e ∙ ap (is_some_and (λ R. is_some_and (λ t. t == f.type) (root_type R))) (k.0 (set_shape f.type)) ∙ sym (ap (is_some_and (leaves T)) e))),
    (λ ks. refl),
    λ S. ap (λ b. not (is_risky S p) && b) (ap (is_some_and (calm T')) e ∙ k.1 ∙ sym (ap (is_some_and (calm T)) e)),
  )
    where
      leaves : OptPipe → HierarchyPlace → Bool
      leaves T g = is_some_and (λ R. is_some_and (λ t. t == g.type) (root_type R)) (inner_shape m c (set_shape g.type) (set_shape g.type) T)

      calm : OptPipe → HierarchyPlace → Bool
      calm T g = inner_quiet m c (set_shape g.type) T

  with_key : (k k' : Key) (ks : Keys) → SameKey k k' → SameKeys (Keys.MoreKeys k ks) (Keys.MoreKeys k' ks)
  unfolding steps_shape is_quiet
  with_key k k' ks h = ((λ S. ap (λ b. b && keys_typed m c S ks) (h.0 S)), h.1 ks, λ S. ap (λ b. b && keys_quiet m c S ks) (h.2 S))

  with_keys : (k : Key) (ks ks' : Keys) → SameKeys ks ks' → SameKeys (Keys.MoreKeys k ks) (Keys.MoreKeys k ks')
  unfolding steps_shape is_quiet
  with_keys k ks ks' h = ((λ S. ap (λ b. key_typed m c S k && b) (h.0 S)), behind_key k ks ks' h.1, λ S. ap (λ b. key_quiet m c S k && b) (h.2 S))

  -- steps, keys and inner pipelines respect them
  pub respected : Respected m c SameSteps SameStep SameInner SameBranches SameKey SameKeys
  respected = record {
    with_step = with_step;
    with_rest = with_rest;
    with_inner = with_inner;
    with_branch = with_branch;
    with_other_branches = with_other_branches;
    with_group_keys = with_group_keys;
    with_group_inner = with_group_inner;
    with_branches = with_branches;
    with_join = with_join;
    with_climb = with_climb;
    with_recursive = with_recursive;
    with_key = with_key;
    with_keys = with_keys;
  }

  -- steps that come to the same lead to the same shape, and are quiet where the others are
  pub same-outcome : (S S' : Shape) (p q : Pipe) → steps_shape m c S p ≡ Some S' → steps_outcome m c S q ≡ steps_outcome m c S p → SameSteps S p q
  same-outcome S S' p q e h =
      let old : steps_outcome m c S p ≡ Some (record { shape = S'; quiet = is_quiet m c S p }) = ap (λ o. outcome o (is_quiet m c S p)) e in
      let new = outcome-parts (steps_shape m c S q) (is_quiet m c S q) (record { shape = S'; quiet = is_quiet m c S p }) (h ∙ old) in
      (new.0 ∙ sym e, new.1)

  -- whatever a rule that keeps them in place makes of a typed pipeline
  pub every_outcome : TypingKeepsLawful (λ m. Unit {0}) → (r : Rule) → KeepsOutcomeInPlace r → (S S' : Shape) (before : Bool) (p : Pipe) → IsTrue (customs_typed m c) → IsTrue (is_lawful m S) → steps_shape m c S p ≡ Some S'
      → Each (λ q. IsTrue (before || is_long q) × SameSteps S p q) (pipe_results r m c S before p)
  unfolding steps_shape
  every_outcome T r K S S' before p k law e =
      pipe_each m c SameSteps SameStep SameInner SameBranches SameKey SameKeys respected r
      (λ S S' before s ss ss' l e o. let h = K m c S S' before s ss ss' k l e o in (h.0, same-outcome S S' (pipe (s ∷ ss)) (pipe ss') e h.1))
      (λ S S' s l e. T m c S S' (Pipe.Then s Pipe.End) tt l (refl, ap (option_and_then (λ (U : Shape). Some U)) e))
      p S S' before law e

-- what a rule that keeps them in place makes at any place
pub replacement_at_places : TypingKeepsLawful (λ m. Unit {0}) → (r : Rule) → KeepsOutcomeInPlace r → RuleKeepsOutcome r
replacement_at_places T r K m c S S' p q t x =
    let P : Pipe → Type 0 = λ q. IsTrue (is_long q) × SameSteps m c S p q in
    let h = each-contains P (filter (λ q. is_some (steps_shape m c S q)) (pipe_results r m c S false p)) q
    (each-filter P (λ q. is_some (steps_shape m c S q)) (pipe_results r m c S false p) (every_outcome m c T r K S S' false p t.customs t.lawful t.typed.1)) x in
    λ i. outcome (h.1.0 i) (h.1.1 i)
