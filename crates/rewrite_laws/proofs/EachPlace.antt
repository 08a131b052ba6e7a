-- What holds at the place of a rule holds of what the rule makes at any place, for relations that steps, keys and inner pipelines respect.
use Rattle.std.proofs.Common.{◌≡◌, refl, sym, ◌==◌, subst, ℕ, Bool, true, false, ◌&&◌, ◌||◌, List, [], ◌∷◌, ◌++◌, Option, Some, None, IsTrue, map}
use Rattle.std.specs.Prelude.{option_and_then, option_to_list, unwrap_or, if◌then◌else◌}
use Rattle.std.specs.Bool.{then_some}
use Rattle.edm_model.specs.Models.{Model, Navigation}
use Rattle.edm_model.specs.LookUps.{HierarchyPlace}
use Rattle.edm_values.specs.Lists.{is_some_and, all_some}
use Rattle.edm_values.specs.Names.{Name, Path}
use Rattle.edm_values.proofs.EachLemmas.{Each, each-append, each-map, then_some-holds, and-left, and-right, all_some-head, all_some-tail}
use Rattle.edm_values.proofs.OptionFacts.{chained, some_and, if_else-parts}
use Rattle.apply_ast.specs.Trees.{HierName, Pipe, Step, OptPipe, Pipes, Key, Keys, steps, pipe, is_long, is_distance}
use Rattle.context_typing.specs.Shapes.{Shape, set_shape}
use Rattle.context_typing.specs.Typing.{hierarchy_at, Customs, RollupPart, group_keys, is_lawful, no_shape, steps_shape, step_shape, inner_shape, branch_shapes, key_typed, keys_typed, grouped_shape, concat_shape, joined_shape, is_free, is_node_path, root_type, join_navigation, after}
use Rattle.context_typing.proofs.WalkFacts.{pipe-steps}
use Rattle.rewrite_laws.specs.Rewrites.{Rule, pipe_results, inner_results, branch_results, key_results, keys_results, step_results}
use Rattle.rewrite_laws.proofs.FilterRuns.{each-place}

-- relations of pipelines and of their parts that each step, key and inner pipeline respects
pub record Respected (m : Model) (c : Customs) (SameSteps : Shape → Pipe → Pipe → Type 0) (SameStep : Shape → Step → Step → Type 0) (SameInner : Shape → OptPipe → OptPipe → Type 0) (SameBranches : Shape → Pipes → Pipes → Type 0)
    (SameKey : Key → Key → Type 0) (SameKeys : Keys → Keys → Type 0) : Type 0 where
  pub with_step : (S : Shape) (s s' : Step) (p : Pipe) → SameStep S s s' → SameSteps S (Pipe.Then s p) (Pipe.Then s' p)
  pub with_rest : (S S' : Shape) (s : Step) (p q : Pipe) → IsTrue (is_lawful m S) → step_shape m c S s ≡ Some S' → SameSteps S' p q → SameSteps S (Pipe.Then s p) (Pipe.Then s q)
  pub with_inner : (S : Shape) (p q : Pipe) → is_long p ≡ true → is_long q ≡ true → SameSteps S p q → SameInner S (OptPipe.SomePipe p) (OptPipe.SomePipe q)
  pub with_branch : (S : Shape) (p q : Pipe) (ps : Pipes) → is_long p ≡ true → is_long q ≡ true → SameSteps S p q → SameBranches S (Pipes.MorePipes p ps) (Pipes.MorePipes q ps)
  pub with_other_branches : (S : Shape) (p : Pipe) (ps qs : Pipes) → SameBranches S ps qs → SameBranches S (Pipes.MorePipes p ps) (Pipes.MorePipes p qs)
  pub with_group_keys : (S : Shape) (ks ks' : Keys) (T : OptPipe) → SameKeys ks ks' → SameStep S (Step.GroupBy ks T) (Step.GroupBy ks' T)
  pub with_group_inner : (S : Shape) (ks : Keys) (T T' : OptPipe) → SameInner S T T' → SameStep S (Step.GroupBy ks T) (Step.GroupBy ks T')
  pub with_branches : (S : Shape) (ps qs : Pipes) → SameBranches S ps qs → SameStep S (Step.Concat ps) (Step.Concat qs)
  pub with_join : (S : Shape) (outer : Bool) (n a : Name) (v : Navigation) (T T' : OptPipe) → join_navigation m S n ≡ Some v → SameInner (set_shape v.target) T T' → SameStep S (Step.Join outer n a T) (Step.Join outer n a T')
  pub with_climb : (S : Shape) (up : Bool) (h : HierName) (p : Path) (T T' : Pipe) (d : Option ℕ) (keep : Bool) → is_long T ≡ true → is_long T' ≡ true → SameSteps S T T'
      → SameStep S (Step.Climb up h p T d keep) (Step.Climb up h p T' d keep)
  pub with_recursive : (h : HierName) (f : HierarchyPlace) (p : Path) (T T' : OptPipe) → hierarchy_at m h ≡ Some f → SameInner (set_shape f.type) T T' → SameKey (Key.Recursive h p T) (Key.Recursive h p T')
  pub with_key : (k k' : Key) (ks : Keys) → SameKey k k' → SameKeys (Keys.MoreKeys k ks) (Keys.MoreKeys k' ks)
  pub with_keys : (k : Key) (ks ks' : Keys) → SameKeys ks ks' → SameKeys (Keys.MoreKeys k ks) (Keys.MoreKeys k ks')

-- keys with other keys behind the first
pub behind_key : (k : Key) (ks ks' : Keys) → group_keys ks' ≡ group_keys ks → group_keys (Keys.MoreKeys k ks') ≡ group_keys (Keys.MoreKeys k ks)
behind_key (Key.Plain p) ks ks' e = λ i. record { plain = p ∷ (e i).plain; parts = (e i).parts }
behind_key (Key.Rollup all ps) ks ks' e = λ i. record { plain = (e i).plain; parts = RollupPart.Levels all ps ∷ (e i).parts }
behind_key (Key.Recursive h p T) ks ks' e = λ i. record { plain = (e i).plain; parts = RollupPart.Nodes h p ∷ (e i).parts }

-- the first step of typed steps has a typing, and the others have one behind it
pub typed_first : (m : Model) (c : Customs) (S S' : Shape) (s : Step) (p : Pipe) → steps_shape m c S (Pipe.Then s p) ≡ Some S'
    → (step_shape m c S s ≡ Some (after m c S s)) × (steps_shape m c (after m c S s) p ≡ Some S')
unfolding steps_shape
typed_first m c S S' s p e = go (step_shape m c S s) e
  where
    go : (o : Option Shape) → option_and_then (λ T. steps_shape m c T p) o ≡ Some S' → (o ≡ Some (unwrap_or o S)) × (steps_shape m c (unwrap_or o S) p ≡ Some S')
    go None k = cc
    go (Some T) k = (refl, k)

either_true : (b : Bool) → IsTrue (b || true)
either_true true = refl
either_true false = refl

module _ (m : Model) (c : Customs) (SameSteps : Shape → Pipe → Pipe → Type 0) (SameStep : Shape → Step → Step → Type 0) (SameInner : Shape → OptPipe → OptPipe → Type 0) (SameBranches : Shape → Pipes → Pipes → Type 0)
    (SameKey : Key → Key → Type 0) (SameKeys : Keys → Keys → Type 0) (R : Respected m c SameSteps SameStep SameInner SameBranches SameKey SameKeys) (r : Rule)
    (K : (S S' : Shape) (before : Bool) (s : Step) (ss ss' : List Step) → IsTrue (is_lawful m S) → steps_shape m c S (pipe (s ∷ ss)) ≡ Some S' → r m c S before s ss ≡ Some ss' → IsTrue (before || is_long (pipe ss')) × SameSteps S (pipe (s ∷ ss)) (pipe ss'))
    (L : (S S' : Shape) (s : Step) → IsTrue (is_lawful m S) → step_shape m c S s ≡ Some S' → IsTrue (is_lawful m S')) where
  abbrev Kept : Shape → Bool → Pipe → Pipe → Type 0
  Kept S before p q = IsTrue (before || is_long q) × SameSteps S p q

  -- the rule at the first step
  at_first : (S S' : Shape) (before : Bool) (s : Step) (p : Pipe) → IsTrue (is_lawful m S) → steps_shape m c S (Pipe.Then s p) ≡ Some S'
      → Each (Kept S before (Pipe.Then s p)) (map pipe (option_to_list (r m c S before s (steps p))))
  at_first S S' before s p law e = each-place (Kept S before (Pipe.Then s p)) (r m c S before s (steps p)) (λ ss k.
      let P : Pipe → Type 0 = λ q. Kept S before (Pipe.Then s q) (pipe ss) in
      let Q : Pipe → Type 0 = λ q. steps_shape m c S (Pipe.Then s q) ≡ Some S' in
      subst P (pipe-steps p) (K S S' before s (steps p) ss law (subst Q (sym (pipe-steps p)) e) k))

  mutual
    unfolding steps_shape pipe_results

    pub pipe_each : (p : Pipe) (S S' : Shape) (before : Bool) → IsTrue (is_lawful m S) → steps_shape m c S p ≡ Some S' → Each (Kept S before p) (pipe_results r m c S before p)
    pipe_each Pipe.End S S' before law e = tt
    pipe_each (Pipe.Then s p) S S' before law e =
        let t = typed_first m c S S' s p e in
        let here = map pipe (option_to_list (r m c S before s (steps p))) in
        let first = map (λ s'. Pipe.Then s' p) (step_results r m c S s) in
        let rest = map (Pipe.Then s) (pipe_results r m c (after m c S s) true p) in
        each-append (Kept S before (Pipe.Then s p)) (here ++ first) rest
        (each-append (Kept S before (Pipe.Then s p)) here first (at_first S S' before s p law e)
        (each-map (Kept S before (Pipe.Then s p)) (SameStep S s) (λ s'. Pipe.Then s' p) (λ s' h. (either_true before, R.with_step S s s' p h)) (step_results r m c S s)
        (step_each s S (after m c S s) law t.0)))
        (each-map (Kept S before (Pipe.Then s p)) (Kept (after m c S s) true p) (Pipe.Then s) (λ q h. (either_true before, R.with_rest S (after m c S s) s p q law t.0 h.1))
        (pipe_results r m c (after m c S s) true p) (pipe_each p (after m c S s) S' true (L S (after m c S s) s law t.0) t.1))

    inner_each : (T : OptPipe) (S d S' : Shape) → IsTrue (is_lawful m S) → inner_shape m c S d T ≡ Some S' → Each (SameInner S T) (inner_results r m c S T)
    inner_each OptPipe.NoPipe S d S' law e = tt
    inner_each (OptPipe.SomePipe p) S d S' law e =
        let t = if_else-parts (is_long p) (steps_shape m c S p) S' e in
        each-map (SameInner S (OptPipe.SomePipe p)) (Kept S false p) OptPipe.SomePipe (λ q h. R.with_inner S p q t.0 h.0 h.1) (pipe_results r m c S false p) (pipe_each p S S' false law t.1)

    branch_each : (ps : Pipes) (S : Shape) (Ss : List Shape) → IsTrue (is_lawful m S) → all_some (branch_shapes m c S ps) ≡ Some Ss → Each (SameBranches S ps) (branch_results r m c S ps)
    branch_each Pipes.NoPipes S Ss law e = tt
    branch_each (Pipes.MorePipes p ps) S Ss law e =
        let x = if is_long p then steps_shape m c S p else None in
        let t = all_some-head x (branch_shapes m c S ps) Ss e in
        let u = if_else-parts (is_long p) (steps_shape m c S p) t.0 t.1 in
        let v = all_some-tail x (branch_shapes m c S ps) Ss e in
        each-append (SameBranches S (Pipes.MorePipes p ps)) (map (λ q. Pipes.MorePipes q ps) (pipe_results r m c S false p)) (map (Pipes.MorePipes p) (branch_results r m c S ps))
        (each-map (SameBranches S (Pipes.MorePipes p ps)) (Kept S false p) (λ q. Pipes.MorePipes q ps) (λ q h. R.with_branch S p q ps u.0 h.0 h.1) (pipe_results r m c S false p) (pipe_each p S t.0 false law u.1))
        (each-map (SameBranches S (Pipes.MorePipes p ps)) (SameBranches S ps) (Pipes.MorePipes p) (λ qs h. R.with_other_branches S p ps qs h) (branch_results r m c S ps) (branch_each ps S v.0 law v.1))

    key_each : (k : Key) (S : Shape) → key_typed m c S k ≡ true → Each (SameKey k) (key_results r m c k)
    key_each (Key.Plain p) S e = tt
    key_each (Key.Rollup all ps) S e = tt
    key_each (Key.Recursive h p T) S e =
        let x = some_and (λ f. is_some_and (λ R. is_some_and (λ t. t == f.type) (root_type R)) (inner_shape m c (set_shape f.type) (set_shape f.type) T)) (hierarchy_at m h)
        (and-right (is_node_path m S h p) (is_some_and (λ f. is_some_and (λ R. is_some_and (λ t. t == f.type) (root_type R)) (inner_shape m c (set_shape f.type) (set_shape f.type) T)) (hierarchy_at m h)) e) in
        let y = some_and (λ R. is_some_and (λ t. t == (x.0).type) (root_type R)) (inner_shape m c (set_shape (x.0).type) (set_shape (x.0).type) T) x.2 in
        let P : Option HierarchyPlace → Type 0 = λ o. Each (SameKey (Key.Recursive h p T)) (elim o [ None ↦ [] | Some f ↦ map (Key.Recursive h p) (inner_results r m c (set_shape f.type) T) ]) in
        subst P (sym x.1)
        (each-map (SameKey (Key.Recursive h p T)) (SameInner (set_shape (x.0).type) T) (Key.Recursive h p) (λ T' k. R.with_recursive h x.0 p T T' x.1 k)
        (inner_results r m c (set_shape (x.0).type) T) (inner_each T (set_shape (x.0).type) (set_shape (x.0).type) y.0 refl y.1))

    keys_each : (ks : Keys) (S : Shape) → keys_typed m c S ks ≡ true → Each (SameKeys ks) (keys_results r m c ks)
    keys_each Keys.NoKeys S e = tt
    keys_each (Keys.MoreKeys k ks) S e =
        each-append (SameKeys (Keys.MoreKeys k ks)) (map (λ k'. Keys.MoreKeys k' ks) (key_results r m c k)) (map (Keys.MoreKeys k) (keys_results r m c ks))
        (each-map (SameKeys (Keys.MoreKeys k ks)) (SameKey k) (λ k'. Keys.MoreKeys k' ks) (λ k' h. R.with_key k k' ks h) (key_results r m c k)
        (key_each k S (and-left (key_typed m c S k) (keys_typed m c S ks) e)))
        (each-map (SameKeys (Keys.MoreKeys k ks)) (SameKeys ks) (Keys.MoreKeys k) (λ ks' h. R.with_keys k ks ks' h) (keys_results r m c ks)
        (keys_each ks S (and-right (key_typed m c S k) (keys_typed m c S ks) e)))

    step_each : (s : Step) (S S' : Shape) → IsTrue (is_lawful m S) → step_shape m c S s ≡ Some S' → Each (SameStep S s) (step_results r m c S s)
    step_each (Step.GroupBy ks T) S S' law e =
        let t = if_else-parts (keys_typed m c S ks) (option_and_then (grouped_shape m S (group_keys ks)) (inner_shape m c S no_shape T)) S' e in
        let u = chained (grouped_shape m S (group_keys ks)) (inner_shape m c S no_shape T) S' t.1 in
        each-append (SameStep S (Step.GroupBy ks T)) (map (λ ks'. Step.GroupBy ks' T) (keys_results r m c ks)) (map (Step.GroupBy ks) (inner_results r m c S T))
        (each-map (SameStep S (Step.GroupBy ks T)) (SameKeys ks) (λ ks'. Step.GroupBy ks' T) (λ ks' h. R.with_group_keys S ks ks' T h) (keys_results r m c ks) (keys_each ks S t.0))
        (each-map (SameStep S (Step.GroupBy ks T)) (SameInner S T) (Step.GroupBy ks) (λ T' h. R.with_group_inner S ks T T' h) (inner_results r m c S T) (inner_each T S no_shape u.0 law u.1))
    step_each (Step.Concat ps) S S' law e =
        let u = chained (concat_shape m) (all_some (branch_shapes m c S ps)) S' e in
        each-map (SameStep S (Step.Concat ps)) (SameBranches S ps) Step.Concat (λ qs h. R.with_branches S ps qs h) (branch_results r m c S ps) (branch_each ps S u.0 law u.1)
    step_each (Step.Join outer n a T) S S' law e =
        let u = chained (λ v. option_and_then (λ R. then_some (is_free m S a) (joined_shape outer a S R)) (inner_shape m c (set_shape v.target) (set_shape v.target) T)) (join_navigation m S n) S' e in
        let x = chained (λ R. then_some (is_free m S a) (joined_shape outer a S R)) (inner_shape m c (set_shape (u.0).target) (set_shape (u.0).target) T) S' u.2 in
        let P : Option Navigation → Type 0 = λ o. Each (SameStep S (Step.Join outer n a T)) (elim o [ None ↦ [] | Some v ↦ map (Step.Join outer n a) (inner_results r m c (set_shape v.target) T) ]) in
        subst P (sym u.1)
        (each-map (SameStep S (Step.Join outer n a T)) (SameInner (set_shape (u.0).target) T) (Step.Join outer n a) (λ T' h. R.with_join S outer n a u.0 T T' u.1 h)
        (inner_results r m c (set_shape (u.0).target) T) (inner_each T (set_shape (u.0).target) (set_shape (u.0).target) x.0 refl x.1))
    step_each (Step.Climb up h p T d keep) S S' law e =
        let b = then_some-holds (is_node_path m S h p && is_distance d && is_long T && is_some_and (λ R. is_node_path m R h p) (steps_shape m c S T)) S S' e in
        let long = and-right (is_node_path m S h p && is_distance d) (is_long T) (and-left (is_node_path m S h p && is_distance d && is_long T) (is_some_and (λ R. is_node_path m R h p) (steps_shape m c S T)) b) in
        let x = some_and (λ R. is_node_path m R h p) (steps_shape m c S T) (and-right (is_node_path m S h p && is_distance d && is_long T) (is_some_and (λ R. is_node_path m R h p) (steps_shape m c S T)) b) in
        each-map (SameStep S (Step.Climb up h p T d keep)) (Kept S false T) (λ T'. Step.Climb up h p T' d keep) (λ T' k. R.with_climb S up h p T T' d keep long k.0 k.1)
        (pipe_results r m c S false T) (pipe_each T S x.0 false law x.1)
    step_each s S S' law e = tt
