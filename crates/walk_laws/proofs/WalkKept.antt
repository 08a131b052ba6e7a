-- A typed pipeline of which no rule of a walk makes anything is what the walk makes of it.
use Rattle.std.proofs.Common.{◌≡◌, ◌==◌, refl, sym, ◌∙◌, ap, subst, ℕ, Bool, true, false, ◌&&◌, List, [], ◌∷◌, Option, Some, None, map, append-nil, Contains, IsTrue, arith, ◌⊎◌, inl, inr, if◌then◌else◌}
use Rattle.std.specs.Prelude.{option_and_then}
use Rattle.std.specs.Bool.{then_some}
use Rattle.edm_values.specs.Lists.{all_some, is_some_and}
use Rattle.edm_values.specs.Names.{Path}
use Rattle.edm_values.proofs.EachLemmas.{all_some-head, all_some-tail, and-left, and-right, then_some-holds}
use Rattle.edm_values.proofs.OptionFacts.{none_or}
use Rattle.edm_model.specs.Models.{Model, Navigation}
use Rattle.edm_model.specs.LookUps.{HierarchyPlace}
use Rattle.apply_ast.specs.Trees.{HierName, Key, Keys, OptPipe, Pipe, Pipes, Step, is_distance, is_long, steps}
use Rattle.context_typing.specs.Shapes.{Shape, set_shape}
use Rattle.context_typing.specs.Typing.{Customs, after, branch_shapes, concat_shape, group_keys, grouped_shape, hierarchy_at, inner_shape, is_free, is_node_path, join_navigation, joined_shape, key_typed, keys_typed, no_shape, root_type, step_shape, steps_shape}
use Rattle.rewrite_laws.specs.Rewrites.{Rule, branch_results, drop_identity, drop_idle, inner_results, key_results, keys_results, pipe_results, step_results}
use Rattle.rewrite_laws.proofs.EachPlace.{typed_first}
use Rattle.rewrite_laws.proofs.RuleLemmas.{after-filter}
use Rattle.walk_laws.specs.Walks.{Rules, All, Early, Segment, all_steps, front, is_late, judged, put_steps, rules_of, settled_branches, settled_inner, settled_key, settled_keys, settled_step, walk, whole, with_test, without_idle}
use Rattle.walk_laws.proofs.Unsplit.{append-none, map-none, nothing-parts}
use Rattle.walk_laws.proofs.WalkRest.{at-identity}
use Rattle.walk_laws.proofs.WalkEnd.{AtRest, EndsAt, EndsBare, aggregate-kept, bare-front, begins_here, climb-kept, filter-kept, front_segment, goes-behind, not-idle, not-in, not-passed, one-test, own, rest-behind, selection-kept, starts_idle, step-kept, whole-kept, Kept}
use Rattle.edm_values.proofs.OptionFacts.{chained, if_else-parts, some_and}

module _ (w : Rules) (m : Model) (c : Customs) where
  -- no rule of the walk makes anything of an inner pipeline, of branches, keys and steps
  abbrev InnerAtRest : Shape → OptPipe → Type 0
  InnerAtRest S T = (r : Rule) → Contains (rules_of w) r → inner_results r m c S T ≡ []

  abbrev BranchesAtRest : Shape → Pipes → Type 0
  BranchesAtRest S ps = (r : Rule) → Contains (rules_of w) r → branch_results r m c S ps ≡ []

  abbrev KeyAtRest : Key → Type 0
  KeyAtRest k = (r : Rule) → Contains (rules_of w) r → key_results r m c k ≡ []

  abbrev KeysAtRest : Keys → Type 0
  KeysAtRest ks = (r : Rule) → Contains (rules_of w) r → keys_results r m c ks ≡ []

  abbrev pub StepAtRest : Shape → Step → Type 0
  StepAtRest S s = (r : Rule) → Contains (rules_of w) r → step_results r m c S s ≡ []

  -- nor at the step itself
  abbrev pub NothingHere : Shape → Step → Type 0
  NothingHere S s = (before : Bool) × (ss : List Step) × ((r : Rule) → Contains (rules_of w) r → r m c S before s ss ≡ None)

-- a climb's pipeline is settled as it stands, from its steps behind the front
climb-settled : (w : Rules) (m : Model) (c : Customs) (S R : Shape) (up : Bool) (h : HierName) (p : Path) (T : Pipe) (d : Option ℕ) (keep : Bool) → steps_shape m c S T ≡ Some R → IsTrue (is_long T) → AtRest w m c S false T → (starts_idle w m c T ≡ false → Kept w m c S front T)
    → NothingHere w m c S (Step.Climb up h p T d keep) → whole (if is_late w then without_idle p (put_steps w m c S T front) else put_steps w m c S T front) ≡ T
unfolding put_steps steps_shape
climb-settled Early m c S R up h p T d keep e long rest f here = whole-kept Early m c S T long rest f
climb-settled All m c S R up h p Pipe.End d keep e long rest f here = cc
climb-settled All m c S R up h p (Pipe.Then Step.Identity Pipe.End) d keep e long rest f here = refl
climb-settled All m c S R up h p (Pipe.Then Step.Identity (Pipe.Then s q)) d keep e long rest f here =
    none_or (s ∷ steps q) (sym ((nothing-parts drop_identity m c S false Step.Identity (Pipe.Then s q) (rest drop_identity (at-identity All))).0))
climb-settled All m c S R up h p (Pipe.Then s q) d keep e long rest f here =
    ap whole (climb-kept m c S R here.0 up h p s q d keep here.1 e (here.2 drop_idle (16, omega arith, refl)) (f refl))
    ∙ whole-kept All m c S (Pipe.Then s q) long rest f

module _ (w : Rules) (m : Model) (c : Customs) where
  mutual
    unfolding pipe_results put_steps steps_shape

    pub pipe_rest : (p : Pipe) (S S' : Shape) (before : Bool) (g : Segment) (gs : List Segment) → steps_shape m c S p ≡ Some S' → AtRest w m c S before p → starts_idle w m c p ≡ false → EndsBare w m c g ⊎ EndsAt w m c S g p → Kept w m c S (g ∷ gs) p
    pipe_rest Pipe.End S S' before g gs e rest idle ends = sym (append-nil (all_steps (g ∷ gs)))
    pipe_rest (Pipe.Then Step.Identity q) S S' before g gs e rest idle ends = cc
    pipe_rest (Pipe.Then (Step.Filter x) q) S S' before g gs e rest idle ends =
        let t = typed_first m c S S' (Step.Filter x) q e in
        let k = after-filter m c S x in
        let behind'' : AtRest w m c S true q = subst (λ U. AtRest w m c U true q) k (rest-behind w m c S before (Step.Filter x) q rest) in
        filter-kept w m c S x q g gs (one-test w m c S before x q rest) (not-passed w m c S g x q ends) (not-in w m c S g x q ends)
        (pipe_rest q S S' true (with_test g (judged m S x)) gs (ap (λ U. steps_shape m c U q) (sym k) ∙ t.1) behind'' (not-idle w m c S q behind'') (goes-behind w m c S g x q ends))
    pipe_rest (Pipe.Then (Step.Aggregate as') q) S S' before g gs e rest idle ends =
        let s = Step.Aggregate as' in
        let t = typed_first m c S S' s q e in
        step-kept w m c S s q (g ∷ gs) (aggregate-kept m c w S g gs as' q ends) refl
        (pipe_rest q (after m c S s) S' true (own w m c S s) (g ∷ gs) t.1 (rest-behind w m c S before s q rest) (not-idle w m c (after m c S s) q (rest-behind w m c S before s q rest)) (inr (begins_here w m c S before s q rest)))
    pipe_rest (Pipe.Then (Step.TopBy u) q) S S' before g gs e rest idle ends =
        let s = Step.TopBy u in
        let t = typed_first m c S S' s q e in
        step-kept w m c S s q (g ∷ gs) (selection-kept m c w S g gs u q ends) refl
        (pipe_rest q (after m c S s) S' true (own w m c S s) (g ∷ gs) t.1 (rest-behind w m c S before s q rest) (not-idle w m c (after m c S s) q (rest-behind w m c S before s q rest)) (inr (begins_here w m c S before s q rest)))
    pipe_rest (Pipe.Then s q) S S' before g gs e rest idle ends =
        let t = typed_first m c S S' s q e in
        step-kept w m c S s q (g ∷ gs) refl (step_rest s S (after m c S s) t.0 (λ r k. (nothing-parts r m c S before s q (rest r k)).1) (before, steps q, λ r k. (nothing-parts r m c S before s q (rest r k)).0))
        (pipe_rest q (after m c S s) S' true (own w m c S s) (g ∷ gs) t.1 (rest-behind w m c S before s q rest) (not-idle w m c (after m c S s) q (rest-behind w m c S before s q rest)) (inr (begins_here w m c S before s q rest)))

    inner_rest : (T : OptPipe) (S d S' : Shape) → inner_shape m c S d T ≡ Some S' → InnerAtRest w m c S T → settled_inner w m c S T [] ≡ T
    inner_rest OptPipe.NoPipe S d S' e rest = refl
    inner_rest (OptPipe.SomePipe p) S d S' e rest =
        let t = if_else-parts (is_long p) (steps_shape m c S p) S' e in
        ap OptPipe.SomePipe (whole-kept w m c S p t.0 (λ r k. map-none OptPipe.SomePipe _ (rest r k)) (λ idle. pipe_rest p S S' false (front_segment w m c) [] t.1 (λ r k. map-none OptPipe.SomePipe _ (rest r k)) idle (inl (bare-front w m c))))

    branch_rest : (ps : Pipes) (S : Shape) (Ss : List Shape) → all_some (branch_shapes m c S ps) ≡ Some Ss → BranchesAtRest w m c S ps → settled_branches w m c S ps [] ≡ ps
    branch_rest Pipes.NoPipes S Ss e rest = refl
    branch_rest (Pipes.MorePipes p ps) S Ss e rest =
        let x = if is_long p then steps_shape m c S p else None in
        let t = all_some-head x (branch_shapes m c S ps) Ss e in
        let v = if_else-parts (is_long p) (steps_shape m c S p) t.0 t.1 in
        let more = all_some-tail x (branch_shapes m c S ps) Ss e in
        λ i. Pipes.MorePipes (whole-kept w m c S p v.0 (λ r k. map-none (λ q. Pipes.MorePipes q ps) _ (append-none (map (λ q. Pipes.MorePipes q ps) (pipe_results r m c S false p)) (map (Pipes.MorePipes p) (branch_results r m c S ps)) (rest r k)).0) (λ idle. pipe_rest p S t.0 false (front_segment w m c) [] v.1 (λ r k. map-none (λ q. Pipes.MorePipes q ps) _ (append-none (map (λ q. Pipes.MorePipes q ps) (pipe_results r m c S false p)) (map (Pipes.MorePipes p) (branch_results r m c S ps)) (rest r k)).0) idle (inl (bare-front w m c))) i)
        (branch_rest ps S more.0 more.1 (λ r k. map-none (Pipes.MorePipes p) _ (append-none (map (λ q. Pipes.MorePipes q ps) (pipe_results r m c S false p)) (map (Pipes.MorePipes p) (branch_results r m c S ps)) (rest r k)).1) i)

    key_rest : (k : Key) (S : Shape) → key_typed m c S k ≡ true → KeyAtRest w m c k → settled_key w m c k [] ≡ k
    key_rest (Key.Plain p) S e rest = refl
    key_rest (Key.Rollup all ps) S e rest = refl
    key_rest (Key.Recursive h p T) S e rest =
        let x = some_and (λ f. is_some_and (λ R. is_some_and (λ t. t == f.type) (root_type R)) (inner_shape m c (set_shape f.type) (set_shape f.type) T)) (hierarchy_at m h)
        (and-right (is_node_path m S h p) (is_some_and (λ f. is_some_and (λ R. is_some_and (λ t. t == f.type) (root_type R)) (inner_shape m c (set_shape f.type) (set_shape f.type) T)) (hierarchy_at m h)) e) in
        let y = some_and (λ R. is_some_and (λ t. t == (x.0).type) (root_type R)) (inner_shape m c (set_shape (x.0).type) (set_shape (x.0).type) T) x.2 in
        let P : Rule → Option HierarchyPlace → Type 0 = λ r o. elim o [ None ↦ [] | Some f ↦ map (Key.Recursive h p) (inner_results r m c (set_shape f.type) T) ] ≡ [] in
        ap (λ o. Key.Recursive h p (elim o [ None ↦ T | Some f ↦ settled_inner w m c (set_shape f.type) T [] ])) x.1
        ∙ ap (Key.Recursive h p) (inner_rest T (set_shape (x.0).type) (set_shape (x.0).type) y.0 y.1 (λ r k. map-none (Key.Recursive h p) _ (subst (P r) x.1 (rest r k))))

    keys_rest : (ks : Keys) (S : Shape) → keys_typed m c S ks ≡ true → KeysAtRest w m c ks → settled_keys w m c ks [] ≡ ks
    keys_rest Keys.NoKeys S e rest = refl
    keys_rest (Keys.MoreKeys k ks) S e rest =
        λ i. Keys.MoreKeys
        (key_rest k S (and-left (key_typed m c S k) (keys_typed m c S ks) e) (λ r l. map-none (λ k'. Keys.MoreKeys k' ks) _ (append-none (map (λ k'. Keys.MoreKeys k' ks) (key_results r m c k)) (map (Keys.MoreKeys k) (keys_results r m c ks)) (rest r l)).0) i)
        (keys_rest ks S (and-right (key_typed m c S k) (keys_typed m c S ks) e) (λ r l. map-none (Keys.MoreKeys k) _ (append-none (map (λ k'. Keys.MoreKeys k' ks) (key_results r m c k)) (map (Keys.MoreKeys k) (keys_results r m c ks)) (rest r l)).1) i)

    pub step_rest : (s : Step) (S S' : Shape) → step_shape m c S s ≡ Some S' → StepAtRest w m c S s → NothingHere w m c S s → settled_step w m c S s [] ≡ s
    step_rest (Step.GroupBy ks T) S S' e rest here =
        let t = if_else-parts (keys_typed m c S ks) (option_and_then (grouped_shape m S (group_keys ks)) (inner_shape m c S no_shape T)) S' e in
        let v = chained (grouped_shape m S (group_keys ks)) (inner_shape m c S no_shape T) S' t.1 in
        λ i. Step.GroupBy
        (keys_rest ks S t.0 (λ r k. map-none (λ ks'. Step.GroupBy ks' T) _ (append-none (map (λ ks'. Step.GroupBy ks' T) (keys_results r m c ks)) (map (Step.GroupBy ks) (inner_results r m c S T)) (rest r k)).0) i)
        (inner_rest T S no_shape v.0 v.1 (λ r k. map-none (Step.GroupBy ks) _ (append-none (map (λ ks'. Step.GroupBy ks' T) (keys_results r m c ks)) (map (Step.GroupBy ks) (inner_results r m c S T)) (rest r k)).1) i)
    step_rest (Step.Concat ps) S S' e rest here =
        let v = chained (concat_shape m) (all_some (branch_shapes m c S ps)) S' e in
        ap Step.Concat (branch_rest ps S v.0 v.1 (λ r k. map-none Step.Concat _ (rest r k)))
    step_rest (Step.Join outer n a T) S S' e rest here =
        let v = chained (λ v. option_and_then (λ R. then_some (is_free m S a) (joined_shape outer a S R)) (inner_shape m c (set_shape v.target) (set_shape v.target) T)) (join_navigation m S n) S' e in
        let x = chained (λ R. then_some (is_free m S a) (joined_shape outer a S R)) (inner_shape m c (set_shape (v.0).target) (set_shape (v.0).target) T) S' v.2 in
        let P : Rule → Option Navigation → Type 0 = λ r o. elim o [ None ↦ [] | Some v ↦ map (Step.Join outer n a) (inner_results r m c (set_shape v.target) T) ] ≡ [] in
        ap (λ o. Step.Join outer n a (elim o [ None ↦ T | Some v ↦ settled_inner w m c (set_shape v.target) T [] ])) v.1
        ∙ ap (Step.Join outer n a) (inner_rest T (set_shape (v.0).target) (set_shape (v.0).target) x.0 x.1 (λ r k. map-none (Step.Join outer n a) _ (subst (P r) v.1 (rest r k))))
    step_rest (Step.Climb up h p T d keep) S S' e rest here =
        let b = then_some-holds (is_node_path m S h p && is_distance d && is_long T && is_some_and (λ R. is_node_path m R h p) (steps_shape m c S T)) S S' e in
        let long = and-right (is_node_path m S h p && is_distance d) (is_long T) (and-left (is_node_path m S h p && is_distance d && is_long T) (is_some_and (λ R. is_node_path m R h p) (steps_shape m c S T)) b) in
        let x = some_and (λ R. is_node_path m R h p) (steps_shape m c S T) (and-right (is_node_path m S h p && is_distance d && is_long T) (is_some_and (λ R. is_node_path m R h p) (steps_shape m c S T)) b) in
        ap (λ T'. Step.Climb up h p T' d keep) (climb-settled w m c S x.0 up h p T d keep x.1 long (λ r k. map-none (λ T'. Step.Climb up h p T' d keep) _ (rest r k)) (λ idle. pipe_rest T S x.0 false (front_segment w m c) [] x.1 (λ r k. map-none (λ T'. Step.Climb up h p T' d keep) _ (rest r k)) idle (inl (bare-front w m c))) here)
    step_rest s S S' e rest here = refl

  -- a typed pipeline at rest is what the walk makes of it
  pub rest-walked : (p : Pipe) (S S' : Shape) → IsTrue (is_long p) → steps_shape m c S p ≡ Some S' → AtRest w m c S false p → walk w m c S p ≡ p
  rest-walked p S S' long e rest = whole-kept w m c S p long rest (λ idle. pipe_rest p S S' false (front_segment w m c) [] e rest idle (inl (bare-front w m c)))
