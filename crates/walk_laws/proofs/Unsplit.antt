-- Pipelines of which the rules that split and drop filters make nothing.
use Rattle.std.proofs.Common.{◌≡◌, refl, sym, ◌∙◌, ap, subst, Bool, true, false, List, [], ◌∷◌, ◌++◌, Option, Some, None, ℕ, map, if◌then◌else◌}
use Rattle.std.specs.Prelude.{option_to_list}
use Rattle.std.specs.Bool.{then_some}
use Rattle.edm_values.proofs.EachLemmas.{Each}
use Rattle.edm_values.proofs.OptionFacts.{none_or}
use Rattle.edm_values.specs.Names.{Name, Path}
use Rattle.edm_model.specs.Models.{Model, Navigation}
use Rattle.edm_model.specs.LookUps.{HierarchyPlace}
use Rattle.apply_ast.specs.Trees.{Expr, HierName, Key, Keys, OptPipe, Pipe, Pipes, Step, pipe, steps}
use Rattle.apply_ast.specs.declared.expressions.BinOp.TheVariants as BinOp
use Rattle.context_typing.specs.Shapes.{Shape, set_shape}
use Rattle.context_typing.specs.Typing.{Customs, after, hierarchy_at, is_sure, join_navigation}
use Rattle.rewrite_laws.specs.Rewrites.{Rule, branch_results, drop_true, inner_results, key_results, keys_results, pipe_results, split_conjunction, step_results}
use Rattle.rewrite_laws.proofs.RuleLemmas.{after-filter, filters}
use Rattle.walk_laws.specs.Walks.{parts}

-- ---- filters that are not split

pub append-none : {X : Type 0} (xs ys : List X) → xs ++ ys ≡ [] → (xs ≡ []) × (ys ≡ [])
append-none [] ys e = (refl, e)
append-none (x ∷ xs) ys e = cc

pub map-none : {X Y : Type 0} (f : X → Y) (xs : List X) → map f xs ≡ [] → xs ≡ []
map-none f [] e = refl
map-none f (x ∷ xs) e = cc

pub list-none : {X : Type 0} (o : Option X) → option_to_list o ≡ [] → o ≡ None
list-none None e = refl
list-none (Some x) e = cc

pub then_some-none : {X : Type 0} (b : Bool) (x : X) → then_some b x ≡ None → b ≡ false
then_some-none true x e = none_or x (sym e)
then_some-none false x e = refl

-- a rule makes nothing of a pipeline: nothing at its first step, in it, or behind it
pub nothing-parts : (r : Rule) (m : Model) (c : Customs) (S : Shape) (before : Bool) (s : Step) (p : Pipe) → pipe_results r m c S before (Pipe.Then s p) ≡ []
    → (r m c S before s (steps p) ≡ None) × (step_results r m c S s ≡ []) × (pipe_results r m c (after m c S s) true p ≡ [])
unfolding pipe_results
nothing-parts r m c S before s p e =
    let here = map pipe (option_to_list (r m c S before s (steps p))) in
    let inside = map (λ s'. Pipe.Then s' p) (step_results r m c S s) in
    let rest = map (Pipe.Then s) (pipe_results r m c (after m c S s) true p) in
    let t = append-none (here ++ inside) rest e in
    let u = append-none here inside t.0 in
    (list-none _ (map-none pipe _ u.0), map-none (λ s'. Pipe.Then s' p) _ u.1, map-none (Pipe.Then s) _ t.1)

-- a filter that is neither split nor dropped is one part
pub one-part : (m : Model) (c : Customs) (S : Shape) (before : Bool) (e : Expr) (ss : List Step) → split_conjunction m c S before (Step.Filter e) ss ≡ None → drop_true m c S before (Step.Filter e) ss ≡ None → parts m S e ≡ e ∷ []
one-part m c S before (Expr.Binary BinOp.And a b) ss h k = ap (λ z. if z then parts m S a ++ parts m S b else Expr.Binary BinOp.And a b ∷ []) (then_some-none (is_sure m S b) (Step.Filter a ∷ Step.Filter b ∷ ss) h)
one-part m c S before (Expr.Bool' true) ss h k = none_or (Step.Identity ∷ ss) (sym k)
one-part m c S before (Expr.Bool' false) ss h k = refl
one-part m c S before e ss h k = refl

-- a pipeline in which no conjunction is split and no filter dropped
pub record Unsplit (m : Model) (c : Customs) (S : Shape) (before : Bool) (p : Pipe) : Type 0 where
  pub split : pipe_results split_conjunction m c S before p ≡ []
  pub true' : pipe_results drop_true m c S before p ≡ []

module _ (m : Model) (c : Customs) (T : Shape) where
  -- the filters with which it begins
  pub unsplit-filters : (before : Bool) (es : List Expr) (b : Expr) (p : Pipe) → Unsplit m c T before (filters es (Pipe.Then (Step.Filter b) p)) → Each (λ e. parts m T e ≡ e ∷ []) es × (parts m T b ≡ b ∷ [])
  unsplit-filters before [] b p h =
      let t = nothing-parts split_conjunction m c T before (Step.Filter b) p h.split in
      let u = nothing-parts drop_true m c T before (Step.Filter b) p h.true' in
      (tt, one-part m c T before b (steps p) t.0 u.0)
  unsplit-filters before (e ∷ es) b p h =
      let q = filters es (Pipe.Then (Step.Filter b) p) in
      let t = nothing-parts split_conjunction m c T before (Step.Filter e) q h.split in
      let u = nothing-parts drop_true m c T before (Step.Filter e) q h.true' in
      let k = after-filter m c T e in
      let more = unsplit-filters true es b p (record {
        split = ap (λ U. pipe_results split_conjunction m c U true q) (sym k) ∙ t.2;
        true' = ap (λ U. pipe_results drop_true m c U true q) (sym k) ∙ u.2;
      }) in
      ((one-part m c T before e (steps q) t.0 u.0, more.0), more.1)

module _ (m : Model) (c : Customs) where
  -- no conjunction is split and no filter dropped: in an inner pipeline, in branches, keys and steps
  abbrev pub UnsplitInner : Shape → OptPipe → Type 0
  UnsplitInner S T = (inner_results split_conjunction m c S T ≡ []) × (inner_results drop_true m c S T ≡ [])

  abbrev pub UnsplitBranches : Shape → Pipes → Type 0
  UnsplitBranches S ps = (branch_results split_conjunction m c S ps ≡ []) × (branch_results drop_true m c S ps ≡ [])

  abbrev pub UnsplitKey : Key → Type 0
  UnsplitKey k = (key_results split_conjunction m c k ≡ []) × (key_results drop_true m c k ≡ [])

  abbrev pub UnsplitKeys : Keys → Type 0
  UnsplitKeys ks = (keys_results split_conjunction m c ks ≡ []) × (keys_results drop_true m c ks ≡ [])

  abbrev pub UnsplitStep : Shape → Step → Type 0
  UnsplitStep S s = (step_results split_conjunction m c S s ≡ []) × (step_results drop_true m c S s ≡ [])

  pub unsplit-parts : (S : Shape) (before : Bool) (s : Step) (p : Pipe) → Unsplit m c S before (Pipe.Then s p) → UnsplitStep S s × Unsplit m c (after m c S s) true p
  unsplit-parts S before s p h =
      let t = nothing-parts split_conjunction m c S before s p h.split in
      let u = nothing-parts drop_true m c S before s p h.true' in
      ((t.1, u.1), record { split = t.2; true' = u.2 })

  pub unsplit-inner : (S : Shape) (p : Pipe) → UnsplitInner S (OptPipe.SomePipe p) → Unsplit m c S false p
  unfolding pipe_results
  unsplit-inner S p h = record { split = map-none OptPipe.SomePipe _ h.0; true' = map-none OptPipe.SomePipe _ h.1 }

  pub unsplit-branches : (S : Shape) (p : Pipe) (ps : Pipes) → UnsplitBranches S (Pipes.MorePipes p ps) → Unsplit m c S false p × UnsplitBranches S ps
  unfolding pipe_results
  unsplit-branches S p ps h =
      let t = append-none (map (λ q. Pipes.MorePipes q ps) (pipe_results split_conjunction m c S false p)) (map (Pipes.MorePipes p) (branch_results split_conjunction m c S ps)) h.0 in
      let u = append-none (map (λ q. Pipes.MorePipes q ps) (pipe_results drop_true m c S false p)) (map (Pipes.MorePipes p) (branch_results drop_true m c S ps)) h.1 in
      (record { split = map-none (λ q. Pipes.MorePipes q ps) _ t.0; true' = map-none (λ q. Pipes.MorePipes q ps) _ u.0 }, (map-none (Pipes.MorePipes p) _ t.1, map-none (Pipes.MorePipes p) _ u.1))

  pub unsplit-keys : (k : Key) (ks : Keys) → UnsplitKeys (Keys.MoreKeys k ks) → UnsplitKey k × UnsplitKeys ks
  unfolding pipe_results
  unsplit-keys k ks h =
      let t = append-none (map (λ k'. Keys.MoreKeys k' ks) (key_results split_conjunction m c k)) (map (Keys.MoreKeys k) (keys_results split_conjunction m c ks)) h.0 in
      let u = append-none (map (λ k'. Keys.MoreKeys k' ks) (key_results drop_true m c k)) (map (Keys.MoreKeys k) (keys_results drop_true m c ks)) h.1 in
      ((map-none (λ k'. Keys.MoreKeys k' ks) _ t.0, map-none (λ k'. Keys.MoreKeys k' ks) _ u.0), (map-none (Keys.MoreKeys k) _ t.1, map-none (Keys.MoreKeys k) _ u.1))

  pub unsplit-recursive : (h : HierName) (p : Path) (T : OptPipe) (f : HierarchyPlace) → hierarchy_at m h ≡ Some f → UnsplitKey (Key.Recursive h p T) → UnsplitInner (set_shape f.type) T
  unfolding pipe_results
  unsplit-recursive h p T f e u =
      let P : Rule → Option HierarchyPlace → Type 0 = λ r o. elim o [ None ↦ [] | Some g ↦ map (Key.Recursive h p) (inner_results r m c (set_shape g.type) T) ] ≡ [] in
      (map-none (Key.Recursive h p) _ (subst (P split_conjunction) e u.0), map-none (Key.Recursive h p) _ (subst (P drop_true) e u.1))

  pub unsplit-group : (S : Shape) (ks : Keys) (T : OptPipe) → UnsplitStep S (Step.GroupBy ks T) → UnsplitKeys ks × UnsplitInner S T
  unfolding pipe_results
  unsplit-group S ks T h =
      let t = append-none (map (λ ks'. Step.GroupBy ks' T) (keys_results split_conjunction m c ks)) (map (Step.GroupBy ks) (inner_results split_conjunction m c S T)) h.0 in
      let u = append-none (map (λ ks'. Step.GroupBy ks' T) (keys_results drop_true m c ks)) (map (Step.GroupBy ks) (inner_results drop_true m c S T)) h.1 in
      ((map-none (λ ks'. Step.GroupBy ks' T) _ t.0, map-none (λ ks'. Step.GroupBy ks' T) _ u.0), (map-none (Step.GroupBy ks) _ t.1, map-none (Step.GroupBy ks) _ u.1))

  pub unsplit-concat : (S : Shape) (ps : Pipes) → UnsplitStep S (Step.Concat ps) → UnsplitBranches S ps
  unfolding pipe_results
  unsplit-concat S ps h = (map-none Step.Concat _ h.0, map-none Step.Concat _ h.1)

  pub unsplit-join : (S : Shape) (outer : Bool) (n a : Name) (T : OptPipe) (v : Navigation) → join_navigation m S n ≡ Some v → UnsplitStep S (Step.Join outer n a T) → UnsplitInner (set_shape v.target) T
  unfolding pipe_results
  unsplit-join S outer n a T v e h =
      let P : Rule → Option Navigation → Type 0 = λ r o. elim o [ None ↦ [] | Some v ↦ map (Step.Join outer n a) (inner_results r m c (set_shape v.target) T) ] ≡ [] in
      (map-none (Step.Join outer n a) _ (subst (P split_conjunction) e h.0), map-none (Step.Join outer n a) _ (subst (P drop_true) e h.1))

  pub unsplit-climb : (S : Shape) (up : Bool) (h : HierName) (p : Path) (T : Pipe) (d : Option ℕ) (keep : Bool) → UnsplitStep S (Step.Climb up h p T d keep) → Unsplit m c S false T
  unfolding pipe_results
  unsplit-climb S up h p T d keep u = record { split = map-none (λ T'. Step.Climb up h p T' d keep) _ u.0; true' = map-none (λ T'. Step.Climb up h p T' d keep) _ u.1 }
