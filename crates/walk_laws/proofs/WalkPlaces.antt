-- What a rule makes of a typed pipeline, at whatever place, is put as the pipeline was, where what it makes at its place is put as what was there.
use Rattle.std.proofs.Common.{◌≡◌, ℕ, refl, sym, ◌∙◌, ap, subst, Bool, true, false, not, ◌&&◌, ◌||◌, List, [], ◌∷◌, ◌++◌, Option, Some, None, IsTrue, map, if◌then◌else◌}
use Rattle.std.specs.Prelude.{option_and_then, option_map, unwrap_or}
use Rattle.std.specs.Bool.{then_some}
use Rattle.std.specs.List.{list_all, list_any}
use Rattle.std.proofs.lemmas.Bool.{and_from, and_parts}
use Rattle.edm_values.specs.Lists.{is_nonempty, is_some_and}
use Rattle.edm_values.specs.Literals.{is_boolean_kind}
use Rattle.edm_values.specs.Names.{Name, Path}
use Rattle.edm_values.proofs.EachLemmas.{Each}
use Rattle.edm_values.proofs.OptionFacts.{chained, some_value}
use Rattle.edm_model.specs.LookUps.{HierarchyPlace}
use Rattle.edm_model.specs.Models.{Model, Navigation}
use Rattle.apply_ast.specs.Trees.{Expr, HierName, Key, Keys, OptPipe, Pipe, Pipes, Step, is_long, pipe}
use Rattle.context_typing.specs.Shapes.{Shape, set_shape}
use Rattle.context_typing.specs.Typing.{Customs, after, customs_typed, group_keys, has_kind, hierarchy_at, inner_quiet, inner_shape, is_lawful, is_nodes, is_risky, is_sure, join_navigation, key_paths, rollup_part, rollup_paths, step_shape, steps_shape}
use Rattle.context_typing.specs.TypingLaws.{TypingKeepsLawful}
use Rattle.rewrite_laws.specs.Rewrites.{Rule, branches, node_shape, on_node, over, paths, pipe_results, rollup_keys_in_every_row}
use Rattle.rewrite_laws.specs.RewriteLaws.{KeepsOutcomeInPlace}
use Rattle.rewrite_laws.proofs.EachPlace.{Respected, pipe_each}
use Rattle.rewrite_laws.proofs.QuietPlaces.{SameBranches, SameInner, SameKey, SameKeys, SameStep, SameSteps, respected, same-outcome}
use Rattle.walk_laws.specs.Walks.{Rules, Segment, Test, front, is_late, is_unbranched, put_filters, put_step, put_steps, segment, settled_branches, settled_inner, settled_key, settled_keys, settled_step, shape_behind, step_enters, unbranched_inner, unbranched_key, unbranched_keys, unbranched_step, whole, without_idle}
use Rattle.walk_laws.proofs.Unsplit.{Unsplit, UnsplitBranches, UnsplitInner, UnsplitKey, UnsplitKeys, UnsplitStep, unsplit-branches, unsplit-climb, unsplit-concat, unsplit-group, unsplit-inner, unsplit-join, unsplit-keys, unsplit-parts, unsplit-recursive}
use Rattle.walk_laws.proofs.WalkPassing.{PutsSame}
use Rattle.walk_laws.proofs.WalkPuts.{one-step}
use Rattle.walk_laws.proofs.WalkUnbranched.{KeepsUnbranched}

-- a test of what is made of each element is one of all that is made
pub all-mapped : {X Y : Type 0} (f : Y → Bool) (g : X → Y) (xs : List X) → list_all (λ x. f (g x)) xs ≡ list_all f (map g xs)
all-mapped f g [] = refl
all-mapped f g (x ∷ xs) = ap (λ b. f (g x) && b) (all-mapped f g xs)

-- typed steps lead to the shape behind them
pub behind-typed : (m : Model) (c : Customs) (S S' : Shape) (p : Pipe) → steps_shape m c S p ≡ Some S' → shape_behind m c S p ≡ S'
unfolding steps_shape
behind-typed m c S S' Pipe.End e = some_value e
behind-typed m c S S' (Pipe.Then s p) e =
    let x = chained (λ Z. steps_shape m c Z p) (step_shape m c S s) S' e in
    ap (λ o. shape_behind m c (unwrap_or o S) p) x.1 ∙ behind-typed m c x.0 S' p x.2

-- what is asked of a pipeline: where that is needed, no filter is split or dropped in it; where it is to be unbranched, no concatenation stands in it
module _ (w : Rules) (m : Model) (c : Customs) (needs flat : Bool) where
  abbrev pub ReadySteps : Shape → Bool → Pipe → Type 0
  ReadySteps S before p = (needs ≡ true → Unsplit m c S before p) × (flat ≡ true → is_unbranched p ≡ true)

  abbrev ReadyStep : Shape → Step → Type 0
  ReadyStep S s = (needs ≡ true → UnsplitStep m c S s) × (flat ≡ true → unbranched_step s ≡ true)

  abbrev ReadyInner : Shape → OptPipe → Type 0
  ReadyInner S T = (needs ≡ true → UnsplitInner m c S T) × (flat ≡ true → unbranched_inner T ≡ true)

  abbrev ReadyBranches : Shape → Pipes → Type 0
  ReadyBranches S ps = (needs ≡ true → UnsplitBranches m c S ps) × (flat ≡ true → false ≡ true)

  abbrev ReadyKey : Key → Type 0
  ReadyKey k = (needs ≡ true → UnsplitKey m c k) × (flat ≡ true → unbranched_key k ≡ true)

  abbrev ReadyKeys : Keys → Type 0
  ReadyKeys ks = (needs ≡ true → UnsplitKeys m c ks) × (flat ≡ true → unbranched_keys ks ≡ true)

  -- ---- what is put alike

  -- steps that come to the same are put alike and lead to one shape
  abbrev pub AlikeSteps : Shape → Pipe → Pipe → Type 0
  AlikeSteps S p q =
      SameSteps m c S p q × ((before : Bool) → ReadySteps S before p → (gs : List Segment) → put_steps w m c S q gs ≡ put_steps w m c S p gs) × (shape_behind m c S q ≡ shape_behind m c S p) × (is_unbranched p ≡ true → is_unbranched q ≡ true)

  abbrev AlikeStep : Shape → Step → Step → Type 0
  AlikeStep S s s' =
      SameStep m c S s s' × (ReadyStep S s → (gs : List Segment) → put_step w m c S s' (settled_step w m c S s') gs ≡ put_step w m c S s (settled_step w m c S s) gs) × (unbranched_step s ≡ true → unbranched_step s' ≡ true)

  abbrev AlikeInner : Shape → OptPipe → OptPipe → Type 0
  AlikeInner S T T' = SameInner m c S T T' × (ReadyInner S T → (es : List Expr) → settled_inner w m c S T' es ≡ settled_inner w m c S T es) × (unbranched_inner T ≡ true → unbranched_inner T' ≡ true)

  abbrev AlikeBranches : Shape → Pipes → Pipes → Type 0
  AlikeBranches S ps qs =
      SameBranches m c S ps qs × (ReadyBranches S ps → (es : List Expr) → settled_branches w m c S qs es ≡ settled_branches w m c S ps es) × (map (steps_shape m c S) (branches qs) ≡ map (steps_shape m c S) (branches ps))

  abbrev AlikeKey : Key → Key → Type 0
  AlikeKey k k' =
      SameKey m c k k' × (ReadyKey k → (es : List Expr) → settled_key w m c k' es ≡ settled_key w m c k es) × ((ks : Keys) → node_shape m c (Keys.MoreKeys k' ks) ≡ node_shape m c (Keys.MoreKeys k ks)) × (unbranched_key k ≡ true → unbranched_key k' ≡ true)

  abbrev AlikeKeys : Keys → Keys → Type 0
  AlikeKeys ks ks' =
      SameKeys m c ks ks' × (ReadyKeys ks → (es : List Expr) → settled_keys w m c ks' es ≡ settled_keys w m c ks es) × (node_shape m c ks' ≡ node_shape m c ks) × (unbranched_keys ks ≡ true → unbranched_keys ks' ≡ true)

  R : Respected m c (SameSteps m c) (SameStep m c) (SameInner m c) (SameBranches m c) (SameKey m c) (SameKeys m c)
  R = respected m c

  -- ---- each step, key and inner pipeline respects that

  with_step : (S : Shape) (s s' : Step) (p : Pipe) → AlikeStep S s s' → AlikeSteps S (Pipe.Then s p) (Pipe.Then s' p)
  with_step S s s' p h = (
    R.with_step S s s' p h.0,
    (λ before u gs.
        one-step w m c S s' p gs
        ∙ (λ i. put_steps w m c (unwrap_or (h.0.0 i) S) p (h.1 ((λ n. (unsplit-parts m c S before s p (u.0 n)).0), λ f. (and_parts (unbranched_step s) (is_unbranched p) (u.1 f)).0) gs i))
        ∙ sym (one-step w m c S s p gs)),
    (λ i. shape_behind m c (unwrap_or (h.0.0 i) S) p),
    λ f. let t = and_parts (unbranched_step s) (is_unbranched p) f in and_from (unbranched_step s') (is_unbranched p) (h.2 t.0) t.1,
  )

  with_rest : (S S' : Shape) (s : Step) (p q : Pipe) → IsTrue (is_lawful m S) → step_shape m c S s ≡ Some S' → AlikeSteps S' p q → AlikeSteps S (Pipe.Then s p) (Pipe.Then s q)
  with_rest S S' s p q law e h =
      let at : after m c S s ≡ S' = ap (λ o. unwrap_or o S) e in (
        R.with_rest S S' s p q law e h.0,
        (λ before u gs.
            let G = put_step w m c S s (settled_step w m c S s) gs in
            one-step w m c S s q gs
            ∙ ap (λ Z. put_steps w m c Z q G) at
            ∙ h.1 true ((λ n. subst (λ Z. Unsplit m c Z true p) at (unsplit-parts m c S before s p (u.0 n)).1), λ f. (and_parts (unbranched_step s) (is_unbranched p) (u.1 f)).1) G
            ∙ sym (ap (λ Z. put_steps w m c Z p G) at)
            ∙ sym (one-step w m c S s p gs)),
        ap (λ Z. shape_behind m c Z q) at ∙ h.2 ∙ sym (ap (λ Z. shape_behind m c Z p) at),
        λ f. let t = and_parts (unbranched_step s) (is_unbranched p) f in and_from (unbranched_step s) (is_unbranched q) t.0 (h.3 t.1),
      )

  with_inner : (S : Shape) (p q : Pipe) → is_long p ≡ true → is_long q ≡ true → AlikeSteps S p q → AlikeInner S (OptPipe.SomePipe p) (OptPipe.SomePipe q)
  unfolding put_steps
  with_inner S p q l k h = (
    R.with_inner S p q l k h.0,
    (λ u es i. OptPipe.SomePipe (whole (put_filters m (h.2 i) es (h.1 false ((λ n. unsplit-inner m c S p (u.0 n)), u.1) front i)))),
    h.3,
  )

  with_branch : (S : Shape) (p q : Pipe) (ps : Pipes) → is_long p ≡ true → is_long q ≡ true → AlikeSteps S p q → AlikeBranches S (Pipes.MorePipes p ps) (Pipes.MorePipes q ps)
  unfolding put_steps
  with_branch S p q ps l k h = (
    R.with_branch S p q ps l k h.0,
    (λ u es i. Pipes.MorePipes (whole (put_filters m (h.2 i) es (h.1 false ((λ n. (unsplit-branches m c S p ps (u.0 n)).0), λ f. absurd (true-not_false (u.1 f))) front i))) (settled_branches w m c S ps es)),
    λ i. h.0.0 i ∷ map (steps_shape m c S) (branches ps),
  )
    where
      true-not_false : false ≡ true → ⊥
      true-not_false e = cc

  with_other_branches : (S : Shape) (p : Pipe) (ps qs : Pipes) → AlikeBranches S ps qs → AlikeBranches S (Pipes.MorePipes p ps) (Pipes.MorePipes p qs)
  unfolding put_steps
  with_other_branches S p ps qs h = (
    R.with_other_branches S p ps qs h.0,
    (λ u es i. Pipes.MorePipes (whole (put_filters m (shape_behind m c S p) es (put_steps w m c S p front))) (h.1 ((λ n. (unsplit-branches m c S p ps (u.0 n)).1), u.1) es i)),
    λ i. steps_shape m c S p ∷ h.2 i,
  )

  with_group_keys : (S : Shape) (ks ks' : Keys) (T : OptPipe) → AlikeKeys ks ks' → AlikeStep S (Step.GroupBy ks T) (Step.GroupBy ks' T)
  unfolding put_steps
  with_group_keys S ks ks' T h = (
    R.with_group_keys S ks ks' T h.0,
    (λ u gs i. record {
      lets = not (list_any (is_risky S) (key_paths (h.0.1 i))) && inner_quiet m c S T;
      passes = λ t. (is_late w || not (is_nodes (rollup_part (h.0.1 i)))) && over ((h.0.1 i).plain ++ rollup_keys_in_every_row (rollup_part (h.0.1 i))) t.expr && t.sure;
      enters = λ t. if is_late w && is_nodes (rollup_part (h.0.1 i)) && (not (list_any (is_risky S) (key_paths (h.0.1 i))) && inner_quiet m c S T) && t.sure
          then option_and_then (λ N. then_some (is_nonempty (paths t.expr) && over (rollup_paths (rollup_part (h.0.1 i))) t.expr && has_kind is_boolean_kind m N.0 (on_node N.1 t.expr) && is_sure m N.0 (on_node N.1 t.expr)) (on_node N.1 t.expr)) (h.2 i) else None;
      head = λ es. Some (Step.GroupBy (h.1 ((λ n. (unsplit-group m c S ks T (u.0 n)).0), λ f. (and_parts (unbranched_keys ks) (unbranched_inner T) (u.1 f)).0) es i) (settled_inner w m c S T []));
      tests = [];
    } ∷ gs),
    λ f. let t = and_parts (unbranched_keys ks) (unbranched_inner T) f in and_from (unbranched_keys ks') (unbranched_inner T) (h.3 t.0) t.1,
  )

  with_group_inner : (S : Shape) (ks : Keys) (T T' : OptPipe) → AlikeInner S T T' → AlikeStep S (Step.GroupBy ks T) (Step.GroupBy ks T')
  unfolding put_steps
  with_group_inner S ks T T' h = (
    R.with_group_inner S ks T T' h.0,
    (λ u gs i. record {
      lets = not (list_any (is_risky S) (key_paths (group_keys ks))) && h.0.1 i;
      passes = (segment w m c S (Step.GroupBy ks T) (settled_step w m c S (Step.GroupBy ks T))).passes;
      enters = λ t. if is_late w && is_nodes (rollup_part (group_keys ks)) && (not (list_any (is_risky S) (key_paths (group_keys ks))) && h.0.1 i) && t.sure
          then option_and_then (λ N. then_some (is_nonempty (paths t.expr) && over (rollup_paths (rollup_part (group_keys ks))) t.expr && has_kind is_boolean_kind m N.0 (on_node N.1 t.expr) && is_sure m N.0 (on_node N.1 t.expr)) (on_node N.1 t.expr)) (node_shape m c ks) else None;
      head = λ es. Some (Step.GroupBy (settled_keys w m c ks es) (h.1 ((λ n. (unsplit-group m c S ks T (u.0 n)).1), λ f. (and_parts (unbranched_keys ks) (unbranched_inner T) (u.1 f)).1) [] i));
      tests = [];
    } ∷ gs),
    λ f. let t = and_parts (unbranched_keys ks) (unbranched_inner T) f in and_from (unbranched_keys ks) (unbranched_inner T') t.0 (h.2 t.1),
  )

  -- a filter is typed on each branch
  abbrev on_branch : Test → Option Shape → Bool
  on_branch t o = is_some_and (λ S'. has_kind is_boolean_kind m S' t.expr) o

  with_branches : (S : Shape) (ps qs : Pipes) → AlikeBranches S ps qs → AlikeStep S (Step.Concat ps) (Step.Concat qs)
  unfolding put_steps
  with_branches S ps qs h = (
    R.with_branches S ps qs h.0,
    (λ u gs i. record {
      lets = false;
      passes = λ t. false;
      enters = λ t. then_some ((all-mapped (on_branch t) (steps_shape m c S) (branches qs) ∙ ap (list_all (on_branch t)) h.2 ∙ sym (all-mapped (on_branch t) (steps_shape m c S) (branches ps))) i) t.expr;
      head = λ es. Some (Step.Concat (h.1 ((λ n. unsplit-concat m c S ps (u.0 n)), u.1) es i));
      tests = [];
    } ∷ gs),
    λ f. f,
  )

  same-enters : (S : Shape) (outer : Bool) (n a : Name) (T T' : OptPipe) → step_enters w m c S (Step.Join outer n a T') ≡ step_enters w m c S (Step.Join outer n a T)
  same-enters S true n a T T' = refl
  same-enters S false n a T T' = refl

  with_join : (S : Shape) (outer : Bool) (n a : Name) (v : Navigation) (T T' : OptPipe) → join_navigation m S n ≡ Some v → AlikeInner (set_shape v.target) T T' → AlikeStep S (Step.Join outer n a T) (Step.Join outer n a T')
  unfolding put_steps
  with_join S outer n a v T T' e h = (
    R.with_join S outer n a v T T' e h.0,
    (λ u gs i. record {
      lets = (ap (is_some_and (calm T')) e ∙ h.0.1 ∙ sym (ap (is_some_and (calm T)) e)) i;
      passes = (segment w m c S (Step.Join outer n a T) (settled_step w m c S (Step.Join outer n a T))).passes;
      enters = same-enters S outer n a T T' i;
      head = λ es. Some (Step.Join outer n a ((ap (give T' es) e ∙ h.1 ((λ n'. unsplit-join m c S outer n a T v e (u.0 n')), u.1) es ∙ sym (ap (give T es) e)) i));
      tests = [];
    } ∷ gs),
    h.2,
  )
    where
      calm : OptPipe → Navigation → Bool
      calm T v = inner_quiet m c (set_shape v.target) T

      give : OptPipe → List Expr → Option Navigation → OptPipe
      give T es o = elim o [ None ↦ T | Some v ↦ settled_inner w m c (set_shape v.target) T es ]

  with_climb : (S : Shape) (up : Bool) (h : HierName) (p : Path) (T T' : Pipe) (d : Option ℕ) (keep : Bool) → is_long T ≡ true → is_long T' ≡ true → AlikeSteps S T T' → AlikeStep S (Step.Climb up h p T d keep) (Step.Climb up h p T' d keep)
  unfolding put_steps
  with_climb S up h p T T' d keep l k e = (
    R.with_climb S up h p T T' d keep l k e.0,
    (λ u gs. ap (λ hs. climbs hs ∷ gs) (e.1 false ((λ n. unsplit-climb m c S up h p T d keep (u.0 n)), u.1) front)),
    e.3,
  )
    where
      climbs : List Segment → Segment
      climbs hs = record { lets = false; passes = λ t. false; enters = λ t. None; head = λ es. Some (Step.Climb up h p (whole (if is_late w then without_idle p hs else hs)) d keep); tests = [] }

  with_recursive : (h : HierName) (f : HierarchyPlace) (p : Path) (T T' : OptPipe) → hierarchy_at m h ≡ Some f → AlikeInner (set_shape f.type) T T' → AlikeKey (Key.Recursive h p T) (Key.Recursive h p T')
  unfolding put_steps
  with_recursive h f p T T' e k = (
    R.with_recursive h f p T T' e k.0,
    (λ u es. ap (λ o. Key.Recursive h p (give T' es o)) e ∙ ap (Key.Recursive h p) (k.1 ((λ n. unsplit-recursive m c h p T f e (u.0 n)), u.1) es) ∙ sym (ap (λ o. Key.Recursive h p (give T es o)) e)),
    (λ ks. ap (option_and_then (shown T')) e ∙ ap (option_map (λ N. (N, f.key.name))) (k.0.0 (set_shape f.type)) ∙ sym (ap (option_and_then (shown T)) e)),
    k.2,
  )
    where
      give : OptPipe → List Expr → Option HierarchyPlace → OptPipe
      give T es o = elim o [ None ↦ T | Some f ↦ settled_inner w m c (set_shape f.type) T es ]

      shown : OptPipe → HierarchyPlace → Option (Shape × Name)
      shown T f = option_map (λ N. (N, f.key.name)) (inner_shape m c (set_shape f.type) (set_shape f.type) T)

  with_key : (k k' : Key) (ks : Keys) → AlikeKey k k' → AlikeKeys (Keys.MoreKeys k ks) (Keys.MoreKeys k' ks)
  unfolding put_steps
  with_key k k' ks h = (
    R.with_key k k' ks h.0,
    (λ u es i. Keys.MoreKeys (h.1 ((λ n. (unsplit-keys m c k ks (u.0 n)).0), λ f. (and_parts (unbranched_key k) (unbranched_keys ks) (u.1 f)).0) es i) (settled_keys w m c ks es)),
    h.2 ks,
    λ f. let t = and_parts (unbranched_key k) (unbranched_keys ks) f in and_from (unbranched_key k') (unbranched_keys ks) (h.3 t.0) t.1,
  )

  behind_key : (k : Key) (ks ks' : Keys) → node_shape m c ks' ≡ node_shape m c ks → node_shape m c (Keys.MoreKeys k ks') ≡ node_shape m c (Keys.MoreKeys k ks)
  behind_key (Key.Plain p) ks ks' e = e
  behind_key (Key.Rollup all ps) ks ks' e = e
  behind_key (Key.Recursive h p T) ks ks' e = refl

  with_keys : (k : Key) (ks ks' : Keys) → AlikeKeys ks ks' → AlikeKeys (Keys.MoreKeys k ks) (Keys.MoreKeys k ks')
  unfolding put_steps
  with_keys k ks ks' h = (
    R.with_keys k ks ks' h.0,
    (λ u es i. Keys.MoreKeys (settled_key w m c k es) (h.1 ((λ n. (unsplit-keys m c k ks (u.0 n)).1), λ f. (and_parts (unbranched_key k) (unbranched_keys ks) (u.1 f)).1) es i)),
    behind_key k ks ks' h.2,
    λ f. let t = and_parts (unbranched_key k) (unbranched_keys ks) f in and_from (unbranched_key k) (unbranched_keys ks') t.0 (h.3 t.1),
  )

  alike-respected : Respected m c AlikeSteps AlikeStep AlikeInner AlikeBranches AlikeKey AlikeKeys
  alike-respected = record {
    with_step = with_step;
    with_rest = with_rest;
    with_inner = with_inner;
    with_branch = with_branch;
    with_other_branches = with_other_branches;
    with_group_keys = with_group_keys;
    with_group_inner = with_group_inner;
    with_branches = with_branches;
    with_join = with_join;
    with_climb = with_climb;
    with_recursive = with_recursive;
    with_key = with_key;
    with_keys = with_keys;
  }

  -- what the rule makes of a typed pipeline at any place
  pub put_anywhere : TypingKeepsLawful (λ m. Unit {0}) → (r : Rule) → KeepsOutcomeInPlace r → PutsSame needs flat w m c r → KeepsUnbranched m c r → (S S' : Shape) (before : Bool) (p : Pipe) → IsTrue (customs_typed m c) → IsTrue (is_lawful m S) → steps_shape m c S p ≡ Some S'
      → Each (λ q. IsTrue (before || is_long q) × AlikeSteps S p q) (pipe_results r m c S before p)
  unfolding steps_shape
  put_anywhere L r K P F S S' before p k law e =
      pipe_each m c AlikeSteps AlikeStep AlikeInner AlikeBranches AlikeKey AlikeKeys alike-respected r
      (λ S S' before s ss ss' l e o.
      let h = K m c S S' before s ss ss' k l e o in
      let same = same-outcome m c S S' (pipe (s ∷ ss)) (pipe ss') e h.1 in (
        h.0,
        (
          same,
          (λ b u gs. P S before s ss ss' gs (record {
            customs = k;
            lawful = l;
            last = S';
            typed = e;
            unsplit = λ n. (unsplit-parts m c S b s (pipe ss) (u.0 n)).1;
            unbranched = λ f. (and_parts (unbranched_step s) (is_unbranched (pipe ss)) (u.1 f)).0;
          }) o),
          behind-typed m c S S' (pipe ss') (same.0 ∙ e) ∙ sym (behind-typed m c S S' (pipe (s ∷ ss)) e),
          F S before s ss ss' o,
        ),
      ))
      (λ S S' s l e. L m c S S' (Pipe.Then s Pipe.End) tt l (refl, ap (option_and_then (λ (U : Shape). Some U)) e))
      p S S' before law e
