-- A typed pipeline of which no rule of a walk makes anything is put as it stands.
use Rattle.std.proofs.Common.{◌≡◌, refl, sym, ◌∙◌, ap, ℕ, Bool, true, false, not, ◌&&◌, ◌||◌, List, [], ◌∷◌, ◌++◌, Option, Some, None, map, filter, find, cond, Contains, arith, drop, length, if◌then◌else◌}
use Rattle.std.specs.Prelude.{nat_lt, option_and_then, option_map}
use Rattle.std.specs.Bool.{then_some}
use Rattle.std.specs.List.{list_all, list_any}
use Rattle.std.proofs.Math.Bool.{and-true}
use Rattle.edm_values.specs.Lists.{is_nonempty, is_some_and}
use Rattle.edm_values.specs.Literals.{is_boolean_kind}
use Rattle.edm_values.specs.Names.{Name}
use Rattle.edm_values.proofs.EachLemmas.{Each}
use Rattle.edm_values.proofs.OptionFacts.{none_or, unmapped}
use Rattle.edm_model.specs.Models.{Model}
use Rattle.apply_ast.specs.Trees.{Expr, Keys, OptPipe, Step, TraverseStep}
use Rattle.context_typing.specs.Paths.{begins}
use Rattle.context_typing.specs.Shapes.{Shape}
use Rattle.context_typing.specs.Typing.{Customs, RollupPart, after, group_keys, has_kind, is_nodes, is_risky, is_sure, order_sure, rollup_part, rollup_paths, steps_shape}
use Rattle.rewrite_laws.specs.Rewrites.{FilterRun, Rule, behind, branches, concat, drop_identity, drop_true, ended, ended_inner, ended_keys, filter_branches, filter_nodes, filter_related, grouping_quiet, is_among, is_levels, is_no_rollup, join_quiet, longer, movable, node_shape, on_node, over, pass_compute, pass_grouping, pass_groups, pass_join, pass_nodes, pass_order, pass_outer_join, pass_rollup, pass_traverse, passing, paths, runs, split_conjunction, with_paths}
use Rattle.rewrite_laws.proofs.GroupingRules.{row_keys}
use Rattle.rewrite_laws.proofs.NodeRule.{node_taken, node_test}
use Rattle.walk_laws.specs.Walks.{Rules, All, Early, chooses_nodes, is_late, judged, rules_of, step_enters, step_lets, step_passed}
use Rattle.walk_laws.proofs.SameOnShapes.{after-order, after-traverse}
use Rattle.walk_laws.proofs.WalkEntering.{no-way_in}
use Rattle.walk_laws.proofs.WalkNodes.{drop-sure}
use Rattle.walk_laws.proofs.WalkPassing.{and-none}

-- where nothing is found among what is kept, each is either not kept or does not pass
none-found : {X : Type 0} (t u : X → Bool) (xs : List X) → find t (filter u xs) ≡ None → Each (λ x. (u x && t x) ≡ false) xs
none-found t u [] e = tt
none-found {X} t u (x ∷ xs) e = go (u x) (t x) refl refl (none-found t u xs) e
  where
    go : (a b : Bool) → u x ≡ a → t x ≡ b → (find t (filter u xs) ≡ None → Each (λ x. (u x && t x) ≡ false) xs) → find t (cond a (x ∷ filter u xs) (filter u xs)) ≡ None → Each (λ x. (u x && t x) ≡ false) (x ∷ xs)
    go false b p q f h = (ap (λ z. z && t x) p, f h)
    go true false p q f h = (and-none (u x) (t x) q, f (sym (ap (λ z. cond z (Some x) (find t (filter u xs))) q) ∙ h))
    go true true p q f h = none_or x (sym h ∙ ap (λ z. cond z (Some x) (find t (filter u xs))) q)

each-of_map : {X Y : Type 0} (P : Y → Type 0) (f : X → Y) (xs : List X) → Each P (map f xs) → Each (λ x. P (f x)) xs
each-of_map P f [] a = tt
each-of_map P f (x ∷ xs) a = (a.0, each-of_map P f xs a.1)

-- the run of all filters in a row is one of the runs
run-there : (P : FilterRun → Type 0) (es : List Expr) (e : Expr) (ss : List Step) → Each P (runs (map Step.Filter es ++ Step.Filter e ∷ ss)) → P (record { between = es; last = e; rest = ss })
run-there P [] e ss a = a.0
run-there P (d ∷ es) e ss a = run-there (λ r. P (longer d r)) es e ss (each-of_map P (longer d) (runs (map Step.Filter es ++ Step.Filter e ∷ ss)) a.1)

pub is_nonempty-map : {X Y : Type 0} (f : X → Y) (xs : List X) → is_nonempty (map f xs) ≡ is_nonempty xs
is_nonempty-map f [] = refl
is_nonempty-map f (x ∷ xs) = refl

-- filters may be passed by another
abbrev pub may_pass : Model → Shape → List Expr → Expr → Bool
may_pass m T es e = not (is_nonempty es) || (list_all (is_sure m T) es && is_sure m T e)

-- a filter at the end of a run that is not found
not-found : {Y : Type 0} (m : Model) (T : Shape) (test : Expr → Bool) (form : FilterRun → Y) (es : List Expr) (e : Expr) (ss : List Step) → option_map form (find (λ r. test r.last) (movable m T (map Step.Filter es ++ Step.Filter e ∷ ss))) ≡ None
    → (may_pass m T es e && test e) ≡ false
not-found m T test form es e ss h =
    let all = map Step.Filter es ++ Step.Filter e ∷ ss in
    let may : FilterRun → Bool = λ r. not (is_nonempty r.between) || (list_all (is_sure m T) r.between && is_sure m T r.last) in
    run-there (λ r. (may r && test r.last) ≡ false) es e ss (none-found (λ (r : FilterRun). test r.last) may (runs all) (unmapped form (find (λ r. test r.last) (movable m T all)) h))

-- so it passes no step that asks for the test, whatever else is asked
stays-also : (a z b : Bool) → (a && b) ≡ false → (a && z && b) ≡ false
stays-also true true b h = h
stays-also true false b h = refl
stays-also false z b h = refl

-- nor passes a longer test
longer-test : (a b z : Bool) → (a && b) ≡ false → (a && (b && z)) ≡ false
longer-test true b z h = ap (λ y. y && z) h
longer-test false b z h = refl

-- and goes into none
no-form : {X : Type 0} (a b : Bool) (x : X) → (a && b) ≡ false → (if a then then_some b x else None) ≡ None
no-form true true x h = cc
no-form true false x h = refl
no-form false b x h = refl

pub no-chain : {X Y : Type 0} (f : ℕ → ℕ → X) (g : ℕ → ℕ → Y) (z : Bool) (o p : Option ℕ) → option_and_then (λ n. option_and_then (λ k. then_some z (f n k)) p) o ≡ None → option_and_then (λ n. option_and_then (λ k. then_some z (g n k)) p) o ≡ None
no-chain f g z None p e = refl
no-chain f g z (Some n) None e = refl
no-chain f g false (Some n) (Some k) e = refl
no-chain f g true (Some n) (Some k) e = none_or (f n k) (sym e)

-- ---- the places of the rules

pub at-identity : (w : Rules) → Contains (rules_of w) drop_identity
at-identity Early = (0, omega arith, refl)
at-identity All = (0, omega arith, refl)

pub at-split : (w : Rules) → Contains (rules_of w) split_conjunction
at-split Early = (1, omega arith, refl)
at-split All = (1, omega arith, refl)

pub at-true : (w : Rules) → Contains (rules_of w) drop_true
at-true Early = (2, omega arith, refl)
at-true All = (2, omega arith, refl)

at-compute : (w : Rules) → Contains (rules_of w) pass_compute
at-compute Early = (3, omega arith, refl)
at-compute All = (3, omega arith, refl)

at-order : (w : Rules) → Contains (rules_of w) pass_order
at-order Early = (4, omega arith, refl)
at-order All = (4, omega arith, refl)

at-groups : (w : Rules) → Contains (rules_of w) pass_groups
at-groups Early = (5, omega arith, refl)
at-groups All = (5, omega arith, refl)

at-rollup : (w : Rules) → Contains (rules_of w) pass_rollup
at-rollup Early = (6, omega arith, refl)
at-rollup All = (6, omega arith, refl)

at-branches : (w : Rules) → Contains (rules_of w) filter_branches
at-branches Early = (7, omega arith, refl)
at-branches All = (7, omega arith, refl)

module _ (m : Model) (c : Customs) where
  -- no rule of a walk makes anything of a step and those behind it
  abbrev pub Nothing : Rules → Shape → Bool → Step → List Step → Type 0
  Nothing w S before x ss = (r : Rule) → Contains (rules_of w) r → r m c S before x ss ≡ None

  -- the filters behind a step, another one, and the other steps
  abbrev run : List Expr → Expr → List Step → List Step
  run es e ss = map Step.Filter es ++ Step.Filter e ∷ ss

  -- ---- a filter does not pass

  order-stays : (z : Bool) (S : Shape) (x : Step) (es : List Expr) (e : Expr) (ss : List Step) → (if z then passing m S (λ b. true) x (run es e ss) else None) ≡ None → (may_pass m S es e && z && true) ≡ false
  order-stays true S x es e ss n = stays-also (may_pass m S es e) true true (not-found m S (λ b. true) (λ r. Step.Filter r.last ∷ behind x r) es e ss n)
  order-stays false S x es e ss n = ap (λ z. z && true) (and-none (may_pass m S es e) false refl)

  -- where the rule asks for a flag of the step
  flag-stays : (z : Bool) (T : Shape) (test : Expr → Bool) (x : Step) (es : List Expr) (e : Expr) (ss : List Step) → (if z then passing m T test x (run es e ss) else None) ≡ None → (may_pass m T es e && z && test e) ≡ false
  flag-stays true T test x es e ss n = stays-also (may_pass m T es e) true (test e) (not-found m T test (λ r. Step.Filter r.last ∷ behind x r) es e ss n)
  flag-stays false T test x es e ss n = ap (λ z. z && test e) (and-none (may_pass m T es e) false refl)

  kind-stays : (k z : Bool) (T : Shape) (test : Expr → Bool) (x : Step) (es : List Expr) (e : Expr) (ss : List Step) → k ≡ true → (if k && z then passing m T test x (run es e ss) else None) ≡ None → (may_pass m T es e && z && test e) ≡ false
  kind-stays k z T test x es e ss t n = flag-stays z T test x es e ss (sym (ap (λ k. if k && z then passing m T test x (run es e ss) else None) t) ∙ n)

  group-stays : (w : Rules) (S : Shape) (before : Bool) (ks : Keys) (T : OptPipe) (es : List Expr) (e : Expr) (ss : List Step) → Nothing w S before (Step.GroupBy ks T) (run es e ss)
      → (may_pass m (after m c S (Step.GroupBy ks T)) es e && grouping_quiet m c S ks T && step_passed w (Step.GroupBy ks T) (judged m (after m c S (Step.GroupBy ks T)) e)) ≡ false
  group-stays w S before ks T es e ss none = go w (rollup_part (group_keys ks)) refl none
    where
      x : Step
      x = Step.GroupBy ks T

      U : Shape
      U = after m c S (Step.GroupBy ks T)

      test : Expr → Bool
      test b = over (row_keys ks) b && is_sure m (after m c S (Step.GroupBy ks T)) b

      by-kind : (w : Rules) (kind : RollupPart → Bool) → kind (rollup_part (group_keys ks)) ≡ true → pass_grouping kind m c S before (Step.GroupBy ks T) (run es e ss) ≡ None → (is_late w || not (is_nodes (rollup_part (group_keys ks)))) ≡ true
          → (may_pass m (after m c S (Step.GroupBy ks T)) es e && grouping_quiet m c S ks T && step_passed w (Step.GroupBy ks T) (judged m (after m c S (Step.GroupBy ks T)) e)) ≡ false
      by-kind w kind k n late =
          ap (λ z. may_pass m (after m c S (Step.GroupBy ks T)) es e && grouping_quiet m c S ks T && (z && over (row_keys ks) e && is_sure m (after m c S (Step.GroupBy ks T)) e)) late
          ∙ kind-stays (kind (rollup_part (group_keys ks))) (grouping_quiet m c S ks T) (after m c S (Step.GroupBy ks T)) (λ b. over (row_keys ks) b && is_sure m (after m c S (Step.GroupBy ks T)) b) (Step.GroupBy ks T) es e ss k n

      late-or : (b : Bool) → (b || true) ≡ true
      late-or true = refl
      late-or false = refl

      go : (w : Rules) (part : RollupPart) → rollup_part (group_keys ks) ≡ part → Nothing w S before (Step.GroupBy ks T) (run es e ss)
          → (may_pass m (after m c S (Step.GroupBy ks T)) es e && grouping_quiet m c S ks T && step_passed w (Step.GroupBy ks T) (judged m (after m c S (Step.GroupBy ks T)) e)) ≡ false
      go w RollupPart.NoRollup k none = by-kind w is_no_rollup (ap is_no_rollup k) (none pass_groups (at-groups w)) (ap (λ p. is_late w || not (is_nodes p)) k ∙ late-or (is_late w))
      go w (RollupPart.Levels all ps) k none = by-kind w is_levels (ap is_levels k) (none pass_rollup (at-rollup w)) (ap (λ p. is_late w || not (is_nodes p)) k ∙ late-or (is_late w))
      go All (RollupPart.Nodes h p) k none = by-kind All is_nodes (ap is_nodes k) (none pass_nodes (14, omega arith, refl)) refl
      go Early (RollupPart.Nodes h p) k none =
          ap (λ part. may_pass m (after m c S (Step.GroupBy ks T)) es e && grouping_quiet m c S ks T && (not (is_nodes part) && over (row_keys ks) e && is_sure m (after m c S (Step.GroupBy ks T)) e)) k
          ∙ and-none (may_pass m (after m c S (Step.GroupBy ks T)) es e && grouping_quiet m c S ks T) false refl

  join-stays : (w : Rules) (S : Shape) (before outer : Bool) (n a : Name) (T : OptPipe) (es : List Expr) (e : Expr) (ss : List Step) → Nothing w S before (Step.Join outer n a T) (run es e ss)
      → (may_pass m (after m c S (Step.Join outer n a T)) es e && join_quiet m c S n T && step_passed w (Step.Join outer n a T) (judged m (after m c S (Step.Join outer n a T)) e)) ≡ false
  join-stays Early S before outer n a T es e ss none = and-none (may_pass m (after m c S (Step.Join outer n a T)) es e && join_quiet m c S n T) false refl
  join-stays All S before false n a T es e ss none =
      let U = after m c S (Step.Join false n a T) in
      flag-stays (join_quiet m c S n T) U (λ b. not (list_any (begins a) (paths b)) && is_sure m U b) (Step.Join false n a T) es e ss (none pass_join (8, omega arith, refl))
  join-stays All S before true n a T es e ss none =
      let U = after m c S (Step.Join true n a T) in
      ap (λ z. may_pass m U es e && join_quiet m c S n T && z) (and-true (not (list_any (begins a) (paths e))))
      ∙ flag-stays (join_quiet m c S n T) U (λ b. not (list_any (begins a) (paths b))) (Step.Join true n a T) es e ss (none pass_outer_join (10, omega arith, refl))

  walk-stays : (w : Rules) (S : Shape) (before : Bool) (v : TraverseStep) (es : List Expr) (e : Expr) (ss : List Step) → Nothing w S before (Step.Traverse v) (run es e ss)
      → (may_pass m (after m c S (Step.Traverse v)) es e && not (is_risky S v.path) && step_passed w (Step.Traverse v) (judged m (after m c S (Step.Traverse v)) e)) ≡ false
  walk-stays Early S before v es e ss none = and-none (may_pass m (after m c S (Step.Traverse v)) es e && not (is_risky S v.path)) false refl
  walk-stays All S before v es e ss none =
      (λ i. may_pass m (after-traverse m c S v i) es e && not (is_risky S v.path) && is_sure m (after-traverse m c S v i) e)
      ∙ go (is_risky S v.path) (none pass_traverse (13, omega arith, refl))
    where
      go : (z : Bool) → (if z then None else passing m S (is_sure m S) (Step.Traverse v) (run es e ss)) ≡ None → (may_pass m S es e && not z && is_sure m S e) ≡ false
      go true n = ap (λ z. z && is_sure m S e) (and-none (may_pass m S es e) false refl)
      go false n = flag-stays true S (is_sure m S) (Step.Traverse v) es e ss n

  -- a filter does not pass a step by which no rule makes anything
  pub step-stays : (w : Rules) (S : Shape) (before : Bool) (x : Step) (es : List Expr) (e : Expr) (ss : List Step) → Nothing w S before x (run es e ss)
      → (may_pass m (after m c S x) es e && step_lets m c S x && step_passed w x (judged m (after m c S x) e)) ≡ false
  step-stays w S before (Step.Compute ns) es e ss none =
      let test : Expr → Bool = λ b. not (list_any (is_among (map (λ x. x.name ∷ []) ns)) (paths b)) in
      flag-stays true (after m c S (Step.Compute ns)) test (Step.Compute ns) es e ss (none pass_compute (at-compute w))
  step-stays w S before (Step.OrderBy items) es e ss none =
      (λ i. may_pass m (after-order m c S items i) es e && order_sure m S items && true)
      ∙ order-stays (order_sure m S items) S (Step.OrderBy items) es e ss (none pass_order (at-order w))
  step-stays w S before (Step.GroupBy ks T) es e ss none = group-stays w S before ks T es e ss none
  step-stays w S before (Step.Join outer n a T) es e ss none = join-stays w S before outer n a T es e ss none
  step-stays w S before (Step.Traverse v) es e ss none = walk-stays w S before v es e ss none
  step-stays w S before x es e ss none = and-none (may_pass m (after m c S x) es e && step_lets m c S x) false refl

  -- ---- a filter does not go in

  -- a filter does not go to the nodes
  abbrev IsOut : Shape → Keys → OptPipe → List Expr → Expr → Option (Shape × Name) → Bool → Type 0
  IsOut S ks T es e o z = (if may_pass m (after m c S (Step.GroupBy ks T)) es e then (if z && is_sure m (after m c S (Step.GroupBy ks T)) e then option_and_then (λ N. then_some (chooses_nodes m ks N e) (on_node N.1 e)) o else None) else None) ≡ None

  nodes-out : (w : Rules) (S : Shape) (before : Bool) (ks : Keys) (T : OptPipe) (es : List Expr) (e : Expr) (ss : List Step) → Nothing w S before (Step.GroupBy ks T) (run es e ss)
      → (if may_pass m (after m c S (Step.GroupBy ks T)) es e then step_enters w m c S (Step.GroupBy ks T) (judged m (after m c S (Step.GroupBy ks T)) e) else None) ≡ None
  nodes-out Early S before ks T es e ss none = no-way_in (may_pass m (after m c S (Step.GroupBy ks T)) es e) None refl
  nodes-out All S before ks T es e ss none = go (node_shape m c ks) (none filter_nodes (15, omega arith, refl))
    where
      given : (b z : Bool) (N : Shape × Name) → (b && (is_nonempty (paths e) && over (rollup_paths (rollup_part (group_keys ks))) e && z && has_kind is_boolean_kind m N.0 (on_node N.1 e) && is_sure m N.0 (on_node N.1 e))) ≡ false
          → (if b then (if z then then_some (chooses_nodes m ks N e) (on_node N.1 e) else None) else None) ≡ None
      given true z N h = drop-sure (is_nonempty (paths e)) (over (rollup_paths (rollup_part (group_keys ks))) e) z (has_kind is_boolean_kind m N.0 (on_node N.1 e)) (is_sure m N.0 (on_node N.1 e)) (on_node N.1 e) h
      given false z N h = refl

      some : (z : Bool) (N : Shape × Name) → (if z then node_taken m c S ks T (run es e ss) N else None) ≡ None → IsOut S ks T es e (Some N) z
      some true N n = given (may_pass m (after m c S (Step.GroupBy ks T)) es e) (is_sure m (after m c S (Step.GroupBy ks T)) e) N
          (not-found m (after m c S (Step.GroupBy ks T)) (node_test m c S ks T N) (λ r. behind (Step.GroupBy (ended_keys (Step.Filter (on_node N.1 r.last)) ks) T) r) es e ss n)
      some false N n = no-way_in (may_pass m (after m c S (Step.GroupBy ks T)) es e) None refl

      go : (o : Option (Shape × Name)) → option_and_then (λ N. if is_nodes (rollup_part (group_keys ks)) && grouping_quiet m c S ks T then node_taken m c S ks T (run es e ss) N else None) o ≡ None → IsOut S ks T es e o (is_nodes (rollup_part (group_keys ks)) && grouping_quiet m c S ks T)
      go None n = no-way_in (may_pass m (after m c S (Step.GroupBy ks T)) es e) (if is_nodes (rollup_part (group_keys ks)) && grouping_quiet m c S ks T && is_sure m (after m c S (Step.GroupBy ks T)) e then None else None) (no-way_in (is_nodes (rollup_part (group_keys ks)) && grouping_quiet m c S ks T && is_sure m (after m c S (Step.GroupBy ks T)) e) None refl)
      go (Some N) n = some (is_nodes (rollup_part (group_keys ks)) && grouping_quiet m c S ks T) N n

  join-out : (w : Rules) (S : Shape) (before outer : Bool) (n a : Name) (T : OptPipe) (es : List Expr) (e : Expr) (ss : List Step) → Nothing w S before (Step.Join outer n a T) (run es e ss)
      → (if may_pass m (after m c S (Step.Join outer n a T)) es e then step_enters w m c S (Step.Join outer n a T) (judged m (after m c S (Step.Join outer n a T)) e) else None) ≡ None
  join-out w S before true n a T es e ss none = no-way_in (may_pass m (after m c S (Step.Join true n a T)) es e) None refl
  join-out Early S before false n a T es e ss none = no-way_in (may_pass m (after m c S (Step.Join false n a T)) es e) None refl
  join-out All S before false n a T es e ss none =
      let U = after m c S (Step.Join false n a T) in
      let inside = is_nonempty (paths e) && list_all (begins a) (paths e) in
      let longer = list_all (λ p. nat_lt 1 (length p)) (paths e) in
      no-form (may_pass m U es e) (inside && longer) (with_paths (drop 1) e)
      (longer-test (may_pass m U es e) inside longer
      (not-found m U (λ b. is_nonempty (paths b) && list_all (begins a) (paths b)) (λ r. behind (Step.Join false n a (ended_inner T (Step.Filter (with_paths (drop 1) r.last)))) r) es e ss (none filter_related (9, omega arith, refl))))

  pub step-out : (w : Rules) (S : Shape) (before : Bool) (x : Step) (es : List Expr) (e : Expr) (ss : List Step) → Nothing w S before x (run es e ss)
      → (if may_pass m (after m c S x) es e then step_enters w m c S x (judged m (after m c S x) e) else None) ≡ None
  step-out w S before (Step.GroupBy ks T) es e ss none = nodes-out w S before ks T es e ss none
  step-out w S before (Step.Join outer n a T) es e ss none = join-out w S before outer n a T es e ss none
  step-out w S before (Step.Concat ps) es e ss none =
      let U = after m c S (Step.Concat ps) in
      let test : Expr → Bool = λ b. list_all (λ p. is_some_and (λ S'. has_kind is_boolean_kind m S' b) (steps_shape m c S p)) (branches ps) in
      no-form (may_pass m U es e) (test e) e (not-found m U test (λ r. behind (concat (map (λ p. ended p (Step.Filter r.last)) (branches ps))) r) es e ss (none filter_branches (at-branches w)))
  step-out w S before x es e ss none = no-way_in (may_pass m (after m c S x) es e) None refl
