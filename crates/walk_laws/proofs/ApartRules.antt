-- Each rule but the ninth keeps the branches of concatenations apart at its place, and the ninth makes nothing where they are.
use Rattle.std.proofs.Common.{◌≡◌, min, refl, sym, ◌∙◌, ap, subst, Bool, true, false, not, ◌&&◌, ◌||◌, List, [], ◌∷◌, ◌++◌, drop, ℕ, Option, Some, None, map, find, if◌then◌else◌}
use Rattle.std.specs.Prelude.{option_and_then, option_map}
use Rattle.std.specs.Bool.{then_some}
use Rattle.std.specs.List.{last_or, list_all, list_any}
use Rattle.std.proofs.lemmas.Bool.{and_from, and_parts, true≢false}
use Rattle.edm_values.specs.Lists.{is_nonempty, is_some_and}
use Rattle.edm_values.specs.Literals.{is_boolean_kind}
use Rattle.edm_values.specs.Names.{Name, Path}
use Rattle.edm_values.proofs.OptionFacts.{chained, if_else-parts, if_some, mapped, none_or, some_value, then_some-parts}
use Rattle.edm_model.specs.Models.{Model}
use Rattle.apply_ast.specs.Trees.{Expr, HierName, Limit, OptPipe, Pipe, Step, TopStep, pipe, steps}
use Rattle.apply_ast.specs.declared.expressions.BinOp.TheVariants as BinOp
use Rattle.context_typing.specs.Paths.{begins}
use Rattle.context_typing.specs.Shapes.{Shape}
use Rattle.context_typing.specs.Typing.{Customs, RollupPart, after, group_keys, has_kind, is_nodes, is_risky, is_sure, order_sure, rollup_part, steps_shape}
use Rattle.context_typing.proofs.WalkFacts.{pipe-steps}
use Rattle.rewrite_laws.specs.Rewrites.{Rule, all_but_last, behind, branches, concat, drop_identity, drop_idle, drop_order, drop_true, ended, ended_inner, ended_keys, filter_branches, filter_nodes, filter_related, grouping_quiet, is_among, is_idle, join_counts, join_quiet, movable, node_shape, on_node, over, pass_compute, pass_grouping, pass_join, pass_order, pass_outer_join, pass_traverse, passing, paths, pipe_or_identity, split_conjunction, top_count, with_paths}
use Rattle.rewrite_laws.specs.TreeEquality.{expr_same, step_same}
use Rattle.rewrite_laws.proofs.GroupingRules.{row_keys}
use Rattle.rewrite_laws.proofs.NodeRule.{node_taken, node_test}
use Rattle.rewrite_laws.proofs.RuleLemmas.{filters, movable-found, pipe-filters}
use Rattle.rewrite_laws.proofs.StepLists.{last-split}
use Rattle.walk_laws.specs.Apart.{first_kind, inner_apart, is_closed, is_firm, is_held, is_loose, keeps_orders, kind_of, leads_to, may_go, never_first, stays_apart, step_apart}
use Rattle.walk_laws.proofs.ApartSteps.{KeptSteps, apart-appended, apart-ended_inner, apart-ended_keys, apart-filters, apart-identity, concat-apart, concat-leads, ended-kept, grouping-leads, held-closed, leads-behind, leads-filters, never-filter, never-filters, never-identity, never-stays, open-filters, open-first, soft-first}

-- what a rule makes of steps leads to the same, is closed where they are, and stays apart
abbrev pub KeepsApart : Model → Customs → Rule → Type 0
KeepsApart m c r = (S : Shape) (before : Bool) (s : Step) (ss ss' : List Step) → r m c S before s ss ≡ Some ss' → KeptSteps (pipe (s ∷ ss)) (pipe ss')

-- steps whose first is not firm come to others
kept-soft : (s : Step) (p q : Pipe) → is_firm s ≡ false → ((x : Step) → is_firm x ≡ true → leads_to x q ≡ leads_to x (Pipe.Then s p)) → (is_closed (Pipe.Then s p) ≡ true → is_closed q ≡ true) → (stays_apart (Pipe.Then s p) ≡ true → stays_apart q ≡ true)
    → ((x : Step) → is_loose x ≡ false → never_first x (Pipe.Then s p) ≡ true → never_first x q ≡ true) → (is_closed (Pipe.Then s p) ≡ true → keeps_orders (Pipe.Then s p) ≡ true → keeps_orders q ≡ true)
    → (is_held (Pipe.Then s p) ≡ true → (is_held q ≡ true) × (first_kind q ≡ first_kind (Pipe.Then s p))) → KeptSteps (Pipe.Then s p) q
kept-soft s p q e leads closed apart never orders held = record {
  never = never;
  orders = orders;
  held = held;
  leads = λ x f l. leads x f;
  closed = closed;
  first = λ h. absurd (soft-first s p e h);
  apart = apart;
}

-- filters may pass a step
record IsOpen (x : Step) : Type 0 where
  tight : is_loose x ≡ false
  passed : (p : Pipe) → is_closed (Pipe.Then x p) ≡ is_closed p

-- a filter that passes
passing-kept : (m : Model) (T : Shape) (test : Expr → Bool) (x : Step) (ss ss' : List Step) → IsOpen x → passing m T test x ss ≡ Some ss' → KeptSteps (pipe (x ∷ ss)) (pipe ss')
passing-kept m T test x ss ss' o got =
    let t = mapped (λ r. Step.Filter r.last ∷ behind x r) (find (λ r. test r.last) (movable m T ss)) ss' got in
    let r = movable-found m T test ss t.0 t.1 in
    let es = (t.0).between in
    let b = (t.0).last in
    let p = pipe (t.0).rest in
    let from = ap pipe r.whole ∙ pipe-filters es (Step.Filter b ∷ (t.0).rest) in
    let into : pipe ss' ≡ Pipe.Then (Step.Filter b) (Pipe.Then x (filters es p)) = sym (ap pipe t.2) ∙ ap (λ p. Pipe.Then (Step.Filter b) (Pipe.Then x p)) (pipe-filters es (t.0).rest) in
    let was = filters es (Pipe.Then (Step.Filter b) p) in
    let shut : is_closed (Pipe.Then x was) ≡ false = open-filters x o.passed es b p in
    let K : Pipe → Type 0 = λ z. KeptSteps (Pipe.Then x z) (pipe ss') in
    subst K (sym from) (subst (KeptSteps (Pipe.Then x was)) (sym into) (record {
      leads = λ y f l. leads-behind y x was (filters es p) (leads-filters y es p ∙ sym (leads-filters y es (Pipe.Then (Step.Filter b) p)));
      closed = λ h. absurd (true≢false (sym h ∙ shut));
      first = λ h. absurd (open-first x was o.tight shut h);
      apart = λ h. ap (λ z. step_apart x && z) (apart-filters es p ∙ sym (apart-filters es (Pipe.Then (Step.Filter b) p))) ∙ h;
      never = λ y l h.
          never-filter y b (Pipe.Then x (filters es p)) l
          ∙ ap (λ z. not (step_same y (kind_of x)) && (not (may_go x) || z)) (never-filters y es p l ∙ sym (never-filters y es (Pipe.Then (Step.Filter b) p) l ∙ never-filter y b p l)) ∙ h;
      orders = λ c h. absurd (true≢false (sym c ∙ shut));
      held = λ h. absurd (true≢false (sym (held-closed x was h) ∙ shut));
    }))

-- a filter that goes in
taking-kept : (m : Model) (T : Shape) (test : Expr → Bool) (x : Step) (into : Expr → Step) (ss ss' : List Step) → is_firm x ≡ false → option_map (λ r. behind (into r.last) r) (find (λ r. test r.last) (movable m T ss)) ≡ Some ss'
    → ((y : Step) (b : Expr) (p q : Pipe) → is_firm y ≡ true → leads_to y (Pipe.Then (into b) q) ≡ leads_to y (Pipe.Then x p))
    → ((es : List Expr) (b : Expr) (p : Pipe) → is_closed (Pipe.Then x (filters es (Pipe.Then (Step.Filter b) p))) ≡ true → is_closed (Pipe.Then (into b) (filters es p)) ≡ true)
    → ((b : Expr) → step_apart x ≡ true → step_apart (into b) ≡ true) → may_go x ≡ false → ((b : Expr) → (may_go (into b) ≡ false) × (kind_of (into b) ≡ kind_of x) × ((p : Pipe) → keeps_orders (Pipe.Then (into b) p) ≡ true))
    → ((es : List Expr) (b : Expr) (p : Pipe) → is_held (Pipe.Then x (filters es (Pipe.Then (Step.Filter b) p))) ≡ true → ⊥) → KeptSteps (pipe (x ∷ ss)) (pipe ss')
taking-kept m T test x into ss ss' soft got same closed inside stays kinds unheld =
    let t = mapped (λ r. behind (into r.last) r) (find (λ r. test r.last) (movable m T ss)) ss' got in
    let r = movable-found m T test ss t.0 t.1 in
    let es = (t.0).between in
    let b = (t.0).last in
    let p = pipe (t.0).rest in
    let from = ap pipe r.whole ∙ pipe-filters es (Step.Filter b ∷ (t.0).rest) in
    let to : pipe ss' ≡ Pipe.Then (into b) (filters es p) = sym (ap pipe t.2) ∙ ap (λ p. Pipe.Then (into b) p) (pipe-filters es (t.0).rest) in
    let was = filters es (Pipe.Then (Step.Filter b) p) in
    let K : Pipe → Type 0 = λ z. KeptSteps (Pipe.Then x z) (pipe ss') in
    subst K (sym from) (subst (KeptSteps (Pipe.Then x was)) (sym to)
    (kept-soft x was (Pipe.Then (into b) (filters es p)) soft (λ y f. same y b was (filters es p) f) (closed es b p)
    (λ h.
    let u = and_parts (step_apart x) (stays_apart was) h in
    and_from (step_apart (into b)) (stays_apart (filters es p)) (inside b u.0) (apart-filters es p ∙ sym (apart-filters es (Pipe.Then (Step.Filter b) p)) ∙ u.1))
    (λ y l h. never-stays y (into b) (filters es p) (kinds b).0 ∙ ap (λ z. not (step_same y z)) (kinds b).1 ∙ sym (never-stays y x was stays) ∙ h)
    (λ c h. (kinds b).2 (filters es p))
    (λ h. absurd (unheld es b p h))))

-- a step that filters may pass does not close what is behind
never-closed : (x : Step) → ((p : Pipe) → is_closed (Pipe.Then x p) ≡ is_closed p) → (es : List Expr) (b : Expr) (p : Pipe) → is_closed (Pipe.Then x (filters es (Pipe.Then (Step.Filter b) p))) ≡ true → ⊥
never-closed x o es b p h = true≢false (sym h ∙ open-filters x o es b p)

-- ---- the rules

module _ (m : Model) (c : Customs) where
  pub identity-apart : KeepsApart m c drop_identity
  identity-apart S before Step.Identity ss ss' e =
      subst (λ l. KeptSteps (Pipe.Then Step.Identity (pipe ss)) (pipe l)) (then_some-parts (before || is_nonempty ss) ss ss' e).1
      (kept-soft Step.Identity (pipe ss) (pipe ss) refl (λ x f. refl) (λ h. cc) (λ h. h) (λ x l h. sym (never-identity x (pipe ss) l) ∙ h) (λ c h. cc) (λ h. cc))
  identity-apart S before s ss ss' e = none_or ss' e

  pub split-apart : KeepsApart m c split_conjunction
  split-apart S before (Step.Filter (Expr.Binary BinOp.And a b)) ss ss' e =
      let x = Step.Filter (Expr.Binary BinOp.And a b) in
      let made = Step.Filter a ∷ Step.Filter b ∷ ss in
      subst (λ l. KeptSteps (Pipe.Then x (pipe ss)) (pipe l)) (then_some-parts (is_sure m S b) made ss' e).1
      (kept-soft x (pipe ss) (pipe made) refl (λ y f. refl) (λ h. h) (λ h. h)
      (λ y l h. never-filter y a (Pipe.Then (Step.Filter b) (pipe ss)) l ∙ never-filter y b (pipe ss) l ∙ sym (never-filter y (Expr.Binary BinOp.And a b) (pipe ss) l) ∙ h) (λ c h. cc) (λ h. cc))
  split-apart S before s ss ss' e = none_or ss' e

  pub true-apart : KeepsApart m c drop_true
  true-apart S before (Step.Filter (Expr.Bool' true)) ss ss' e =
      let x = Step.Filter (Expr.Bool' true) in
      subst (λ l. KeptSteps (Pipe.Then x (pipe ss)) (pipe l)) (some_value e)
      (kept-soft x (pipe ss) (Pipe.Then Step.Identity (pipe ss)) refl (λ y f. refl) (λ h. h) (λ h. h)
      (λ y l h. never-identity y (pipe ss) l ∙ sym (never-filter y (Expr.Bool' true) (pipe ss) l) ∙ h) (λ c h. cc) (λ h. cc))
  true-apart S before s ss ss' e = none_or ss' e

  pub compute-apart : KeepsApart m c pass_compute
  compute-apart S before (Step.Compute ns) ss ss' e = passing-kept m (after m c S (Step.Compute ns)) (λ b. not (list_any (is_among (map (λ x. x.name ∷ []) ns)) (paths b))) (Step.Compute ns) ss ss' (record { tight = refl; passed = λ p. refl }) e
  compute-apart S before s ss ss' e = none_or ss' e

  pub order-apart : KeepsApart m c pass_order
  order-apart S before (Step.OrderBy items) ss ss' e = passing-kept m S (λ b. true) (Step.OrderBy items) ss ss' (record { tight = refl; passed = λ p. refl }) (if_else-parts (order_sure m S items) (passing m S (λ b. true) (Step.OrderBy items) ss) ss' e).1
  order-apart S before s ss ss' e = none_or ss' e

  pub grouping-apart : (kind : RollupPart → Bool) → KeepsApart m c (pass_grouping kind)
  grouping-apart kind S before (Step.GroupBy ks T) ss ss' e =
      let x = Step.GroupBy ks T in
      let test : Expr → Bool = λ b. over (row_keys ks) b && is_sure m (after m c S x) b in
      passing-kept m (after m c S x) test x ss ss' (record { tight = refl; passed = λ p. refl }) (if_else-parts (kind (rollup_part (group_keys ks)) && grouping_quiet m c S ks T) (passing m (after m c S x) test x ss) ss' e).1
  grouping-apart kind S before s ss ss' e = none_or ss' e

  pub branches-apart : KeepsApart m c filter_branches
  branches-apart S before (Step.Concat ps) ss ss' e =
      let x = Step.Concat ps in
      let into : Expr → Step = λ b. concat (map (λ p. ended p (Step.Filter b)) (branches ps)) in
      taking-kept m (after m c S x) (λ b. list_all (λ p. is_some_and (λ S'. has_kind is_boolean_kind m S' b) (steps_shape m c S p)) (branches ps)) x into ss ss' refl e
      (λ y b p q f. concat-leads y ps _ f p q) (λ es b p h. refl) (λ b. concat-apart ps _ (ended-kept ps b)) refl (λ b. (refl, refl, λ p. refl)) (λ es b p h. true≢false (sym h))
  branches-apart S before s ss ss' e = none_or ss' e

  pub join-apart : KeepsApart m c pass_join
  join-apart S before (Step.Join false n a T) ss ss' e =
      let x = Step.Join false n a T in
      let test : Expr → Bool = λ b. not (list_any (begins a) (paths b)) && is_sure m (after m c S x) b in
      passing-kept m (after m c S x) test x ss ss' (record { tight = refl; passed = λ p. refl }) (if_else-parts (join_quiet m c S n T) (passing m (after m c S x) test x ss) ss' e).1
  join-apart S before s ss ss' e = none_or ss' e

  no-join : (x : Step) (outer : Bool) (n a : Name) (T : OptPipe) (p : Pipe) → is_firm x ≡ true → leads_to x (Pipe.Then (Step.Join outer n a T) p) ≡ false
  no-join (Step.Join o n' a' T') outer n a T p f = cc
  no-join x outer n a T p f = refl

  pub related-apart : KeepsApart m c filter_related
  related-apart S before (Step.Join false n a T) ss ss' e =
      let x = Step.Join false n a T in
      taking-kept m (after m c S x) (λ b. is_nonempty (paths b) && list_all (begins a) (paths b)) x (λ b. Step.Join false n a (ended_inner T (Step.Filter (with_paths (drop 1) b)))) ss ss' refl e
      (λ y b p q f. no-join y false n a (ended_inner T (Step.Filter (with_paths (drop 1) b))) q f ∙ sym (no-join y false n a T p f))
      (λ es b p h. absurd (never-closed x (λ p. refl) es b p h))
      (λ b h. apart-ended_inner T (with_paths (drop 1) b) ∙ h)
      refl (λ b. (refl, refl, λ p. refl)) (λ es b p h. never-closed x (λ p. refl) es b p (held-closed x (filters es (Pipe.Then (Step.Filter b) p)) h))
  related-apart S before s ss ss' e = none_or ss' e

  pub outer_join-apart : KeepsApart m c pass_outer_join
  outer_join-apart S before (Step.Join true n a T) ss ss' e =
      let x = Step.Join true n a T in
      let test : Expr → Bool = λ b. not (list_any (begins a) (paths b)) in
      passing-kept m (after m c S x) test x ss ss' (record { tight = refl; passed = λ p. refl }) (if_else-parts (join_quiet m c S n T) (passing m (after m c S x) test x ss) ss' e).1
  outer_join-apart S before s ss ss' e = none_or ss' e

  pub aggregate-apart : KeepsApart m c drop_order
  aggregate-apart S before (Step.OrderBy items) (Step.Aggregate as' ∷ ss) ss' e =
      let made = Step.Aggregate as' ∷ ss in
      subst (λ l. KeptSteps (Pipe.Then (Step.OrderBy items) (pipe made)) (pipe l)) (then_some-parts (order_sure m S items) made ss' e).1
      (kept-soft (Step.OrderBy items) (pipe made) (pipe made) refl (λ x f. refl) (λ h. refl) (λ h. h)
      (λ x l h. (and_parts (not (step_same x (Step.OrderBy items))) (never_first x (pipe made)) h).1) (λ c h. cc) (λ h. cc))
  aggregate-apart S before s ss ss' e = none_or ss' e

  no-count : (x : Step) (t : TopStep) (p : Pipe) → is_firm x ≡ true → leads_to x (Pipe.Then (Step.TopBy t) p) ≡ false
  no-count (Step.TopBy u) t p f = cc
  no-count x t p f = refl

  pub count-apart : KeepsApart m c join_counts
  count-apart S before (Step.TopBy t) (Step.TopBy u ∷ ss) ss' e =
      let a = chained (λ n. option_and_then (λ k. then_some (expr_same t.expr u.expr) (Step.TopBy (record t { limit = Limit.Count (min n k) }) ∷ ss)) (top_count u.bottom u.limit)) (top_count t.bottom t.limit) ss' e in
      let b = chained (λ k. then_some (expr_same t.expr u.expr) (Step.TopBy (record t { limit = Limit.Count (min a.0 k) }) ∷ ss)) (top_count u.bottom u.limit) ss' a.2 in
      let both = record t { limit = Limit.Count (min a.0 b.0) } in
      subst (λ l. KeptSteps (Pipe.Then (Step.TopBy t) (Pipe.Then (Step.TopBy u) (pipe ss))) (pipe l)) (then_some-parts (expr_same t.expr u.expr) (Step.TopBy both ∷ ss) ss' b.2).1
      (kept-soft (Step.TopBy t) (Pipe.Then (Step.TopBy u) (pipe ss)) (Pipe.Then (Step.TopBy both) (pipe ss)) refl
      (λ x f. no-count x both (pipe ss) f ∙ sym (no-count x t (Pipe.Then (Step.TopBy u) (pipe ss)) f)) (λ h. refl) (λ h. h) (λ x l h. h) (λ c h. refl) (λ h. (refl, refl)))
  count-apart S before s ss ss' e = none_or ss' e

  pub traverse-apart : KeepsApart m c pass_traverse
  traverse-apart S before (Step.Traverse v) ss ss' e = passing-kept m S (is_sure m S) (Step.Traverse v) ss ss' (record { tight = refl; passed = λ p. refl }) (if_some (is_risky S v.path) (passing m S (is_sure m S) (Step.Traverse v) ss) ss' e).1
  traverse-apart S before s ss ss' e = none_or ss' e

  pub nodes-apart : KeepsApart m c filter_nodes
  nodes-apart S before (Step.GroupBy ks T) ss ss' e =
      let x = Step.GroupBy ks T in
      let N = chained (λ N. if is_nodes (rollup_part (group_keys ks)) && grouping_quiet m c S ks T then node_taken m c S ks T ss N else None) (node_shape m c ks) ss' e in
      let q = if_else-parts (is_nodes (rollup_part (group_keys ks)) && grouping_quiet m c S ks T) (node_taken m c S ks T ss N.0) ss' N.2 in
      taking-kept m (after m c S x) (node_test m c S ks T N.0) x (λ b. Step.GroupBy (ended_keys (Step.Filter (on_node (N.0).1 b)) ks) T) ss ss' refl q.1
      (λ y b p r f. grouping-leads y ks (ended_keys (Step.Filter (on_node (N.0).1 b)) ks) T T f p r)
      (λ es b p h. absurd (never-closed x (λ p. refl) es b p h))
      (λ b h. ap (λ z. z && inner_apart T) (apart-ended_keys ks (on_node (N.0).1 b)) ∙ h)
      refl (λ b. (refl, refl, λ p. refl)) (λ es b p h. never-closed x (λ p. refl) es b p (held-closed x (filters es (Pipe.Then (Step.Filter b) p)) h))
  nodes-apart S before s ss ss' e = none_or ss' e

  no-climb : (x : Step) (up : Bool) (h : HierName) (p : Path) (T : Pipe) (d : Option ℕ) (keep : Bool) (q : Pipe) → is_firm x ≡ true → leads_to x (Pipe.Then (Step.Climb up h p T d keep) q) ≡ false
  no-climb (Step.Climb up' h' p' T' d' keep') up h p T d keep q f = cc
  no-climb x up h p T d keep q f = refl

  pub idle-apart : KeepsApart m c drop_idle
  idle-apart S before (Step.Climb up h p T d keep) ss ss' e =
      let t = chained (λ x. then_some (is_some_and (λ S'. is_idle m S' p x) (steps_shape m c S (pipe (all_but_last T)))) (Step.Climb up h p (pipe_or_identity (all_but_last T)) d keep ∷ ss)) (last_or None (steps T)) ss' e in
      let made = Step.Climb up h p (pipe_or_identity (all_but_last T)) d keep ∷ ss in
      let v = then_some-parts (is_some_and (λ S'. is_idle m S' p t.0) (steps_shape m c S (pipe (all_but_last T)))) made ss' t.2 in
      let whole : T ≡ pipe (all_but_last T ++ t.0 ∷ []) = sym (pipe-steps T) ∙ ap pipe (last-split (steps T) t.0 t.1) in
      subst (λ l. KeptSteps (Pipe.Then (Step.Climb up h p T d keep) (pipe ss)) (pipe l)) v.1
      (kept-soft (Step.Climb up h p T d keep) (pipe ss) (pipe made) refl
      (λ x f. no-climb x up h p (pipe_or_identity (all_but_last T)) d keep (pipe ss) f ∙ sym (no-climb x up h p T d keep (pipe ss) f))
      (λ h. refl)
      (λ u.
      let z = and_parts (stays_apart T) (stays_apart (pipe ss)) u in
      let rest = (and_parts (stays_apart (pipe (all_but_last T))) _ (sym (ap stays_apart whole ∙ apart-appended (all_but_last T) (t.0 ∷ [])) ∙ z.0)).0 in
      and_from (stays_apart (pipe_or_identity (all_but_last T))) (stays_apart (pipe ss)) (apart-identity (all_but_last T) ∙ rest) z.1) (λ x l h. h) (λ c h. refl) (λ h. (refl, refl)))
  idle-apart S before s ss ss' e = none_or ss' e
