-- No rule makes a concatenation of steps without any.
use Rattle.std.proofs.Common.{◌≡◌, min, refl, sym, ◌∙◌, ap, Bool, true, false, not, ◌&&◌, ◌||◌, List, [], ◌∷◌, ◌++◌, Some, None, map, find, drop, if◌then◌else◌}
use Rattle.std.specs.Prelude.{option_and_then, option_map}
use Rattle.std.specs.Bool.{then_some}
use Rattle.std.specs.List.{last_or, list_all, list_any}
use Rattle.std.proofs.Math.Bool.{and-true, and_assoc}
use Rattle.std.proofs.lemmas.Bool.{and_from, and_parts}
use Rattle.edm_values.specs.Lists.{is_nonempty, is_some_and}
use Rattle.edm_values.proofs.OptionFacts.{chained, if_else-parts, if_some, mapped, none_or, some_value, then_some-parts}
use Rattle.edm_model.specs.Models.{Model}
use Rattle.apply_ast.specs.Trees.{Expr, Key, Keys, Limit, OptPipe, Pipe, Step, pipe, steps}
use Rattle.apply_ast.specs.declared.expressions.BinOp.TheVariants as BinOp
use Rattle.context_typing.specs.Paths.{begins}
use Rattle.context_typing.specs.Shapes.{Shape}
use Rattle.context_typing.specs.Typing.{Customs, RollupPart, after, group_keys, is_nodes, is_risky, is_sure, order_sure, rollup_part, steps_shape}
use Rattle.context_typing.proofs.WalkFacts.{pipe-steps}
use Rattle.rewrite_laws.specs.Rewrites.{Rule, all_but_last, behind, drop_identity, drop_idle, drop_order, drop_true, ended, ended_inner, ended_key, ended_keys, factor_branches, filter_branches, filter_nodes, filter_related, grouping_quiet, is_among, is_idle, join_counts, join_quiet, movable, node_shape, on_node, over, pass_compute, pass_grouping, pass_join, pass_order, pass_outer_join, pass_traverse, passing, paths, pipe_or_identity, split_conjunction, top_count, with_paths}
use Rattle.rewrite_laws.specs.TreeEquality.{expr_same}
use Rattle.rewrite_laws.proofs.GroupingRules.{row_keys}
use Rattle.rewrite_laws.proofs.NodeRule.{node_taken, node_test}
use Rattle.rewrite_laws.proofs.RuleLemmas.{filters, movable-found, pipe-filters}
use Rattle.rewrite_laws.proofs.StepLists.{last-split}
use Rattle.walk_laws.specs.Walks.{is_unbranched, unbranched_inner, unbranched_key, unbranched_keys, unbranched_step}

-- what a rule makes of steps without a concatenation has none
abbrev pub KeepsUnbranched : Model → Customs → Rule → Type 0
KeepsUnbranched m c r = (S : Shape) (before : Bool) (s : Step) (ss ss' : List Step) → r m c S before s ss ≡ Some ss' → is_unbranched (pipe (s ∷ ss)) ≡ true → is_unbranched (pipe ss') ≡ true

-- ---- filters, and steps one after the other

with-filters : (es : List Expr) (p : Pipe) → is_unbranched (filters es p) ≡ is_unbranched p
with-filters [] p = refl
with-filters (e ∷ es) p = with-filters es p

appended : (ss ts : List Step) → is_unbranched (pipe (ss ++ ts)) ≡ (is_unbranched (pipe ss) && is_unbranched (pipe ts))
appended [] ts = refl
appended (s ∷ ss) ts = ap (λ z. unbranched_step s && z) (appended ss ts) ∙ sym (and_assoc (unbranched_step s) (is_unbranched (pipe ss)) (is_unbranched (pipe ts)))

with-ended : (p : Pipe) (e : Expr) → is_unbranched (ended p (Step.Filter e)) ≡ is_unbranched p
with-ended p e = appended (steps p) (Step.Filter e ∷ []) ∙ and-true (is_unbranched (pipe (steps p))) ∙ ap is_unbranched (pipe-steps p)

with-ended_inner : (T : OptPipe) (e : Expr) → unbranched_inner (ended_inner T (Step.Filter e)) ≡ unbranched_inner T
with-ended_inner OptPipe.NoPipe e = refl
with-ended_inner (OptPipe.SomePipe p) e = with-ended p e

with-ended_key : (k : Key) (e : Expr) → unbranched_key (ended_key (Step.Filter e) k) ≡ unbranched_key k
with-ended_key (Key.Plain p) e = refl
with-ended_key (Key.Rollup all ps) e = refl
with-ended_key (Key.Recursive h p T) e = with-ended_inner T e

with-ended_keys : (ks : Keys) (e : Expr) → unbranched_keys (ended_keys (Step.Filter e) ks) ≡ unbranched_keys ks
with-ended_keys Keys.NoKeys e = refl
with-ended_keys (Keys.MoreKeys k ks) e = λ i. with-ended_key k e i && with-ended_keys ks e i

with-identity : (ss : List Step) → is_unbranched (pipe_or_identity ss) ≡ is_unbranched (pipe ss)
with-identity [] = refl
with-identity (s ∷ ss) = refl

-- a filter that passes
passing-kept : (m : Model) (T : Shape) (test : Expr → Bool) (x : Step) (ss ss' : List Step) → passing m T test x ss ≡ Some ss' → is_unbranched (pipe (x ∷ ss)) ≡ true → is_unbranched (pipe ss') ≡ true
passing-kept m T test x ss ss' got h =
    let t = mapped (λ r. Step.Filter r.last ∷ behind x r) (find (λ r. test r.last) (movable m T ss)) ss' got in
    let r = movable-found m T test ss t.0 t.1 in
    let es = (t.0).between in
    let b = (t.0).last in
    let p = pipe (t.0).rest in
    let from = ap pipe r.whole ∙ pipe-filters es (Step.Filter b ∷ (t.0).rest) in
    let into : pipe ss' ≡ Pipe.Then (Step.Filter b) (Pipe.Then x (filters es p)) = sym (ap pipe t.2) ∙ ap (λ p. Pipe.Then (Step.Filter b) (Pipe.Then x p)) (pipe-filters es (t.0).rest) in
    ap is_unbranched into
    ∙ ap (λ z. unbranched_step x && z) (with-filters es p)
    ∙ sym (ap (λ z. unbranched_step x && z) (ap is_unbranched from ∙ with-filters es (Pipe.Then (Step.Filter b) p)))
    ∙ h

-- a filter that goes in
taking-kept : (m : Model) (T : Shape) (test : Expr → Bool) (x : Step) (into : Expr → Step) (ss ss' : List Step) → option_map (λ r. behind (into r.last) r) (find (λ r. test r.last) (movable m T ss)) ≡ Some ss' → ((b : Expr) → unbranched_step (into b) ≡ unbranched_step x)
    → is_unbranched (pipe (x ∷ ss)) ≡ true → is_unbranched (pipe ss') ≡ true
taking-kept m T test x into ss ss' got same h =
    let t = mapped (λ r. behind (into r.last) r) (find (λ r. test r.last) (movable m T ss)) ss' got in
    let r = movable-found m T test ss t.0 t.1 in
    let es = (t.0).between in
    let b = (t.0).last in
    let p = pipe (t.0).rest in
    let from = ap pipe r.whole ∙ pipe-filters es (Step.Filter b ∷ (t.0).rest) in
    let to : pipe ss' ≡ Pipe.Then (into b) (filters es p) = sym (ap pipe t.2) ∙ ap (λ p. Pipe.Then (into b) p) (pipe-filters es (t.0).rest) in
    ap is_unbranched to
    ∙ (λ i. same b i && with-filters es p i)
    ∙ sym (ap (λ z. unbranched_step x && z) (ap is_unbranched from ∙ with-filters es (Pipe.Then (Step.Filter b) p)))
    ∙ h

-- ---- the rules

module _ (m : Model) (c : Customs) where
  pub identity-kept : KeepsUnbranched m c drop_identity
  identity-kept S before Step.Identity ss ss' e h = ap (λ l. is_unbranched (pipe l)) (sym (then_some-parts (before || is_nonempty ss) ss ss' e).1) ∙ h
  identity-kept S before s ss ss' e h = none_or ss' e

  pub split-kept : KeepsUnbranched m c split_conjunction
  split-kept S before (Step.Filter (Expr.Binary BinOp.And a b)) ss ss' e h = ap (λ l. is_unbranched (pipe l)) (sym (then_some-parts (is_sure m S b) (Step.Filter a ∷ Step.Filter b ∷ ss) ss' e).1) ∙ h
  split-kept S before s ss ss' e h = none_or ss' e

  pub true-kept : KeepsUnbranched m c drop_true
  true-kept S before (Step.Filter (Expr.Bool' true)) ss ss' e h = ap (λ l. is_unbranched (pipe l)) (sym (some_value e)) ∙ h
  true-kept S before s ss ss' e h = none_or ss' e

  pub compute-kept : KeepsUnbranched m c pass_compute
  compute-kept S before (Step.Compute ns) ss ss' e h = passing-kept m (after m c S (Step.Compute ns)) (λ b. not (list_any (is_among (map (λ x. x.name ∷ []) ns)) (paths b))) (Step.Compute ns) ss ss' e h
  compute-kept S before s ss ss' e h = none_or ss' e

  pub order-kept : KeepsUnbranched m c pass_order
  order-kept S before (Step.OrderBy items) ss ss' e h = passing-kept m S (λ b. true) (Step.OrderBy items) ss ss' (if_else-parts (order_sure m S items) (passing m S (λ b. true) (Step.OrderBy items) ss) ss' e).1 h
  order-kept S before s ss ss' e h = none_or ss' e

  pub grouping-kept : (kind : RollupPart → Bool) → KeepsUnbranched m c (pass_grouping kind)
  grouping-kept kind S before (Step.GroupBy ks T) ss ss' e h =
      let x = Step.GroupBy ks T in
      let test : Expr → Bool = λ b. over (row_keys ks) b && is_sure m (after m c S x) b in
      passing-kept m (after m c S x) test x ss ss' (if_else-parts (kind (rollup_part (group_keys ks)) && grouping_quiet m c S ks T) (passing m (after m c S x) test x ss) ss' e).1 h
  grouping-kept kind S before s ss ss' e h = none_or ss' e

  pub branches-kept : KeepsUnbranched m c filter_branches
  branches-kept S before (Step.Concat ps) ss ss' e h = cc
  branches-kept S before s ss ss' e h = none_or ss' e

  pub factor-kept : KeepsUnbranched m c factor_branches
  factor-kept S before (Step.Concat ps) ss ss' e h = cc
  factor-kept S before s ss ss' e h = none_or ss' e

  pub join-kept : KeepsUnbranched m c pass_join
  join-kept S before (Step.Join false n a T) ss ss' e h =
      let x = Step.Join false n a T in
      let test : Expr → Bool = λ b. not (list_any (begins a) (paths b)) && is_sure m (after m c S x) b in
      passing-kept m (after m c S x) test x ss ss' (if_else-parts (join_quiet m c S n T) (passing m (after m c S x) test x ss) ss' e).1 h
  join-kept S before s ss ss' e h = none_or ss' e

  pub related-kept : KeepsUnbranched m c filter_related
  related-kept S before (Step.Join false n a T) ss ss' e h =
      taking-kept m (after m c S (Step.Join false n a T)) (λ b. is_nonempty (paths b) && list_all (begins a) (paths b)) (Step.Join false n a T) (λ b. Step.Join false n a (ended_inner T (Step.Filter (with_paths (drop 1) b)))) ss ss' e
      (λ b. with-ended_inner T (with_paths (drop 1) b)) h
  related-kept S before s ss ss' e h = none_or ss' e

  pub outer_join-kept : KeepsUnbranched m c pass_outer_join
  outer_join-kept S before (Step.Join true n a T) ss ss' e h =
      let x = Step.Join true n a T in
      let test : Expr → Bool = λ b. not (list_any (begins a) (paths b)) in
      passing-kept m (after m c S x) test x ss ss' (if_else-parts (join_quiet m c S n T) (passing m (after m c S x) test x ss) ss' e).1 h
  outer_join-kept S before s ss ss' e h = none_or ss' e

  pub aggregate-kept : KeepsUnbranched m c drop_order
  aggregate-kept S before (Step.OrderBy items) (Step.Aggregate as' ∷ ss) ss' e h = ap (λ l. is_unbranched (pipe l)) (sym (then_some-parts (order_sure m S items) (Step.Aggregate as' ∷ ss) ss' e).1) ∙ h
  aggregate-kept S before s ss ss' e h = none_or ss' e

  pub count-kept : KeepsUnbranched m c join_counts
  count-kept S before (Step.TopBy t) (Step.TopBy u ∷ ss) ss' e h =
      let a = chained (λ n. option_and_then (λ k. then_some (expr_same t.expr u.expr) (Step.TopBy (record t { limit = Limit.Count (min n k) }) ∷ ss)) (top_count u.bottom u.limit)) (top_count t.bottom t.limit) ss' e in
      let b = chained (λ k. then_some (expr_same t.expr u.expr) (Step.TopBy (record t { limit = Limit.Count (min a.0 k) }) ∷ ss)) (top_count u.bottom u.limit) ss' a.2 in
      ap (λ l. is_unbranched (pipe l)) (sym (then_some-parts (expr_same t.expr u.expr) (Step.TopBy (record t { limit = Limit.Count (min a.0 b.0) }) ∷ ss) ss' b.2).1) ∙ h
  count-kept S before s ss ss' e h = none_or ss' e

  pub traverse-kept : KeepsUnbranched m c pass_traverse
  traverse-kept S before (Step.Traverse v) ss ss' e h = passing-kept m S (is_sure m S) (Step.Traverse v) ss ss' (if_some (is_risky S v.path) (passing m S (is_sure m S) (Step.Traverse v) ss) ss' e).1 h
  traverse-kept S before s ss ss' e h = none_or ss' e

  pub nodes-kept : KeepsUnbranched m c filter_nodes
  nodes-kept S before (Step.GroupBy ks T) ss ss' e h =
      let x = Step.GroupBy ks T in
      let N = chained (λ N. if is_nodes (rollup_part (group_keys ks)) && grouping_quiet m c S ks T then node_taken m c S ks T ss N else None) (node_shape m c ks) ss' e in
      let q = if_else-parts (is_nodes (rollup_part (group_keys ks)) && grouping_quiet m c S ks T) (node_taken m c S ks T ss N.0) ss' N.2 in
      taking-kept m (after m c S x) (node_test m c S ks T N.0) x (λ b. Step.GroupBy (ended_keys (Step.Filter (on_node (N.0).1 b)) ks) T) ss ss' q.1 (λ b. ap (λ z. z && unbranched_inner T) (with-ended_keys ks (on_node (N.0).1 b))) h
  nodes-kept S before s ss ss' e h = none_or ss' e

  pub idle-kept : KeepsUnbranched m c drop_idle
  idle-kept S before (Step.Climb up h p T d keep) ss ss' e u =
      let t = chained (λ x. then_some (is_some_and (λ S'. is_idle m S' p x) (steps_shape m c S (pipe (all_but_last T)))) (Step.Climb up h p (pipe_or_identity (all_but_last T)) d keep ∷ ss)) (last_or None (steps T)) ss' e in
      let v = then_some-parts (is_some_and (λ S'. is_idle m S' p t.0) (steps_shape m c S (pipe (all_but_last T)))) (Step.Climb up h p (pipe_or_identity (all_but_last T)) d keep ∷ ss) ss' t.2 in
      let whole : T ≡ pipe (all_but_last T ++ t.0 ∷ []) = sym (pipe-steps T) ∙ ap pipe (last-split (steps T) t.0 t.1) in
      let z = and_parts (is_unbranched T) (is_unbranched (pipe ss)) u in
      let rest = (and_parts (is_unbranched (pipe (all_but_last T))) _ (sym (ap is_unbranched whole ∙ appended (all_but_last T) (t.0 ∷ [])) ∙ z.0)).0 in
      ap (λ l. is_unbranched (pipe l)) (sym v.1) ∙ and_from (is_unbranched (pipe_or_identity (all_but_last T))) (is_unbranched (pipe ss)) (with-identity (all_but_last T) ∙ rest) z.1
  idle-kept S before s ss ss' e u = none_or ss' e
