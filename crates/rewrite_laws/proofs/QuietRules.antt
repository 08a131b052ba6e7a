-- What the rules that drop a step, split a filter or move it past a step make of typed steps is quiet where these are.
use Rattle.std.proofs.Common.{◌≡◌, refl, sym, ◌∙◌, ap, min, Bool, true, false, ◌&&◌, ◌||◌, not, List, [], ◌∷◌, Some, map}
use Rattle.std.proofs.Math.Bool.{and_assoc}
use Rattle.std.proofs.lemmas.Bool.{and_parts, not-true}
use Rattle.std.specs.Prelude.{unwrap_or}
use Rattle.std.specs.List.{list_any}
use Rattle.edm_model.specs.Models.{Model}
use Rattle.edm_values.specs.Lists.{is_nonempty}
use Rattle.edm_values.specs.Names.{Name}
use Rattle.edm_values.proofs.OptionFacts.{none_or, some_value, chained, if_some, if_else-parts, then_some-parts}
use Rattle.edm_values.proofs.SearchFacts.{none-all}
use Rattle.apply_ast.specs.Trees.{Expr, Limit, OptPipe, OrderItem, Pipe, Step, TopStep, pipe}
use Rattle.apply_ast.specs.declared.expressions.BinOp.{BinOp}
use Rattle.context_typing.specs.Paths.{begins}
use Rattle.context_typing.specs.Shapes.{Shape}
use Rattle.context_typing.specs.Typing.{Customs, RollupPart, after, group_keys, is_lawful, is_quiet, is_risky, is_sure, order_sure, rollup_part, steps_shape, step_shape}
use Rattle.context_typing.proofs.ShapeLemmas.{law-from}
use Rattle.rewrite_laws.specs.TreeEquality.{expr_same}
use Rattle.rewrite_laws.specs.Rewrites.{paths, over, is_among, passing, drop_identity, split_conjunction, drop_true, pass_compute, pass_order, grouping_quiet, pass_grouping, join_quiet, pass_join, pass_outer_join, drop_order, join_counts, pass_traverse}
use Rattle.rewrite_laws.proofs.ComputeFacts.{is_old, computed-kind, computed-risk}
use Rattle.rewrite_laws.proofs.ExprPaths.{sure-same}
use Rattle.rewrite_laws.proofs.GroupingRules.{grouping-parts, key-kind, key-risk, row_keys}
use Rattle.rewrite_laws.proofs.JoinRules.{apart_from, join-kinds, join-risks}
use Rattle.rewrite_laws.proofs.QuietLemmas.{KeepsQuietInPlace, bare, kept-shape, passing-keeps_quiet, quiet-filter}
use Rattle.rewrite_laws.proofs.RelatedRule.{join-parts}
use Rattle.rewrite_laws.proofs.SameExpressions.{same-exprs}

-- ---- steps that are dropped, split and joined

pub drop_identity-keeps_quiet : KeepsQuietInPlace drop_identity
unfolding is_quiet steps_shape
drop_identity-keeps_quiet m c S S' before Step.Identity ss ss' k law e got = ap (λ x. is_quiet m c S (pipe x)) (sym (then_some-parts (before || is_nonempty ss) ss ss' got).1)
drop_identity-keeps_quiet m c S S' before s ss ss' k law e got = none_or ss' got

pub split_conjunction-keeps_quiet : KeepsQuietInPlace split_conjunction
split_conjunction-keeps_quiet m c S S' before (Step.Filter (Expr.Binary BinOp.And a b)) ss ss' k law e got =
    ap (λ x. is_quiet m c S (pipe x)) (sym (then_some-parts (is_sure m S b) (Step.Filter a ∷ Step.Filter b ∷ ss) ss' got).1)
    ∙ quiet-filter m c S a (pipe (Step.Filter b ∷ ss)) ∙ ap (λ z. is_sure m S a && z) (quiet-filter m c S b (pipe ss))
    ∙ sym (and_assoc (is_sure m S a) (is_sure m S b) (is_quiet m c S (pipe ss))) ∙ sym (quiet-filter m c S (Expr.Binary BinOp.And a b) (pipe ss))
split_conjunction-keeps_quiet m c S S' before s ss ss' k law e got = none_or ss' got

pub drop_true-keeps_quiet : KeepsQuietInPlace drop_true
unfolding is_quiet steps_shape
drop_true-keeps_quiet m c S S' before (Step.Filter (Expr.Bool' true)) ss ss' k law e got = ap (λ x. is_quiet m c S (pipe x)) (sym (some_value got)) ∙ sym (quiet-filter m c S (Expr.Bool' true) (pipe ss))
drop_true-keeps_quiet m c S S' before s ss ss' k law e got = none_or ss' got

order-after : (m : Model) (c : Customs) (S : Shape) (items : List OrderItem) → after m c S (Step.OrderBy items) ≡ S
unfolding steps_shape
order-after m c S items = kept-shape _ S

pub drop_order-keeps_quiet : KeepsQuietInPlace drop_order
unfolding is_quiet
drop_order-keeps_quiet m c S S' before (Step.OrderBy items) (Step.Aggregate as' ∷ ss) ss' k law e got =
    let t = then_some-parts (order_sure m S items) (Step.Aggregate as' ∷ ss) ss' got in
    ap (λ x. is_quiet m c S (pipe x)) (sym t.1) ∙ sym (λ i. t.0 i && is_quiet m c (order-after m c S items i) (pipe (Step.Aggregate as' ∷ ss)))
drop_order-keeps_quiet m c S S' before s ss ss' k law e got = none_or ss' got

quiet-top : (m : Model) (c : Customs) (S : Shape) (t : TopStep) (p : Pipe) → is_quiet m c S (Pipe.Then (Step.TopBy t) p) ≡ (is_sure m S t.expr && is_quiet m c S p)
unfolding is_quiet steps_shape
quiet-top m c S t p = ap (λ Z. is_sure m S t.expr && is_quiet m c Z p) (kept-shape _ S)

twice : (s q : Bool) → (s && q) ≡ (s && (s && q))
twice true q = refl
twice false q = refl

pub join_counts-keeps_quiet : KeepsQuietInPlace join_counts
join_counts-keeps_quiet m c S S' before (Step.TopBy t) (Step.TopBy u ∷ ss) ss' k law e got = go t.bottom t.limit u.bottom u.limit got
  where
    top : Bool → Limit → Expr → TopStep
    top b l x = record { bottom = b; limit = l; expr = x }

    go : (b : Bool) (l : Limit) (b' : Bool) (l' : Limit) → join_counts m c S before (Step.TopBy (top b l t.expr)) (Step.TopBy (top b' l' u.expr) ∷ ss) ≡ Some ss'
        → is_quiet m c S (pipe ss') ≡ is_quiet m c S (pipe (Step.TopBy (top b l t.expr) ∷ Step.TopBy (top b' l' u.expr) ∷ ss))
    go false (Limit.Count n) false (Limit.Count k) g =
        let lesser = top false (Limit.Count (min n k)) t.expr in
        let r = then_some-parts (expr_same t.expr u.expr) (Step.TopBy lesser ∷ ss) ss' g in
        ap (λ x. is_quiet m c S (pipe x)) (sym r.1) ∙ quiet-top m c S lesser (pipe ss) ∙ twice (is_sure m S t.expr) (is_quiet m c S (pipe ss))
        ∙ ap (λ x. is_sure m S t.expr && (is_sure m S x && is_quiet m c S (pipe ss))) (same-exprs t.expr u.expr r.0)
        ∙ sym (quiet-top m c S (top false (Limit.Count n) t.expr) (pipe (Step.TopBy (top false (Limit.Count k) u.expr) ∷ ss)) ∙ ap (λ z. is_sure m S t.expr && z) (quiet-top m c S (top false (Limit.Count k) u.expr) (pipe ss)))
    go b l b' l' g = none_or ss' g
join_counts-keeps_quiet m c S S' before s ss ss' k law e got = none_or ss' got

-- ---- a filter that passes a step

pub pass_compute-keeps_quiet : KeepsQuietInPlace pass_compute
unfolding steps_shape
pass_compute-keeps_quiet m c S S' before (Step.Compute ns) ss ss' k law e got =
    let S1 = chained (λ T. steps_shape m c T (pipe ss)) (step_shape m c S (Step.Compute ns)) S' e in
    passing-keeps_quiet m c S (after m c S (Step.Compute ns)) (Step.Compute ns) ss ss' (λ b. not (list_any (is_among (map (λ x. x.name ∷ []) ns)) (paths b))) got (λ b t.
    sym (ap (λ o. is_sure m (unwrap_or o S) b) S1.1
    ∙ sure-same m S S1.0 (is_old ns) (computed-kind m S S1.0 ns S1.1) (computed-risk m S S1.0 ns S1.1) b (none-all (is_among (map (λ x. x.name ∷ []) ns)) (paths b) (not-true _ t))))
pass_compute-keeps_quiet m c S S' before s ss ss' k law e got = none_or ss' got

pub pass_order-keeps_quiet : KeepsQuietInPlace pass_order
pass_order-keeps_quiet m c S S' before (Step.OrderBy items) ss ss' k law e got =
    passing-keeps_quiet m c S S (Step.OrderBy items) ss ss' (λ b. true) (if_else-parts (order_sure m S items) (passing m S (λ b. true) (Step.OrderBy items) ss) ss' got).1
    (λ b t. ap (λ Z. is_sure m Z b) (sym (order-after m c S items)))
pass_order-keeps_quiet m c S S' before s ss ss' k law e got = none_or ss' got

pub pass_traverse-keeps_quiet : KeepsQuietInPlace pass_traverse
unfolding steps_shape
pass_traverse-keeps_quiet m c S S' before (Step.Traverse t) ss ss' k law e got =
    passing-keeps_quiet m c S S (Step.Traverse t) ss ss' (is_sure m S) (if_some (is_risky S t.path) (passing m S (is_sure m S) (Step.Traverse t) ss) ss' got).1
    (λ b s. ap (λ Z. is_sure m Z b) (sym (kept-shape _ S)))
pass_traverse-keeps_quiet m c S S' before s ss ss' k law e got = none_or ss' got

-- a filter without a path under the alias is as sure before a join as behind it
join-sure : (m : Model) (c : Customs) (S S' : Shape) (outer : Bool) (n a : Name) (T : OptPipe) (ss : List Step) → is_lawful m S ≡ true → steps_shape m c S (pipe (Step.Join outer n a T ∷ ss)) ≡ Some S'
    → (b : Expr) → not (list_any (begins a) (paths b)) ≡ true → is_sure m S b ≡ is_sure m (after m c S (Step.Join outer n a T)) b
unfolding steps_shape
join-sure m c S S' outer n a T ss law e b h =
    let S1 = chained (λ Z. steps_shape m c Z (pipe ss)) (step_shape m c S (Step.Join outer n a T)) S' e in
    let J = join-parts m c S S1.0 outer n a T S1.1 in
    let L = law-from m S law in
    sym (ap (λ o. is_sure m (unwrap_or o S) b) S1.1
    ∙ sure-same m S S1.0 (apart_from a) (join-kinds (bare m) c S S1.0 outer n a T L J) (join-risks (bare m) c S S1.0 outer n a T L J) b (none-all (begins a) (paths b) (not-true _ h)))

pub pass_join-keeps_quiet : KeepsQuietInPlace pass_join
pass_join-keeps_quiet m c S S' before (Step.Join false n a T) ss ss' k law e got =
    let x = Step.Join false n a T in
    let test : Expr → Bool = λ b. not (list_any (begins a) (paths b)) && is_sure m (after m c S x) b in
    passing-keeps_quiet m c S (after m c S x) x ss ss' test (if_else-parts (join_quiet m c S n T) (passing m (after m c S x) test x ss) ss' got).1
    (λ b t. join-sure m c S S' false n a T ss law e b (and_parts (not (list_any (begins a) (paths b))) _ t).0)
pass_join-keeps_quiet m c S S' before s ss ss' k law e got = none_or ss' got

pub pass_outer_join-keeps_quiet : KeepsQuietInPlace pass_outer_join
pass_outer_join-keeps_quiet m c S S' before (Step.Join true n a T) ss ss' k law e got =
    let x = Step.Join true n a T in
    let test : Expr → Bool = λ b. not (list_any (begins a) (paths b)) in
    passing-keeps_quiet m c S (after m c S x) x ss ss' test (if_else-parts (join_quiet m c S n T) (passing m (after m c S x) test x ss) ss' got).1
    (λ b t. join-sure m c S S' true n a T ss law e b t)
pass_outer_join-keeps_quiet m c S S' before s ss ss' k law e got = none_or ss' got

pub pass_grouping-keeps_quiet : (kind : RollupPart → Bool) → KeepsQuietInPlace (pass_grouping kind)
unfolding steps_shape
pass_grouping-keeps_quiet kind m c S S' before (Step.GroupBy ks T) ss ss' k law e got =
    let x = Step.GroupBy ks T in
    let S1 = chained (λ Z. steps_shape m c Z (pipe ss)) (step_shape m c S x) S' e in
    let g = grouping-parts m c S S1.0 ks T S1.1 in
    let test : Expr → Bool = λ b. over (row_keys ks) b && is_sure m (after m c S x) b in
    passing-keeps_quiet m c S (after m c S x) x ss ss' test (if_else-parts (kind (rollup_part (group_keys ks)) && grouping_quiet m c S ks T) (passing m (after m c S x) test x ss) ss' got).1 (λ b t.
    sym (ap (λ o. is_sure m (unwrap_or o S) b) S1.1
    ∙ sure-same m S S1.0 (is_among (row_keys ks)) (key-kind (bare m) c S S1.0 ks T g) (key-risk (bare m) c S S1.0 ks T g) b (and_parts (over (row_keys ks) b) _ t).0))
pass_grouping-keeps_quiet kind m c S S' before s ss ss' k law e got = none_or ss' got
