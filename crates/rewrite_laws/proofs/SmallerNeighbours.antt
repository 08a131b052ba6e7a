-- Rules on neighbouring steps make a pipeline smaller.
use Rattle.std.proofs.Common.{◌≡◌, sym, ◌∙◌, ap, subst, ℕ, ◌+◌, ◌*◌, ◌^◌, ◌≤◌, ◌<◌, inr, true, not, ◌||◌, [], ◌∷◌, min, map, arith}
use Rattle.std.specs.Prelude.{option_and_then}
use Rattle.std.specs.Bool.{then_some}
use Rattle.std.specs.List.{list_any}
use Rattle.std.proofs.lemmas.Nat.{pow-add, mul-le}
use Rattle.edm_values.specs.Lists.{is_nonempty}
use Rattle.apply_ast.specs.Counts.{step_count}
use Rattle.apply_ast.specs.Trees.{Expr, Step, Limit, pipe}
use Rattle.apply_ast.specs.declared.expressions.BinOp.TheVariants as BinOp
use Rattle.context_typing.specs.Typing.{after, is_sure, order_sure}
use Rattle.edm_values.proofs.OptionFacts.{then_some-parts, chained, if_else-parts}
use Rattle.rewrite_laws.specs.Measures.{size, weight, IsSmaller}
use Rattle.rewrite_laws.specs.TreeEquality.{expr_same}
use Rattle.rewrite_laws.specs.Rewrites.{is_among, paths, passing, drop_identity, split_conjunction, drop_true, pass_compute, pass_order, drop_order, top_count, join_counts}
use Rattle.edm_values.proofs.EachLemmas.{none_is_not_some}
use Rattle.rewrite_laws.proofs.Branches.{Branched}
use Rattle.rewrite_laws.proofs.RunWeights.{less_before, doubles, passing_lowers}
use Rattle.rewrite_laws.proofs.Smaller.{few_identities}
use Rattle.rewrite_laws.proofs.SmallerPlaces.{LowersInPlace}

pub drop_identity-lowers : LowersInPlace drop_identity
unfolding weight step_count
drop_identity-lowers m c S before Step.Identity ss ss' e b =
    let f = few_identities (pipe ss) in
    let h : IsSmaller (pipe ss) (pipe (Step.Identity ∷ ss)) = inr (inr (λ v o. omega arith, omega (arith, f), omega arith)) in
    subst (λ z. IsSmaller (pipe z) (pipe (Step.Identity ∷ ss))) (then_some-parts (before || is_nonempty ss) ss ss' e).1 h
drop_identity-lowers m c S before s ss ss' e b = absurd (none_is_not_some ss' e)

two_factors : (v a b : ℕ) → 1 ≤ v → 1 ≤ a → 1 ≤ b → v * a * b < v * (2 * a * b)
two_factors v a b x y z = let p = mul-le 1 1 v a x y in let q = mul-le 1 1 (v * a) b (omega (arith, p)) z in omega (arith, q)

split-less : (a b : Expr) (v : ℕ) → 1 ≤ v → v * 2 ^ size a * 2 ^ size b < v * 2 ^ (1 + size a + size b)
split-less a b v o =
    let x = doubles a in
    let y = doubles b in
    let e : 2 ^ (1 + size a + size b) ≡ 2 * 2 ^ size a * 2 ^ size b = pow-add 2 (1 + size a) (size b) ∙ ap (λ n. n * 2 ^ size b) (pow-add 2 1 (size a)) in
    subst (λ n. v * 2 ^ size a * 2 ^ size b < v * n) (sym e) (two_factors v (2 ^ size a) (2 ^ size b) o (omega (arith, x)) (omega (arith, y)))

pub split_conjunction-lowers : LowersInPlace split_conjunction
unfolding weight
split_conjunction-lowers m c S before (Step.Filter (Expr.Binary BinOp.And a d)) ss ss' e b =
    let t = (then_some-parts (is_sure m S d) (Step.Filter a ∷ Step.Filter d ∷ ss) ss' e).1 in
    let b' = subst (λ z. Branched (pipe z)) (sym t) b in
    subst (λ z. IsSmaller (pipe z) (pipe (Step.Filter (Expr.Binary BinOp.And a d) ∷ ss))) t
    (less_before (Step.Filter a ∷ Step.Filter d ∷ []) (Step.Filter (Expr.Binary BinOp.And a d) ∷ []) ss (b'.1).1 (λ v o. split-less a d v o))
split_conjunction-lowers m c S before s ss ss' e b = absurd (none_is_not_some ss' e)

pub drop_true-lowers : LowersInPlace drop_true
unfolding weight
drop_true-lowers m c S before (Step.Filter (Expr.Bool' true)) ss ss' e b =
    let t : (Step.Identity ∷ ss) ≡ ss' = cc in
    let b' = subst (λ z. Branched (pipe z)) (sym t) b in
    subst (λ z. IsSmaller (pipe z) (pipe (Step.Filter (Expr.Bool' true) ∷ ss))) t (less_before (Step.Identity ∷ []) (Step.Filter (Expr.Bool' true) ∷ []) ss b'.1 (λ v o. omega arith))
drop_true-lowers m c S before s ss ss' e b = absurd (none_is_not_some ss' e)

pub pass_compute-lowers : LowersInPlace pass_compute
unfolding weight
pass_compute-lowers m c S before (Step.Compute ns) ss ss' e b =
    passing_lowers m (after m c S (Step.Compute ns)) (λ b. not (list_any (is_among (map (λ x. x.name ∷ []) ns)) (paths b))) (Step.Compute ns) ss ss' e b (λ x v n h. omega arith)
pass_compute-lowers m c S before s ss ss' e b = absurd (none_is_not_some ss' e)

pub pass_order-lowers : LowersInPlace pass_order
unfolding weight
pass_order-lowers m c S before (Step.OrderBy items) ss ss' e b =
    passing_lowers m S (λ b. true) (Step.OrderBy items) ss ss' (if_else-parts (order_sure m S items) (passing m S (λ b. true) (Step.OrderBy items) ss) ss' e).1 b (λ x v n h. omega arith)
pass_order-lowers m c S before s ss ss' e b = absurd (none_is_not_some ss' e)

pub drop_order-lowers : LowersInPlace drop_order
unfolding weight
drop_order-lowers m c S before (Step.OrderBy items) (Step.Aggregate as' ∷ ss) ss' e b =
    let t = (then_some-parts (order_sure m S items) (Step.Aggregate as' ∷ ss) ss' e).1 in
    let b' = subst (λ z. Branched (pipe z)) (sym t) b in
    subst (λ z. IsSmaller (pipe z) (pipe (Step.OrderBy items ∷ Step.Aggregate as' ∷ ss))) t (less_before (Step.Aggregate as' ∷ []) (Step.OrderBy items ∷ Step.Aggregate as' ∷ []) ss b'.1 (λ v o. omega arith))
drop_order-lowers m c S before s ss ss' e b = absurd (none_is_not_some ss' e)

pub join_counts-lowers : LowersInPlace join_counts
unfolding weight
join_counts-lowers m c S before (Step.TopBy t) (Step.TopBy u ∷ ss) ss' e b =
    let new = λ (n k : ℕ). Step.TopBy (record t { limit = Limit.Count (min n k) }) in
    let x = chained (λ n. option_and_then (λ k. then_some (expr_same t.expr u.expr) (new n k ∷ ss)) (top_count u.bottom u.limit)) (top_count t.bottom t.limit) ss' e in
    let y = chained (λ k. then_some (expr_same t.expr u.expr) (new x.0 k ∷ ss)) (top_count u.bottom u.limit) ss' x.2 in
    let z = (then_some-parts (expr_same t.expr u.expr) (new x.0 y.0 ∷ ss) ss' y.2).1 in
    let b' = subst (λ z. Branched (pipe z)) (sym z) b in
    subst (λ z. IsSmaller (pipe z) (pipe (Step.TopBy t ∷ Step.TopBy u ∷ ss))) z (less_before (new x.0 y.0 ∷ []) (Step.TopBy t ∷ Step.TopBy u ∷ []) ss b'.1 (λ v o. omega arith))
join_counts-lowers m c S before s ss ss' e b = absurd (none_is_not_some ss' e)
