-- Weights of lists of steps, of runs of filters, and of steps that a filter passes.
use Rattle.std.proofs.Common.{◌≡◌, refl, sym, ◌∙◌, ap, subst, ℕ, ◌*◌, ◌^◌, ◌≤◌, ◌<◌, inl, Bool, List, [], ◌∷◌, ◌++◌, Some, map, arith}
use Rattle.std.specs.Prelude.{find, option_map}
use Rattle.std.proofs.lemmas.Nat.{mul-le}
use Rattle.std.proofs.Math.Nat.{mul-lt-mul_of_pos_right, mul_right_comm}
use Rattle.std.proofs.Math.Pow.{pow_mono}
use Rattle.edm_model.specs.Models.{Model}
use Rattle.apply_ast.specs.Trees.{Expr, Step, pipe}
use Rattle.context_typing.specs.Shapes.{Shape}
use Rattle.rewrite_laws.specs.Measures.{size, weight, step_weight, keys_weight, IsSmaller}
use Rattle.rewrite_laws.specs.Rewrites.{FilterRun, runs, movable, behind, passing}
use Rattle.edm_values.proofs.EachLemmas.{each-filter}
use Rattle.edm_values.proofs.OptionFacts.{mapped}
use Rattle.rewrite_laws.proofs.FilterRuns.{IsRunOf, runs-each, found-each}
use Rattle.rewrite_laws.proofs.Branches.{Branched, BranchedStep, inner_rising, pipe_rising}

-- ---- lists of steps

pub weight-append : (xs ys : List Step) (v : ℕ) → weight (pipe (xs ++ ys)) v ≡ weight (pipe ys) (weight (pipe xs) v)
unfolding weight
weight-append [] ys v = refl
weight-append (x ∷ xs) ys v = weight-append xs ys (step_weight x v)

pub branched-behind : (xs ys : List Step) → Branched (pipe (xs ++ ys)) → Branched (pipe ys)
branched-behind [] ys b = b
branched-behind (x ∷ xs) ys b = branched-behind xs ys b.1

-- steps before which the weight is less have the lesser weight
pub less_before : (xs ys zs : List Step) → Branched (pipe zs) → ((v : ℕ) → 1 ≤ v → weight (pipe xs) v < weight (pipe ys) v) → IsSmaller (pipe (xs ++ zs)) (pipe (ys ++ zs))
less_before xs ys zs b h = inl (λ v o.
    let k = (pipe_rising (pipe zs) b).strict (weight (pipe xs) v) (weight (pipe ys) v) (h v o) in
    omega (arith, k, weight-append xs zs v, weight-append ys zs v))

-- ---- expressions

pub has_size : (e : Expr) → 1 ≤ size e
has_size (Expr.Unary op a) = omega arith
has_size (Expr.Binary op a b) = omega arith
has_size (Expr.Call1 f a) = omega arith
has_size (Expr.Call2 f a b) = omega arith
has_size e = omega arith

-- a filter at least doubles
pub doubles : (e : Expr) → 2 ≤ 2 ^ size e
doubles e = pow_mono (has_size e)

-- ---- runs of filters

-- filters in a row multiply
filters-factor : (es : List Expr) → (k : ℕ) × (1 ≤ k) × ((v : ℕ) → weight (pipe (map Step.Filter es)) v ≡ v * k)
unfolding weight
filters-factor [] = (1, omega arith, λ v. omega arith)
filters-factor (e ∷ es) =
    let t = filters-factor es in
    let d = doubles e in
    let o : 1 ≤ t.0 = t.1 in
    (2 ^ size e * t.0, (let p = mul-le 1 1 (2 ^ size e) t.0 (omega (arith, d)) o in omega (arith, p)), λ v. omega (arith, t.2 (v * 2 ^ size e)))

-- the steps that a run stands for
abbrev pub run_steps : FilterRun → List Step
run_steps r = map Step.Filter r.between ++ Step.Filter r.last ∷ r.rest

-- a run that is found among those that may be passed stands for the steps
pub found_run : (m : Model) (S : Shape) (test : FilterRun → Bool) (ss : List Step) (r : FilterRun) → find test (movable m S ss) ≡ Some r → run_steps r ≡ ss
found_run m S test ss r e = sym (found-each (IsRunOf ss) test (movable m S ss) r (each-filter (IsRunOf ss) _ (runs ss) (runs-each ss)) e)

-- a step and a run become other steps and the filters between, and weigh less
pub run_lowers : (new : List Step) (x : Step) (r : FilterRun) → Branched (pipe r.rest) → ((v : ℕ) → 1 ≤ v → weight (pipe new) v < step_weight x v * 2 ^ size r.last)
    → IsSmaller (pipe (new ++ (map Step.Filter r.between ++ r.rest))) (pipe (x ∷ run_steps r))
unfolding weight
run_lowers new x r b h = inl (λ v o.
    let t = filters-factor r.between in
    let k : weight (pipe new) v * t.0 < step_weight x v * 2 ^ size r.last * t.0 = mul-lt-mul_of_pos_right (h v o) t.1 in
    let e = mul_right_comm (step_weight x v) (2 ^ size r.last) t.0 in
    let l = (pipe_rising (pipe r.rest) b).strict (weight (pipe new) v * t.0) (step_weight x v * t.0 * 2 ^ size r.last) (omega (arith, k, e)) in
    let a = weight-append new (map Step.Filter r.between ++ r.rest) v ∙ weight-append (map Step.Filter r.between) r.rest (weight (pipe new) v) ∙ ap (weight (pipe r.rest)) (t.2 (weight (pipe new) v)) in
    let c = weight-append (map Step.Filter r.between) (Step.Filter r.last ∷ r.rest) (step_weight x v) ∙ ap (λ u. weight (pipe r.rest) (u * 2 ^ size r.last)) (t.2 (step_weight x v)) in
    omega (arith, l, a, c))

-- ---- steps that a filter passes

-- n times the argument gives less than n times the weight
abbrev pub IsPassable : Step → Type 0
IsPassable x = (v n : ℕ) → 2 ≤ n → step_weight x (v * n) < step_weight x v * n

pub group_passable : (ks : _) (T : _) → BranchedStep (Step.GroupBy ks T) → IsPassable (Step.GroupBy ks T)
unfolding weight
group_passable ks T b v n h =
    let t = (inner_rising T b.1).scaled v n (omega arith) in
    let k = mul-le (keys_weight ks) 1 (keys_weight ks) n (omega arith) (omega arith) in
    omega (arith, t, k)

pub join_passable : (outer : Bool) (n a : _) (T : _) → BranchedStep (Step.Join outer n a T) → IsPassable (Step.Join outer n a T)
unfolding weight
join_passable outer name a T b v n h = let t = (inner_rising T b).scaled v n (omega arith) in omega (arith, t)

-- a filter that passes a step makes it smaller
pub passing_lowers : (m : Model) (S : Shape) (test : Expr → Bool) (x : Step) (ss ss' : List Step) → passing m S test x ss ≡ Some ss' → Branched (pipe ss') → (BranchedStep x → IsPassable x) → IsSmaller (pipe ss') (pipe (x ∷ ss))
unfolding weight
passing_lowers m S test x ss ss' e b p =
    let t = mapped (λ r. Step.Filter r.last ∷ behind x r) (find (λ r. test r.last) (movable m S ss)) ss' e in
    let s = found_run m S (λ r. test r.last) ss t.0 t.1 in
    let b' = subst (λ z. Branched (pipe z)) (sym t.2) b in
    let new = Step.Filter (t.0).last ∷ x ∷ [] in
    let l = run_lowers new x t.0 (branched-behind (map Step.Filter (t.0).between) (t.0).rest (b'.1).1) (λ v o. p (b'.1).0 v (2 ^ size (t.0).last) (doubles (t.0).last)) in
    subst (λ z. IsSmaller (pipe z) (pipe (x ∷ ss))) t.2 (subst (λ z. IsSmaller (pipe (Step.Filter (t.0).last ∷ behind x t.0)) (pipe (x ∷ z))) s l)

-- a step that takes in a filter behind it becomes smaller
pub taking_lowers : (m : Model) (S : Shape) (test : FilterRun → Bool) (new : FilterRun → Step) (x : Step) (ss ss' : List Step) → option_map (λ r. behind (new r) r) (find test (movable m S ss)) ≡ Some ss' → Branched (pipe ss')
    → ((r : FilterRun) (v : ℕ) → step_weight (new r) v < step_weight x v * 2 ^ size r.last) → IsSmaller (pipe ss') (pipe (x ∷ ss))
unfolding weight
taking_lowers m S test new x ss ss' e b h =
    let t = mapped (λ r. behind (new r) r) (find test (movable m S ss)) ss' e in
    let s = found_run m S test ss t.0 t.1 in
    let b' = subst (λ z. Branched (pipe z)) (sym t.2) b in
    let l = run_lowers (new t.0 ∷ []) x t.0 (branched-behind (map Step.Filter (t.0).between) (t.0).rest b'.1) (λ v o. h t.0 v) in
    subst (λ z. IsSmaller (pipe z) (pipe (x ∷ ss))) t.2 (subst (λ z. IsSmaller (pipe (behind (new t.0) t.0)) (pipe (x ∷ z))) s l)
