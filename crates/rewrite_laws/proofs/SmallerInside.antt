-- Rules through groupings, concatenations and joins make a pipeline smaller: the sixth to the twelfth, and the sixteenth, which is the sixth for other keys.
use Rattle.std.proofs.Common.{◌≡◌, refl, sym, ◌∙◌, ap, subst, ℕ, ◌+◌, ◌*◌, ◌^◌, ◌-◌, ◌≤◌, ◌<◌, inl, inr, Bool, true, false, not, ◌&&◌, [], ◌∷◌, ◌++◌, drop, map, arith}
use Rattle.std.specs.List.{list_all, list_any}
use Rattle.std.proofs.lemmas.Nat.{mul-le}
use Rattle.std.proofs.lemmas.Bool.{not-true}
use Rattle.edm_values.specs.Lists.{is_nonempty, is_some_and}
use Rattle.edm_values.specs.Literals.{is_boolean_kind}
use Rattle.edm_values.specs.Names.{Name, Path}
use Rattle.apply_ast.specs.Counts.{step_count, branches_count, inner_count}
use Rattle.apply_ast.specs.Trees.{Expr, Pipe, Step, OptPipe, Pipes, steps, pipe}
use Rattle.context_typing.specs.Paths.{begins}
use Rattle.context_typing.specs.Typing.{RollupPart, after, has_kind, is_sure, steps_shape, plain_paths, rollup_part, group_keys}
use Rattle.context_typing.proofs.WalkFacts.{pipe-steps}
use Rattle.rewrite_laws.specs.Measures.{size, weight, inner_weight, branches_weight, step_weight, identity_count, branch_identities, step_identities, IsSmaller}
use Rattle.rewrite_laws.specs.TreeEquality.{step_same}
use Rattle.rewrite_laws.specs.Rewrites.{paths, over, passing, branches, concat, ended, pipe_or_identity, is_identity, ended_inner, with_paths, grouping_quiet, rollup_keys_in_every_row, join_quiet, pass_grouping, filter_branches, factor_branches, pass_join, filter_related, pass_outer_join}
use Rattle.edm_values.proofs.EachLemmas.{none_is_not_some, then_some-holds, and-left, and-right}
use Rattle.rewrite_laws.proofs.Rising.{rising-mono}
use Rattle.rewrite_laws.proofs.Branches.{Branched, BranchedAll, branch_count, pipe_rising, step_rising}
use Rattle.rewrite_laws.proofs.RunWeights.{weight-append, doubles, group_passable, join_passable, passing_lowers, taking_lowers}
use Rattle.rewrite_laws.proofs.SameTrees.{same-steps, Begin, rest}
use Rattle.rewrite_laws.proofs.Smaller.{Measure, step_measure, few_identities, few_inner, few_branches, few_keys, few_step}
use Rattle.rewrite_laws.proofs.SmallerPlaces.{LowersInPlace}
use Rattle.edm_values.proofs.OptionFacts.{then_some-parts, if_else-parts}

-- ---- rules 6, 7 and 16: groupings

pub pass_grouping-lowers : (kind : RollupPart → Bool) → LowersInPlace (pass_grouping kind)
unfolding weight
pass_grouping-lowers kind m c S before (Step.GroupBy ks T) ss ss' e b =
    let S' = after m c S (Step.GroupBy ks T) in
    let test = λ (b : Expr). over (plain_paths ks ++ rollup_keys_in_every_row (rollup_part (group_keys ks))) b && is_sure m S' b in
    passing_lowers m S' test (Step.GroupBy ks T) ss ss' (if_else-parts (kind (rollup_part (group_keys ks)) && grouping_quiet m c S ks T) (passing m S' test (Step.GroupBy ks T) ss) ss' e).1 b (group_passable ks T)
pass_grouping-lowers kind m c S before s ss ss' e b = absurd (none_is_not_some ss' e)

pub with_paths-size : (f : Path → Path) (e : Expr) → size (with_paths f e) ≡ size e
with_paths-size f (Expr.Unary op a) = ap (λ n. 1 + n) (with_paths-size f a)
with_paths-size f (Expr.Binary op a b) = λ i. 1 + with_paths-size f a i + with_paths-size f b i
with_paths-size f (Expr.Call1 g a) = ap (λ n. 1 + n) (with_paths-size f a)
with_paths-size f (Expr.Call2 g a b) = λ i. 1 + with_paths-size f a i + with_paths-size f b i
with_paths-size f e = refl

ended-weight : (p : Pipe) (s : Step) (v : ℕ) → weight (ended p s) v ≡ step_weight s (weight p v)
unfolding weight
ended-weight p s v = weight-append (steps p) (s ∷ []) v ∙ ap (λ q. step_weight s (weight q v)) (pipe-steps p)

pub ended_inner-weight : (T : OptPipe) (s : Step) (v : ℕ) → inner_weight (ended_inner T s) v ≡ step_weight s (inner_weight T v)
unfolding weight
ended_inner-weight OptPipe.NoPipe s v = refl
ended_inner-weight (OptPipe.SomePipe p) s v = ended-weight p s v

-- ---- rules 8 and 9: concatenations

each_branch : (Pipe → Pipe) → Pipes → Pipes
each_branch f Pipes.NoPipes = Pipes.NoPipes
each_branch f (Pipes.MorePipes p ps) = Pipes.MorePipes (f p) (each_branch f ps)

branches_in : Step → Pipes
branches_in (Step.Concat ps) = ps
branches_in s = Pipes.NoPipes

concat-each : (f : Pipe → Pipe) (ps : Pipes) → concat (map f (branches ps)) ≡ Step.Concat (each_branch f ps)
unfolding branches_in each_branch
concat-each f Pipes.NoPipes = refl
concat-each f (Pipes.MorePipes p ps) = ap (λ s. Step.Concat (Pipes.MorePipes (f p) (branches_in s))) (concat-each f ps)

filtered-weight : (e : Expr) (ps : Pipes) (v : ℕ) → branches_weight (each_branch (λ p. ended p (Step.Filter e)) ps) v ≡ branches_weight ps v * 2 ^ size e
unfolding weight each_branch
filtered-weight e Pipes.NoPipes v = omega arith
filtered-weight e (Pipes.MorePipes p ps) v = let x = ended-weight p (Step.Filter e) v in let y = filtered-weight e ps v in omega (arith, x, y)

filtered-less : (e : Expr) (ps : Pipes) (v : ℕ) → step_weight (concat (map (λ p. ended p (Step.Filter e)) (branches ps))) v < step_weight (Step.Concat ps) v * 2 ^ size e
unfolding weight
filtered-less e ps v =
    let x = ap (λ s. step_weight s v) (concat-each (λ p. ended p (Step.Filter e)) ps) in
    let y = filtered-weight e ps (v + 1) in
    let z = doubles e in
    omega (arith, x, y, z)

pub filter_branches-lowers : LowersInPlace filter_branches
unfolding weight
filter_branches-lowers m c S before (Step.Concat ps) ss ss' e b =
    taking_lowers m (after m c S (Step.Concat ps)) (λ r. list_all (λ p. is_some_and (λ S'. has_kind is_boolean_kind m S' r.last) (steps_shape m c S p)) (branches ps))
    (λ r. concat (map (λ p. ended p (Step.Filter r.last)) (branches ps))) (Step.Concat ps) ss ss' e b (λ r. filtered-less r.last ps)
filter_branches-lowers m c S before s ss ss' e b = absurd (none_is_not_some ss' e)

left-weight : (q : Pipe) (v : ℕ) → weight (pipe_or_identity (steps q)) v ≡ weight q v
unfolding weight
left-weight Pipe.End v = refl
left-weight (Pipe.Then s q) v = ap (λ p. weight p (step_weight s v)) (pipe-steps q)

left-steps : (q : Pipe) → step_count (pipe_or_identity (steps q)) + identity_count q ≡ step_count q + identity_count (pipe_or_identity (steps q))
unfolding step_count
left-steps Pipe.End = omega arith
left-steps (Pipe.Then s q) = ap (λ p. step_count (Pipe.Then s p) + identity_count (Pipe.Then s q)) (pipe-steps q) ∙ sym (ap (λ p. step_count (Pipe.Then s q) + identity_count (Pipe.Then s p)) (pipe-steps q))

left-branched : (q : Pipe) → Branched (pipe_or_identity (steps q)) → Branched q
left-branched Pipe.End b = tt
left-branched (Pipe.Then s q) b = (b.0, subst Branched (pipe-steps q) b.1)

rests-number : (ps : Pipes) → branch_count (each_branch rest ps) ≡ branch_count ps
unfolding each_branch
rests-number Pipes.NoPipes = refl
rests-number (Pipes.MorePipes p ps) = ap (λ n. 1 + n) (rests-number ps)

-- the branches without their first step weigh no more at what the step makes of v
rests-weight : (x : Step) (ps : Pipes) → Begin x ps ≡ true → BranchedAll (each_branch rest ps) → (v u : ℕ) → u ≤ step_weight x v → branches_weight (each_branch rest ps) u ≤ branches_weight ps v
unfolding weight each_branch
rests-weight x Pipes.NoPipes h b v u l = omega arith
rests-weight x (Pipes.MorePipes Pipe.End ps) h b v u l = cc
rests-weight x (Pipes.MorePipes (Pipe.Then y q) ps) h b v u l =
    let e = ap (λ s. step_weight s v) (same-steps x y (and-left (step_same x y) (Begin x ps) h)) in
    let k = rising-mono (weight q) (pipe_rising q (left-branched q b.0)) u (step_weight y v) (omega (arith, e)) in
    let i = rests-weight x ps (and-right (step_same x y) (Begin x ps) h) b.1 v u l in
    omega (arith, k, i, left-weight q u)

-- and have, for each branch, the step's own steps less
rests-steps : (x : Step) (ps : Pipes) → Begin x ps ≡ true
    → branches_count ps + branch_identities (each_branch rest ps) ≡ branches_count (each_branch rest ps) + branch_identities ps + branch_count ps * (1 + inner_count x - step_identities x)
unfolding each_branch step_count
rests-steps x Pipes.NoPipes h = omega arith
rests-steps x (Pipes.MorePipes Pipe.End ps) h = cc
rests-steps x (Pipes.MorePipes (Pipe.Then y q) ps) h =
    let s = ap step_measure (same-steps x y (and-left (step_same x y) (Begin x ps) h)) in
    let e = ap (λ (m : Measure). m.steps) s in
    let f = ap (λ (m : Measure). m.identities) s in
    let i = rests-steps x ps (and-right (step_same x y) (Begin x ps) h) in
    omega (arith, e, f, i, left-steps q, few_step x)

-- a step that is not identity acts
acts : (x : Step) → is_identity x ≡ false → 1 ≤ 1 + inner_count x - step_identities x
unfolding step_count
acts Step.Identity h = cc
acts (Step.GroupBy ks T) h = let f = few_keys ks in let g = few_inner T in omega (arith, f, g)
acts (Step.Concat ps) h = let f = few_branches ps in omega (arith, f)
acts (Step.Join outer n a T) h = let f = few_inner T in omega (arith, f)
acts (Step.Climb up n p T d keep) h = let f = few_identities T in omega (arith, f)
acts x h = omega arith

factored-smaller : (x : Step) (ps : Pipes) (p : Pipe) → Begin x ps ≡ true → is_identity x ≡ false → Branched (Pipe.Then x (Pipe.Then (Step.Concat (each_branch rest ps)) p))
    → IsSmaller (Pipe.Then x (Pipe.Then (Step.Concat (each_branch rest ps)) p)) (Pipe.Then (Step.Concat ps) p)
unfolding weight step_count
factored-smaller x ps p h i b =
    let a = acts x i in
    let n = rests-number ps in
    let two : 2 ≤ branch_count ps = (let t = ((b.1).0).0 in omega (arith, n, t)) in
    let m = mul-le 2 (1 + inner_count x - step_identities x) (branch_count ps) (1 + inner_count x - step_identities x) two (omega arith) in
    let r = rests-steps x ps h in
    let f = few_branches ps in
    let g = few_branches (each_branch rest ps) in
    inr (inl (lighter, omega (arith, a, m, r, f, g, few_identities p, few_step x)))
  where
    lighter : (v : ℕ) → 1 ≤ v → weight (Pipe.Then x (Pipe.Then (Step.Concat (each_branch rest ps)) p)) v ≤ weight (Pipe.Then (Step.Concat ps) p) v
    lighter v o =
        let l = (step_rising x b.0).strict v (v + 1) (omega arith) in
        let w = rests-weight x ps h ((b.1).0).1 (v + 1) (step_weight x v + 1) (omega (arith, l)) in
        rising-mono (weight p) (pipe_rising p (b.1).1) (1 + branches_weight (each_branch rest ps) (step_weight x v + 1)) (1 + branches_weight ps (v + 1)) (omega (arith, w))

pub factor_branches-lowers : LowersInPlace factor_branches
unfolding weight
factor_branches-lowers m c S before (Step.Concat Pipes.NoPipes) ss ss' e b = absurd (none_is_not_some ss' e)
factor_branches-lowers m c S before (Step.Concat (Pipes.MorePipes Pipe.End ps)) ss ss' e b = absurd (none_is_not_some ss' e)
factor_branches-lowers m c S before (Step.Concat (Pipes.MorePipes (Pipe.Then x p) ps)) ss ss' e b =
    let qs = Pipes.MorePipes (Pipe.Then x p) ps in
    let h = then_some-holds (not (is_identity x) && Begin x qs) (x ∷ concat (map rest (branches qs)) ∷ ss) ss' e in
    let t = (then_some-parts (not (is_identity x) && Begin x qs) (x ∷ concat (map rest (branches qs)) ∷ ss) ss' e).1 in
    let t' = sym (ap (λ s. x ∷ s ∷ ss) (concat-each rest qs)) ∙ t in
    let b' = subst (λ z. Branched (pipe z)) (sym t') b in
    subst (λ z. IsSmaller (pipe z) (pipe (Step.Concat qs ∷ ss))) t'
    (factored-smaller x qs (pipe ss) (and-right (not (is_identity x)) (Begin x qs) h) (not-true (is_identity x) (and-left (not (is_identity x)) (Begin x qs) h)) b')
factor_branches-lowers m c S before s ss ss' e b = absurd (none_is_not_some ss' e)

-- ---- rules 10 to 12: joins

pub pass_join-lowers : LowersInPlace pass_join
unfolding weight
pass_join-lowers m c S before (Step.Join false n a T) ss ss' e b =
    let S' = after m c S (Step.Join false n a T) in
    let test = λ (b : Expr). not (list_any (begins a) (paths b)) && is_sure m S' b in
    passing_lowers m S' test (Step.Join false n a T) ss ss' (if_else-parts (join_quiet m c S n T) (passing m S' test (Step.Join false n a T) ss) ss' e).1 b (join_passable false n a T)
pass_join-lowers m c S before s ss ss' e b = absurd (none_is_not_some ss' e)

related-less : (e : Expr) (n a : Name) (T : OptPipe) (v : ℕ) → step_weight (Step.Join false n a (ended_inner T (Step.Filter (with_paths (drop 1) e)))) v < step_weight (Step.Join false n a T) v * 2 ^ size e
unfolding weight
related-less e n a T v =
    let x = ended_inner-weight T (Step.Filter (with_paths (drop 1) e)) v ∙ ap (λ k. inner_weight T v * 2 ^ k) (with_paths-size (drop 1) e) in
    let y = doubles e in
    let z = mul-le v 1 v (2 ^ size e) (omega arith) (omega (arith, y)) in
    omega (arith, x, y, z)

pub filter_related-lowers : LowersInPlace filter_related
unfolding weight
filter_related-lowers m c S before (Step.Join false n a T) ss ss' e b =
    taking_lowers m (after m c S (Step.Join false n a T)) (λ r. is_nonempty (paths r.last) && list_all (begins a) (paths r.last))
    (λ r. Step.Join false n a (ended_inner T (Step.Filter (with_paths (drop 1) r.last)))) (Step.Join false n a T) ss ss' e b (λ r. related-less r.last n a T)
filter_related-lowers m c S before s ss ss' e b = absurd (none_is_not_some ss' e)

pub pass_outer_join-lowers : LowersInPlace pass_outer_join
unfolding weight
pass_outer_join-lowers m c S before (Step.Join true n a T) ss ss' e b =
    let S' = after m c S (Step.Join true n a T) in
    let test = λ (b : Expr). not (list_any (begins a) (paths b)) in
    passing_lowers m S' test (Step.Join true n a T) ss ss' (if_else-parts (join_quiet m c S n T) (passing m S' test (Step.Join true n a T) ss) ss' e).1 b (join_passable true n a T)
pass_outer_join-lowers m c S before s ss ss' e b = absurd (none_is_not_some ss' e)
