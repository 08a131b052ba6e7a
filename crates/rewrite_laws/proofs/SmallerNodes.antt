-- Rules on hierarchies make a pipeline smaller: the fifteenth, the seventeenth and the eighteenth.
use Rattle.std.proofs.Common.{◌≡◌, refl, sym, ◌∙◌, ap, subst, ℕ, ◌+◌, ◌*◌, ◌^◌, ◌<◌, true, ◌&&◌, List, [], ◌∷◌, drop, reverse, None, arith}
use Rattle.std.specs.List.{last_or}
use Rattle.std.proofs.lemmas.Nat.{mul-le}
use Rattle.edm_model.specs.Models.{Model}
use Rattle.edm_values.specs.Lists.{is_some_and}
use Rattle.edm_values.specs.Names.{Path}
use Rattle.apply_ast.specs.Trees.{Expr, Step, OptPipe, Key, Keys, steps, pipe}
use Rattle.context_typing.specs.Shapes.{Shape}
use Rattle.context_typing.specs.Typing.{after, is_risky, is_sure, steps_shape, rollup_part, group_keys, is_nodes}
use Rattle.context_typing.proofs.WalkFacts.{pipe-steps}
use Rattle.rewrite_laws.specs.Measures.{size, weight, inner_weight, key_weight, keys_weight, step_weight, IsSmaller}
use Rattle.rewrite_laws.specs.Rewrites.{passing, pipe_or_identity, ended_key, ended_keys, is_idle, with_paths, grouping_quiet, node_shape, pass_traverse, filter_nodes, drop_idle}
use Rattle.edm_values.proofs.EachLemmas.{none_is_not_some, then_some-holds}
use Rattle.rewrite_laws.proofs.Branches.{Branched}
use Rattle.rewrite_laws.proofs.RunWeights.{weight-append, less_before, doubles, passing_lowers, taking_lowers}
use Rattle.rewrite_laws.proofs.SmallerPlaces.{LowersInPlace}
use Rattle.edm_values.proofs.OptionFacts.{then_some-parts, chained, some_and, if_else-parts, if_some}
use Rattle.rewrite_laws.proofs.SmallerInside.{with_paths-size, ended_inner-weight}
use Rattle.rewrite_laws.proofs.StepLists.{last-split}

pub pass_traverse-lowers : LowersInPlace pass_traverse
unfolding weight
pass_traverse-lowers m c S before (Step.Traverse t) ss ss' e b =
    passing_lowers m S (is_sure m S) (Step.Traverse t) ss ss' (if_some (is_risky S t.path) (passing m S (is_sure m S) (Step.Traverse t) ss) ss' e).1 b (λ x v n h. omega arith)
pass_traverse-lowers m c S before s ss ss' e b = absurd (none_is_not_some ss' e)

ended_key-weight : (e : Expr) (k : Key) → key_weight (ended_key (Step.Filter e) k) ≡ key_weight k * 2 ^ size e
unfolding weight
ended_key-weight e (Key.Recursive h p T) = ended_inner-weight T (Step.Filter e) 1
ended_key-weight e k = omega arith

ended_keys-weight : (e : Expr) (ks : Keys) → keys_weight (ended_keys (Step.Filter e) ks) ≡ keys_weight ks * 2 ^ size e
unfolding weight
ended_keys-weight e Keys.NoKeys = omega arith
ended_keys-weight e (Keys.MoreKeys k ks) = let x = ended_key-weight e k in let y = ended_keys-weight e ks in omega (arith, x, y)

-- keys that take in a filter of the size of the one behind the grouping
group-less : (e e' : Expr) (ks : Keys) (T : OptPipe) → size e' ≡ size e → (v : ℕ) → step_weight (Step.GroupBy (ended_keys (Step.Filter e') ks) T) v < step_weight (Step.GroupBy ks T) v * 2 ^ size e
unfolding weight
group-less e e' ks T z v =
    let x = ended_keys-weight e' ks ∙ ap (λ n. keys_weight ks * 2 ^ n) z in
    let y = doubles e in
    let t = mul-le (inner_weight T v) 1 (inner_weight T v) (2 ^ size e) (omega arith) (omega (arith, y)) in
    omega (arith, x, y, t)

pub filter_nodes-lowers : LowersInPlace filter_nodes
unfolding weight
filter_nodes-lowers m c S before (Step.GroupBy ks T) ss ss' e b =
    let S' = after m c S (Step.GroupBy ks T) in
    let t = chained _ (node_shape m c ks) ss' e in
    let u = if_else-parts (is_nodes (rollup_part (group_keys ks)) && grouping_quiet m c S ks T) _ ss' t.2 in
    taking_lowers m S' _ (λ r. Step.GroupBy (ended_keys (Step.Filter (with_paths (λ p. (t.0).1 ∷ []) r.last)) ks) T) (Step.GroupBy ks T) ss ss' u.1 b
    (λ r. group-less r.last (with_paths (λ p. (t.0).1 ∷ []) r.last) ks T (with_paths-size (λ p. (t.0).1 ∷ []) r.last))
filter_nodes-lowers m c S before s ss ss' e b = absurd (none_is_not_some ss' e)

-- ---- the rule

idle-weight : (m : Model) (S : Shape) (p : Path) (x : Step) → is_idle m S p x ≡ true → (v : ℕ) → step_weight x v ≡ v + 1
unfolding weight
idle-weight m S p (Step.OrderBy items) h v = refl
idle-weight m S p (Step.Compute ns) h v = refl
idle-weight m S p x h v = cc

identity-weight : (ss : List Step) (v : ℕ) → weight (pipe_or_identity ss) v ≡ weight (pipe ss) v
unfolding weight
identity-weight [] v = refl
identity-weight (s ∷ ss) v = refl

pub drop_idle-lowers : LowersInPlace drop_idle
unfolding weight
drop_idle-lowers m c S before (Step.Climb up h p T d keep) ss ss' e b =
    let front = reverse (drop 1 (reverse (steps T))) in
    let x = chained _ (last_or None (steps T)) ss' e in
    let new = Step.Climb up h p (pipe_or_identity front) d keep in
    let test = is_some_and (λ S'. is_idle m S' p x.0) (steps_shape m c S (pipe front)) in
    let t = (then_some-parts test (new ∷ ss) ss' x.2).1 in
    let i = some_and (λ S'. is_idle m S' p x.0) (steps_shape m c S (pipe front)) (then_some-holds test (new ∷ ss) ss' x.2) in
    let l = last-split (steps T) x.0 x.1 in
    let b' = subst (λ z. Branched (pipe z)) (sym t) b in
    subst (λ z. IsSmaller (pipe z) (pipe (Step.Climb up h p T d keep ∷ ss))) t
    (less_before (new ∷ []) (Step.Climb up h p T d keep ∷ []) ss b'.1 (λ v o.
    let w = sym (ap (λ q. weight q v) (pipe-steps T)) ∙ ap (λ z. weight (pipe z) v) l ∙ weight-append front (x.0 ∷ []) v in
    omega (arith, w, idle-weight m i.0 p x.0 i.2 (weight (pipe front) v), identity-weight front v)))
drop_idle-lowers m c S before s ss ss' e b = absurd (none_is_not_some ss' e)
