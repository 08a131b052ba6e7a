-- What the rule that moves a step before a concatenation, with which all branches begin, makes of typed steps is quiet where these are.
use Rattle.std.proofs.Common.{◌≡◌, refl, sym, ◌∙◌, ap, Bool, true, false, ◌&&◌, not, ◌∷◌, Some, map}
use Rattle.std.proofs.Math.Bool.{and_assoc}
use Rattle.std.proofs.lemmas.Bool.{and_parts}
use Rattle.std.specs.Prelude.{option_and_then, slice_get, unwrap_or}
use Rattle.edm_model.specs.Models.{Model}
use Rattle.edm_values.specs.Lists.{is_some_and, all_some}
use Rattle.edm_values.proofs.OptionFacts.{none_or, chained, then_some-parts, all_some-parts}
use Rattle.apply_ast.specs.Trees.{Pipe, Pipes, Step, steps, pipe}
use Rattle.context_typing.specs.Shapes.{Shape}
use Rattle.context_typing.specs.Typing.{Customs, after, branch_shapes, branches_quiet, concat_shape, is_quiet, step_quiet, steps_shape, step_shape}
use Rattle.context_typing.proofs.WalkFacts.{pipe-steps}
use Rattle.rewrite_laws.specs.Rewrites.{branches, concat, factor_branches, is_identity, pipe_or_identity}
use Rattle.rewrite_laws.specs.TreeEquality.{step_same}
use Rattle.rewrite_laws.proofs.FactorRule.{begins-with, concat-rests, rests, rest-shapes}
use Rattle.rewrite_laws.proofs.QuietLemmas.{KeepsQuietInPlace, quiet-identity}
use Rattle.rewrite_laws.proofs.SameTrees.{Begin, rest}

-- a condition of each is one of all
each-asks : (x r R B : Bool) → (x && R) ≡ (x && B) → (x && (r && R)) ≡ (x && ((x && r) && B))
each-asks true r R B h = ap (λ z. r && z) h
each-asks false r R B h = refl

once : (x r B : Bool) → (x && ((x && r) && B)) ≡ ((x && r) && B)
once true r B = refl
once false r B = refl

-- the step, and the branches behind it, are quiet where the branches are
begun-quiet : (m : Model) (c : Customs) (S S1 : Shape) (x : Step) (ps : Pipes) → step_shape m c S x ≡ Some S1 → Begin x ps ≡ true
    → (step_quiet m c S x && branches_quiet m c S1 (rests ps)) ≡ (step_quiet m c S x && branches_quiet m c S ps)
unfolding is_quiet
begun-quiet m c S S1 x Pipes.NoPipes e h = refl
begun-quiet m c S S1 x (Pipes.MorePipes p ps) e h =
    let t = and_parts (is_some_and (step_same x) (slice_get (steps p) 0)) _ h in
    let q = begins-with x p t.0 in
    let new : is_quiet m c S1 (rest p) ≡ is_quiet m c S1 q.0 =
    ap (λ ss. is_quiet m c S1 (pipe_or_identity ss)) q.2 ∙ quiet-identity m c S1 (steps q.0) ∙ ap (is_quiet m c S1) (pipe-steps q.0) in
    let old : is_quiet m c S p ≡ (step_quiet m c S x && is_quiet m c S1 q.0) = ap (is_quiet m c S) q.1 ∙ ap (λ o. step_quiet m c S x && is_quiet m c (unwrap_or o S) q.0) e in
    ap (λ z. step_quiet m c S x && (z && branches_quiet m c S1 (rests ps))) new
    ∙ each-asks (step_quiet m c S x) (is_quiet m c S1 q.0) (branches_quiet m c S1 (rests ps)) (branches_quiet m c S ps) (begun-quiet m c S S1 x ps e t.1)
    ∙ sym (ap (λ z. step_quiet m c S x && (z && branches_quiet m c S ps)) old)

pub factor_branches-keeps_quiet : KeepsQuietInPlace factor_branches
unfolding is_quiet steps_shape
factor_branches-keeps_quiet m c S S' before (Step.Concat Pipes.NoPipes) ss ss' k law e got = none_or ss' got
factor_branches-keeps_quiet m c S S' before (Step.Concat (Pipes.MorePipes Pipe.End ps)) ss ss' k law e got = none_or ss' got
factor_branches-keeps_quiet m c S S' before (Step.Concat (Pipes.MorePipes (Pipe.Then x p) ps)) ss ss' k law e got =
    let qs = Pipes.MorePipes (Pipe.Then x p) ps in
    let t = then_some-parts (not (is_identity x) && Begin x qs) (x ∷ concat (map rest (branches qs)) ∷ ss) ss' got in
    let all = (and_parts (not (is_identity x)) _ t.0).1 in
    let S2 = chained (λ T. steps_shape m c T (pipe ss)) (step_shape m c S (Step.Concat qs)) S' e in
    let Ss = chained (concat_shape m) (all_some (branch_shapes m c S qs)) S2.0 S2.1 in
    let first = all_some-parts (steps_shape m c S (Pipe.Then x p)) (branch_shapes m c S ps) Ss.0 Ss.1 in
    let S1 = chained (λ T. steps_shape m c T p) (step_shape m c S x) first.0 first.1 in
    let same : step_shape m c S1.0 (Step.Concat (rests qs)) ≡ Some S2.0 = ap (λ os. option_and_then (concat_shape m) (all_some os)) (rest-shapes m c S S1.0 x qs S1.1 all) ∙ S2.1 in
    ap (λ z. is_quiet m c S (pipe z)) (sym t.1)
    ∙ ap (λ ps. is_quiet m c S (pipe (x ∷ Step.Concat ps ∷ ss))) (concat-rests qs)
    ∙ ap (λ o. step_quiet m c S x && (branches_quiet m c (unwrap_or o S) (rests qs) && is_quiet m c (after m c (unwrap_or o S) (Step.Concat (rests qs))) (pipe ss))) S1.1
    ∙ ap (λ o. step_quiet m c S x && (branches_quiet m c S1.0 (rests qs) && is_quiet m c (unwrap_or o S1.0) (pipe ss))) same
    ∙ sym (and_assoc (step_quiet m c S x) (branches_quiet m c S1.0 (rests qs)) (is_quiet m c S2.0 (pipe ss)))
    ∙ ap (λ z. z && is_quiet m c S2.0 (pipe ss)) (begun-quiet m c S S1.0 x qs S1.1 all ∙ once (step_quiet m c S x) (is_quiet m c (after m c S x) p) (branches_quiet m c S ps))
    ∙ sym (ap (λ o. branches_quiet m c S qs && is_quiet m c (unwrap_or o S) (pipe ss)) S2.1)
factor_branches-keeps_quiet m c S S' before s ss ss' k law e got = none_or ss' got
