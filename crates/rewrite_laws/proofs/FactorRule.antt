-- A step with which all branches begin goes before the concatenation.
use Rattle.std.proofs.Common.{◌≡◌, refl, sym, ◌∙◌, ap, subst, true, ◌&&◌, ◌||◌, not, List, ◌∷◌, ◌++◌, Some, None, IsTrue, map, drop, inl, inr, Contains, if◌then◌else◌}
use Rattle.std.specs.Prelude.{option_and_then, slice_get, unwrap_or}
use Rattle.std.proofs.lemmas.List.Elements.{Contains-append_left, Contains-append_right, Contains-append_cases}
use Rattle.std.proofs.lemmas.Bool.{and_parts, or_right}
use Rattle.edm_values.specs.Lists.{is_some_and, all_some}
use Rattle.edm_values.proofs.OptionFacts.{none_or, chained, then_some-parts, all_some-parts}
use Rattle.edm_model.specs.Models.{Model}
use Rattle.edm_data.specs.Worlds.{World}
use Rattle.apply_ast.specs.Trees.{HierName, Pipe, Pipes, Step, steps, pipe, is_long}
use Rattle.apply_ast.specs.Views.{pipes_from}
use Rattle.context_typing.specs.Shapes.{Shape}
use Rattle.context_typing.specs.Typing.{Customs, steps_shape, step_shape, branch_shapes, concat_shape, after}
use Rattle.apply_meaning.specs.Instances.{Instance}
use Rattle.apply_meaning.specs.Meaning.{Outcome, mean, step_mean, branch_means, joined}
use Rattle.apply_ast.specs.NamedHierarchies.{hierarchies, branch_hierarchies, step_hierarchies}
use Rattle.rewrite_laws.specs.Rewrites.{branches, concat, pipe_or_identity, is_identity, factor_branches}
use Rattle.rewrite_laws.specs.RewriteLaws.{KeepsMeaningInPlace, SameMeaning}
use Rattle.rewrite_laws.specs.TreeEquality.{step_same}
use Rattle.rewrite_laws.proofs.SameTrees.{same-steps, Begin, rest}
use Rattle.context_typing.proofs.WalkFacts.{pipe-steps}
use Rattle.rewrite_laws.proofs.StepLists.{identity-shape, identity-mean, identity-hierarchies, identity-long}

-- a pipeline that begins with a step is that step and what follows
pub begins-with : (x : Step) (p : Pipe) → is_some_and (step_same x) (slice_get (steps p) 0) ≡ true → (q : Pipe) × (p ≡ Pipe.Then x q) × (drop 1 (steps p) ≡ steps q)
begins-with x Pipe.End h = cc
begins-with x (Pipe.Then y q) h = (q, (λ i. Pipe.Then (sym (same-steps x y h) i) q), refl)

rest-shape : (m : Model) (c : Customs) (S : Shape) (q : Pipe) → steps_shape m c S (pipe_or_identity (steps q)) ≡ steps_shape m c S q
rest-shape m c S q = identity-shape m c S (steps q) ∙ ap (steps_shape m c S) (pipe-steps q)

rest-mean : (w : World) (c : Customs) (S : Shape) (q : Pipe) (l : List Instance) → mean w c S (pipe_or_identity (steps q)) l ≡ mean w c S q l
rest-mean w c S q l = identity-mean w c S (steps q) l ∙ ap (λ p. mean w c S p l) (pipe-steps q)

rest-hierarchies : (q : Pipe) → hierarchies (pipe_or_identity (steps q)) ≡ hierarchies q
rest-hierarchies q = identity-hierarchies (steps q) ∙ ap hierarchies (pipe-steps q)

abbrev pub rests : Pipes → Pipes
rests Pipes.NoPipes = Pipes.NoPipes
rests (Pipes.MorePipes p ps) = Pipes.MorePipes (rest p) (rests ps)

pub concat-rests : (ps : Pipes) → pipes_from (map rest (branches ps)) ≡ rests ps
concat-rests Pipes.NoPipes = refl
concat-rests (Pipes.MorePipes p ps) = ap (Pipes.MorePipes (rest p)) (concat-rests ps)

rest-names : (x : Step) (ps : Pipes) → Begin x ps ≡ true → (n : HierName) → Contains (branch_hierarchies (rests ps)) n → Contains (branch_hierarchies ps) n
rest-names x Pipes.NoPipes h n z = z
rest-names x (Pipes.MorePipes p ps) h n z =
    let t = and_parts (is_some_and (step_same x) (slice_get (steps p) 0)) _ h in
    let q = begins-with x p t.0 in
    elim (Contains-append_cases (hierarchies (rest p)) (branch_hierarchies (rests ps)) n z) [
      | inl y ↦ Contains-append_left (hierarchies p) (branch_hierarchies ps) n (subst (λ hs. Contains hs n) (sym (ap hierarchies q.1)) (Contains-append_right (step_hierarchies x) (hierarchies q.0) n (subst (λ hs. Contains hs n) (ap (λ ss. hierarchies (pipe_or_identity ss)) q.2 ∙ rest-hierarchies q.0) y)))
      | inr y ↦ Contains-append_right (hierarchies p) (branch_hierarchies ps) n (rest-names x ps t.1 n y)
    ]

pub rest-shapes : (m : Model) (c : Customs) (S S1 : Shape) (x : Step) (ps : Pipes) → step_shape m c S x ≡ Some S1 → Begin x ps ≡ true → branch_shapes m c S1 (rests ps) ≡ branch_shapes m c S ps
unfolding steps_shape
rest-shapes m c S S1 x Pipes.NoPipes e h = refl
rest-shapes m c S S1 x (Pipes.MorePipes p ps) e h =
    let t = and_parts (is_some_and (step_same x) (slice_get (steps p) 0)) _ h in
    let q = begins-with x p t.0 in
    let new = (λ i. if identity-long (drop 1 (steps p)) i then steps_shape m c S1 (pipe_or_identity (q.2 i)) else None) ∙ rest-shape m c S1 q.0 in
    let old = ap (λ p. if is_long p then steps_shape m c S p else None) q.1 ∙ ap (option_and_then (λ T. steps_shape m c T q.0)) e in
    λ i. (new ∙ sym old) i ∷ rest-shapes m c S S1 x ps e t.1 i

rest-means : (w : World) (c : Customs) (S S1 : Shape) (x : Step) (ps : Pipes) (l r : List Instance) → step_shape w.model c S x ≡ Some S1 → Begin x ps ≡ true → step_mean w c S x l ≡ Some r
    → branch_means w c S1 (rests ps) r ≡ branch_means w c S ps l
unfolding mean steps_shape
rest-means w c S S1 x Pipes.NoPipes l r e h k = refl
rest-means w c S S1 x (Pipes.MorePipes p ps) l r e h k =
    let t = and_parts (is_some_and (step_same x) (slice_get (steps p) 0)) _ h in
    let q = begins-with x p t.0 in
    let new = ap (λ ss. mean w c S1 (pipe_or_identity ss) r) q.2 ∙ rest-mean w c S1 q.0 r in
    let old = ap (λ p. mean w c S p l) q.1 ∙ ap (option_and_then (mean w c (after w.model c S x) q.0)) k ∙ ap (λ o. mean w c (unwrap_or o S) q.0 r) e in
    λ i. (new ∙ sym old) i ∷ rest-means w c S S1 x ps l r e t.1 k i

-- where the step is refused, the concatenation is
refused : (w : World) (c : Customs) (S : Shape) (x : Step) (p : Pipe) (ps : Pipes) (l : List Instance) → Begin x (Pipes.MorePipes p ps) ≡ true → step_mean w c S x l ≡ None → joined (branch_means w c S (Pipes.MorePipes p ps) l) ≡ None
unfolding mean steps_shape
refused w c S x p ps l h k =
    let q = begins-with x p (and_parts (is_some_and (step_same x) (slice_get (steps p) 0)) _ h).0 in
    ap (λ o. joined (o ∷ branch_means w c S ps l)) (ap (λ p. mean w c S p l) q.1 ∙ ap (option_and_then (mean w c (after w.model c S x) q.0)) k)

pub factor_branches-keeps_meaning : (A : World → Type 0) → KeepsMeaningInPlace A factor_branches
unfolding mean steps_shape
factor_branches-keeps_meaning A w c S S' before (Step.Concat Pipes.NoPipes) ss ss' k law e got = none_or ss' got
factor_branches-keeps_meaning A w c S S' before (Step.Concat (Pipes.MorePipes Pipe.End ps)) ss ss' k law e got = none_or ss' got
factor_branches-keeps_meaning A w c S S' before (Step.Concat (Pipes.MorePipes (Pipe.Then x p) ps)) ss ss' k law e got =
    let t = then_some-parts (not (is_identity x) && Begin x (Pipes.MorePipes (Pipe.Then x p) ps)) (x ∷ concat (map rest (branches (Pipes.MorePipes (Pipe.Then x p) ps))) ∷ ss) ss' got in
    let all = (and_parts (not (is_identity x)) _ t.0).1 in
    let S2 = chained (λ T. steps_shape w.model c T (pipe ss)) (step_shape w.model c S (Step.Concat (Pipes.MorePipes (Pipe.Then x p) ps))) S' e in
    let Ss = chained (concat_shape w.model) (all_some (branch_shapes w.model c S (Pipes.MorePipes (Pipe.Then x p) ps))) S2.0 S2.1 in
    let first = all_some-parts (steps_shape w.model c S (Pipe.Then x p)) (branch_shapes w.model c S ps) Ss.0 Ss.1 in
    let S1 = chained (λ T. steps_shape w.model c T p) (step_shape w.model c S x) first.0 first.1 in
    let K : List Step → Type 0 = λ z. IsTrue (before || is_long (pipe z)) × SameMeaning A w c S (pipe (Step.Concat (Pipes.MorePipes (Pipe.Then x p) ps) ∷ ss)) (pipe z) in
    subst K t.1 (subst (λ qs. K (x ∷ Step.Concat qs ∷ ss)) (sym (concat-rests (Pipes.MorePipes (Pipe.Then x p) ps)))
    (or_right before true refl, (names all, shapes S1.0 S1.1 all, λ a l f. means S2.0 S2.1 S1.0 S1.1 all l (step_mean w c S x l) refl)))
  where
    qs : Pipes
    qs = Pipes.MorePipes (Pipe.Then x p) ps

    names : Begin x (Pipes.MorePipes (Pipe.Then x p) ps) ≡ true → (n : HierName) → Contains (step_hierarchies x ++ (branch_hierarchies (rests (Pipes.MorePipes (Pipe.Then x p) ps)) ++ hierarchies (pipe ss))) n
        → Contains (branch_hierarchies (Pipes.MorePipes (Pipe.Then x p) ps) ++ hierarchies (pipe ss)) n
    names all n z = elim (Contains-append_cases (step_hierarchies x) (branch_hierarchies (rests (Pipes.MorePipes (Pipe.Then x p) ps)) ++ hierarchies (pipe ss)) n z) [
      | inl y ↦ Contains-append_left (branch_hierarchies (Pipes.MorePipes (Pipe.Then x p) ps)) (hierarchies (pipe ss)) n (Contains-append_left (hierarchies (Pipe.Then x p)) (branch_hierarchies ps) n (Contains-append_left (step_hierarchies x) (hierarchies p) n y))
      | inr y ↦ elim (Contains-append_cases (branch_hierarchies (rests (Pipes.MorePipes (Pipe.Then x p) ps))) (hierarchies (pipe ss)) n y) [
        | inl v ↦ Contains-append_left (branch_hierarchies (Pipes.MorePipes (Pipe.Then x p) ps)) (hierarchies (pipe ss)) n (rest-names x (Pipes.MorePipes (Pipe.Then x p) ps) all n v)
        | inr v ↦ Contains-append_right (branch_hierarchies (Pipes.MorePipes (Pipe.Then x p) ps)) (hierarchies (pipe ss)) n v
      ]
    ]

    shapes : (S1 : Shape) → step_shape w.model c S x ≡ Some S1 → Begin x (Pipes.MorePipes (Pipe.Then x p) ps) ≡ true
        → steps_shape w.model c S (Pipe.Then x (Pipe.Then (Step.Concat (rests (Pipes.MorePipes (Pipe.Then x p) ps))) (pipe ss))) ≡ steps_shape w.model c S (Pipe.Then (Step.Concat (Pipes.MorePipes (Pipe.Then x p) ps)) (pipe ss))
    shapes S1 e1 all =
        ap (option_and_then (λ T. steps_shape w.model c T (Pipe.Then (Step.Concat (rests (Pipes.MorePipes (Pipe.Then x p) ps))) (pipe ss)))) e1
        ∙ ap (λ os. option_and_then (λ T. steps_shape w.model c T (pipe ss)) (option_and_then (concat_shape w.model) (all_some os))) (rest-shapes w.model c S S1 x (Pipes.MorePipes (Pipe.Then x p) ps) e1 all)

    means : (S2 : Shape) → step_shape w.model c S (Step.Concat (Pipes.MorePipes (Pipe.Then x p) ps)) ≡ Some S2 → (S1 : Shape) → step_shape w.model c S x ≡ Some S1 → Begin x (Pipes.MorePipes (Pipe.Then x p) ps) ≡ true → (l : List Instance) → (o : Outcome) → step_mean w c S x l ≡ o
        → mean w c S (Pipe.Then x (Pipe.Then (Step.Concat (rests (Pipes.MorePipes (Pipe.Then x p) ps))) (pipe ss))) l ≡ mean w c S (Pipe.Then (Step.Concat (Pipes.MorePipes (Pipe.Then x p) ps)) (pipe ss)) l
    means S2 e2 S1 e1 all l None z =
        ap (option_and_then (mean w c (after w.model c S x) (Pipe.Then (Step.Concat (rests (Pipes.MorePipes (Pipe.Then x p) ps))) (pipe ss)))) z
        ∙ sym (ap (option_and_then (mean w c (after w.model c S (Step.Concat (Pipes.MorePipes (Pipe.Then x p) ps))) (pipe ss))) (refused w c S x (Pipe.Then x p) ps l all z))
    means S2 e2 S1 e1 all l (Some r) z =
        ap (option_and_then (mean w c (after w.model c S x) (Pipe.Then (Step.Concat (rests (Pipes.MorePipes (Pipe.Then x p) ps))) (pipe ss)))) z
        ∙ ap (λ T. mean w c T (Pipe.Then (Step.Concat (rests (Pipes.MorePipes (Pipe.Then x p) ps))) (pipe ss)) r) (ap (λ o. unwrap_or o S) e1)
        ∙ (λ i. option_and_then (mean w c (afters i) (pipe ss)) (joined (rest-means w c S S1 x (Pipes.MorePipes (Pipe.Then x p) ps) l r e1 all z i)))
      where
        afters : after w.model c S1 (Step.Concat (rests (Pipes.MorePipes (Pipe.Then x p) ps))) ≡ after w.model c S (Step.Concat (Pipes.MorePipes (Pipe.Then x p) ps))
        afters = ap (λ os. unwrap_or (option_and_then (concat_shape w.model) (all_some os)) S1) (rest-shapes w.model c S S1 x (Pipes.MorePipes (Pipe.Then x p) ps) e1 all) ∙ ap (λ o. unwrap_or o S1) e2 ∙ sym (ap (λ o. unwrap_or o S) e2)
factor_branches-keeps_meaning A w c S S' before s ss ss' k law e got = none_or ss' got
