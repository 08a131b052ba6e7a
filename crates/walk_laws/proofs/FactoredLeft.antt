-- A typed pipeline of which the first and the ninth rule make nothing is left as it stands by what comes out of all branches.
use Rattle.std.proofs.Common.{◌≡◌, refl, sym, ◌∙◌, ap, Bool, true, false, not, ◌&&◌, List, [], ◌∷◌, ◌++◌, drop, Some, None, map, if◌then◌else◌}
use Rattle.std.specs.Prelude.{slice_get}
use Rattle.std.proofs.lemmas.Bool.{true≢false}
use Rattle.edm_values.specs.Lists.{all_some, is_some_and}
use Rattle.edm_values.proofs.EachLemmas.{all_some-head, all_some-tail}
use Rattle.edm_values.proofs.OptionFacts.{chained, if_else-parts, none_or}
use Rattle.edm_model.specs.Models.{Model}
use Rattle.apply_ast.specs.Trees.{Pipe, Pipes, Step, is_long, steps}
use Rattle.apply_ast.specs.Views.{pipes_from}
use Rattle.context_typing.specs.Shapes.{Shape}
use Rattle.context_typing.specs.Typing.{Customs, after, branch_shapes, concat_shape, step_shape, steps_shape}
use Rattle.context_typing.proofs.WalkFacts.{pipe-steps}
use Rattle.rewrite_laws.specs.Rewrites.{branch_results, branches, concat, drop_identity, factor_branches, is_identity, pipe_or_identity, pipe_results, step_results}
use Rattle.rewrite_laws.specs.TreeEquality.{step_same}
use Rattle.rewrite_laws.proofs.EachPlace.{typed_first}
use Rattle.rewrite_laws.proofs.SameTrees.{Begin, rest}
use Rattle.walk_laws.specs.Factored.{all_begin, before_concat, concat_of, factored, factored_branches, factored_step, factored_steps, is_alone, taken_out}
use Rattle.walk_laws.proofs.SameItself.{step-self}
use Rattle.walk_laws.proofs.Unsplit.{append-none, map-none, nothing-parts, then_some-none}

-- the steps of a branch, none where it is `identity`
abbrev pub but_alone : Pipe → List Step
but_alone p = if is_alone p then [] else steps p

-- all branches have a step
abbrev pub all_long : Pipes → Bool
all_long Pipes.NoPipes = true
all_long (Pipes.MorePipes p ps) = is_long p && all_long ps

pub long-whole : (p : Pipe) → is_long p ≡ true → pipe_or_identity (but_alone p) ≡ p
long-whole Pipe.End h = cc
long-whole (Pipe.Then Step.Identity Pipe.End) h = refl
long-whole (Pipe.Then Step.Identity (Pipe.Then s p)) h = pipe-steps (Pipe.Then Step.Identity (Pipe.Then s p))
long-whole (Pipe.Then s p) h = pipe-steps (Pipe.Then s p)

long-parts : (a b : Bool) → (a && b) ≡ true → (a ≡ true) × (b ≡ true)
long-parts true b h = (refl, h)
long-parts false b h = absurd (true≢false (sym h))

long-concat : (ps : Pipes) → all_long ps ≡ true → pipes_from (map pipe_or_identity (map but_alone (branches ps))) ≡ ps
long-concat Pipes.NoPipes h = refl
long-concat (Pipes.MorePipes p ps) h =
    let t = long-parts (is_long p) (all_long ps) h in
    λ i. Pipes.MorePipes (long-whole p t.0 i) (long-concat ps t.1 i)

-- a branch begins with a step where what is left of it does
same-begin : (x : Step) (p : Pipe) → is_identity x ≡ false → is_some_and (step_same x) (slice_get (but_alone p) 0) ≡ is_some_and (step_same x) (slice_get (steps p) 0)
same-begin x Pipe.End h = refl
same-begin x (Pipe.Then Step.Identity Pipe.End) h = go x h
  where
    go : (x : Step) → is_identity x ≡ false → false ≡ step_same x Step.Identity
    go Step.Identity h = cc
    go x h = refl
same-begin x (Pipe.Then Step.Identity (Pipe.Then s p)) h = refl
same-begin x (Pipe.Then s p) h = refl

all-same : (x : Step) (ps : Pipes) → is_identity x ≡ false → all_begin x (map but_alone (branches ps)) ≡ Begin x ps
all-same x Pipes.NoPipes h = refl
all-same x (Pipes.MorePipes p ps) h = λ i. same-begin x p h i && all-same x ps h i

module _ (m : Model) (c : Customs) where
  -- `identity` stands before no other step
  pub no-identity : (S : Shape) (ss : List Step) → drop_identity m c S true Step.Identity ss ≡ None → ⊥
  no-identity S ss e = none_or ss (sym e)

  pub no-first : (S : Shape) (s : Step) (ss : List Step) → drop_identity m c S false Step.Identity (s ∷ ss) ≡ None → ⊥
  no-first S s ss e = none_or (s ∷ ss) (sym e)

  -- no step comes out of branches that do not begin with one step
  pub concat-left : (S : Shape) (before : Bool) (ps : Pipes) (ss : List Step) → all_long ps ≡ true → branch_results drop_identity m c S ps ≡ [] → factor_branches m c S before (Step.Concat ps) ss ≡ None → before_concat (map but_alone (branches ps)) ≡ Step.Concat ps ∷ []
  unfolding pipe_results
  concat-left S before Pipes.NoPipes ss h i none = refl
  concat-left S before (Pipes.MorePipes Pipe.End ps) ss h i none = cc
  concat-left S before (Pipes.MorePipes (Pipe.Then Step.Identity Pipe.End) ps) ss h i none = ap (λ qs. Step.Concat qs ∷ []) (long-concat (Pipes.MorePipes (Pipe.Then Step.Identity Pipe.End) ps) h)
  concat-left S before (Pipes.MorePipes (Pipe.Then Step.Identity (Pipe.Then s p)) ps) ss h i none =
      let q = Pipe.Then Step.Identity (Pipe.Then s p) in
      let n = append-none (map (λ q. Pipes.MorePipes q ps) (pipe_results drop_identity m c S false q)) (map (Pipes.MorePipes q) (branch_results drop_identity m c S ps)) i in
      absurd (no-first S s (steps p) (nothing-parts drop_identity m c S false Step.Identity (Pipe.Then s p) (map-none (λ q. Pipes.MorePipes q ps) _ n.0)).0)
  concat-left S before (Pipes.MorePipes (Pipe.Then x q) ps) ss h i none =
      let qs = Pipes.MorePipes (Pipe.Then x q) ps in
      let some = then_some-none (not (is_identity x) && Begin x qs) (x ∷ concat (map rest (branches qs)) ∷ ss) none in
      let others : Begin x ps ≡ false = sym (ap (λ z. not (is_identity x) && (z && Begin x ps)) (step-self x)) ∙ some in
      ap (λ z. if z then x ∷ taken_out (steps q) (map (drop 1) (map but_alone (branches ps))) else concat_of ((x ∷ steps q) ∷ map but_alone (branches ps)) ∷ []) (all-same x ps refl ∙ others)
      ∙ ap (λ rs. Step.Concat rs ∷ []) (long-concat qs h)

  -- typed branches have a step
  pub typed-long : (S : Shape) (ps : Pipes) (Ss : List Shape) → all_some (branch_shapes m c S ps) ≡ Some Ss → all_long ps ≡ true
  unfolding steps_shape
  typed-long S Pipes.NoPipes Ss e = refl
  typed-long S (Pipes.MorePipes p ps) Ss e =
      let x = if is_long p then steps_shape m c S p else None in
      let t = all_some-head x (branch_shapes m c S ps) Ss e in
      let more = all_some-tail x (branch_shapes m c S ps) Ss e in
      λ i. (if_else-parts (is_long p) (steps_shape m c S p) t.0 t.1).0 i && typed-long S ps more.0 more.1 i

  mutual
    unfolding pipe_results steps_shape

    -- behind a step
    steps-left : (p : Pipe) (S S' : Shape) → steps_shape m c S p ≡ Some S' → pipe_results drop_identity m c S true p ≡ [] → pipe_results factor_branches m c S true p ≡ [] → factored_steps p ≡ steps p
    steps-left Pipe.End S S' e i f = refl
    steps-left (Pipe.Then Step.Identity q) S S' e i f = absurd (no-identity S (steps q) (nothing-parts drop_identity m c S true Step.Identity q i).0)
    steps-left (Pipe.Then s q) S S' e i f =
        let t = typed_first m c S S' s q e in
        let x = nothing-parts drop_identity m c S true s q i in
        let y = nothing-parts factor_branches m c S true s q f in
        λ j. step-left s S (after m c S s) true (steps q) t.0 refl x.1 y.0 y.1 j ++ steps-left q (after m c S s) S' t.1 x.2 y.2 j

    step-left : (s : Step) (S S' : Shape) (before : Bool) (ss : List Step) → step_shape m c S s ≡ Some S' → is_identity s ≡ false → step_results drop_identity m c S s ≡ [] → factor_branches m c S before s ss ≡ None → step_results factor_branches m c S s ≡ [] → factored_step s ≡ s ∷ []
    step-left Step.Identity S S' before ss e plain i none f = cc
    step-left (Step.Concat ps) S S' before ss e plain i none f =
        let v = chained (concat_shape m) (all_some (branch_shapes m c S ps)) S' e in
        let x = map-none Step.Concat (branch_results drop_identity m c S ps) i in
        ap before_concat (branches-left ps S v.0 v.1 x (map-none Step.Concat (branch_results factor_branches m c S ps) f))
        ∙ concat-left S before ps ss (typed-long S ps v.0 v.1) x none
    step-left s S S' before ss e plain i none f = refl

    branches-left : (ps : Pipes) (S : Shape) (Ss : List Shape) → all_some (branch_shapes m c S ps) ≡ Some Ss → branch_results drop_identity m c S ps ≡ [] → branch_results factor_branches m c S ps ≡ [] → factored_branches ps ≡ map but_alone (branches ps)
    branches-left Pipes.NoPipes S Ss e i f = refl
    branches-left (Pipes.MorePipes p ps) S Ss e i f =
        let x = if is_long p then steps_shape m c S p else None in
        let t = all_some-head x (branch_shapes m c S ps) Ss e in
        let v = if_else-parts (is_long p) (steps_shape m c S p) t.0 t.1 in
        let more = all_some-tail x (branch_shapes m c S ps) Ss e in
        let y = append-none (map (λ q. Pipes.MorePipes q ps) (pipe_results drop_identity m c S false p)) (map (Pipes.MorePipes p) (branch_results drop_identity m c S ps)) i in
        let z = append-none (map (λ q. Pipes.MorePipes q ps) (pipe_results factor_branches m c S false p)) (map (Pipes.MorePipes p) (branch_results factor_branches m c S ps)) f in
        λ j. whole-left p S t.0 v.1 (map-none (λ q. Pipes.MorePipes q ps) _ y.0) (map-none (λ q. Pipes.MorePipes q ps) _ z.0) j
        ∷ branches-left ps S more.0 more.1 (map-none (Pipes.MorePipes p) _ y.1) (map-none (Pipes.MorePipes p) _ z.1) j

    -- a pipeline of its own
    whole-left : (p : Pipe) (S S' : Shape) → steps_shape m c S p ≡ Some S' → pipe_results drop_identity m c S false p ≡ [] → pipe_results factor_branches m c S false p ≡ [] → factored_steps p ≡ but_alone p
    whole-left Pipe.End S S' e i f = refl
    whole-left (Pipe.Then Step.Identity Pipe.End) S S' e i f = refl
    whole-left (Pipe.Then Step.Identity (Pipe.Then s q)) S S' e i f = absurd (no-first S s (steps q) (nothing-parts drop_identity m c S false Step.Identity (Pipe.Then s q) i).0)
    whole-left (Pipe.Then s q) S S' e i f =
        let t = typed_first m c S S' s q e in
        let x = nothing-parts drop_identity m c S false s q i in
        let y = nothing-parts factor_branches m c S false s q f in
        λ j. step-left s S (after m c S s) false (steps q) t.0 refl x.1 y.0 y.1 j ++ steps-left q (after m c S s) S' t.1 x.2 y.2 j

  pub left_factored : (p : Pipe) (S S' : Shape) → is_long p ≡ true → steps_shape m c S p ≡ Some S' → pipe_results drop_identity m c S false p ≡ [] → pipe_results factor_branches m c S false p ≡ [] → factored p ≡ p
  left_factored p S S' long e i f = ap pipe_or_identity (whole-left p S S' e i f) ∙ long-whole p long
