-- What the ninth rule makes of a pipeline whose filters rest: filters rest in it too, and the same steps come out of it; where the rule makes nothing, no step comes out.
use Rattle.std.proofs.Common.{◌≡◌, refl, sym, ◌∙◌, ap, Bool, true, false, not, ◌&&◌, ◌||◌, List, [], ◌∷◌, ◌++◌, drop, Some, None, map, if◌then◌else◌}
use Rattle.std.specs.Prelude.{option_to_list, slice_get}
use Rattle.std.proofs.lemmas.Bool.{and_from, and_parts}
use Rattle.std.proofs.lemmas.List.{append_assoc}
use Rattle.edm_values.specs.Lists.{is_some_and}
use Rattle.edm_values.proofs.EachLemmas.{Each, each-append, each-map, each-weaker}
use Rattle.edm_values.proofs.OptionFacts.{none_or, then_some-parts}
use Rattle.edm_model.specs.Models.{Model}
use Rattle.apply_ast.specs.Trees.{Pipe, Pipes, Step, is_long, pipe, steps}
use Rattle.apply_ast.specs.Views.{pipes_from}
use Rattle.context_typing.specs.Shapes.{Shape}
use Rattle.context_typing.specs.Typing.{Customs, after}
use Rattle.context_typing.proofs.WalkFacts.{pipe-steps}
use Rattle.rewrite_laws.specs.Rewrites.{branch_results, branches, concat, factor_branches, is_identity, pipe_or_identity, pipe_results, step_results}
use Rattle.rewrite_laws.specs.TreeEquality.{step_same}
use Rattle.rewrite_laws.proofs.FactorRule.{begins-with, concat-rests, rests}
use Rattle.rewrite_laws.proofs.FilterRuns.{each-place}
use Rattle.rewrite_laws.proofs.SameTrees.{Begin, rest}
use Rattle.walk_laws.specs.Factored.{Place, all_begin, before_concat, branches_rest, concat_of, factored, factored_branches, factored_step, factored_steps, is_alone, place_behind, pipe_rests, step_rests, steps_rest, taken_out}
use Rattle.walk_laws.proofs.SameItself.{step-self}
use Rattle.walk_laws.proofs.Unsplit.{append-none, map-none, nothing-parts, then_some-none}

-- ---- steps that come out of lists

drop-back : {X : Type 0} (x : X) (a : List X) (ls : List (List X)) → map (drop 1) (map (λ l. x ∷ (a ++ l)) ls) ≡ map (λ l. a ++ l) ls
drop-back x a [] = refl
drop-back x a (l ∷ ls) = ap (λ r. (a ++ l) ∷ r) (drop-back x a ls)

begin-all : (x : Step) (a : List Step) (ls : List (List Step)) → all_begin x (map (λ l. x ∷ (a ++ l)) ls) ≡ true
begin-all x a [] = refl
begin-all x a (l ∷ ls) = and_from (step_same x x) _ (step-self x) (begin-all x a ls)

-- steps with which all lists begin come out first
pub out-first : (a l : List Step) (ls : List (List Step)) → taken_out (a ++ l) (map (λ k. a ++ k) ls) ≡ a ++ taken_out l ls
out-first [] l ls = ap (taken_out l) (go ls)
  where
    go : (ls : List (List Step)) → map (λ k. k) ls ≡ ls
    go [] = refl
    go (k ∷ ks) = ap (λ r. k ∷ r) (go ks)
out-first (x ∷ a) l ls =
    ap (λ z. if z then x ∷ taken_out (a ++ l) (map (drop 1) (map (λ k. x ∷ (a ++ k)) ls)) else concat_of ((x ∷ (a ++ l)) ∷ map (λ k. x ∷ (a ++ k)) ls) ∷ []) (begin-all x a ls)
    ∙ ap (λ r. x ∷ taken_out (a ++ l) r) (drop-back x a ls)
    ∙ ap (λ r. x ∷ r) (out-first a l ls)

-- ---- the rest of a branch

not-alone : (x : Step) (q : Pipe) → is_identity x ≡ false → is_alone (Pipe.Then x q) ≡ false
not-alone Step.Identity q h = cc
not-alone x q h = refl

rest-rests : (b : Place) (q : Pipe) → steps_rest b q ≡ true → (is_alone (pipe_or_identity (steps q)) || (is_long (pipe_or_identity (steps q)) && steps_rest b (pipe_or_identity (steps q)))) ≡ true
rest-rests b Pipe.End h = refl
rest-rests b (Pipe.Then s q) h = ap (λ p. is_alone (Pipe.Then s p) || (step_rests b s && steps_rest (place_behind b s) p)) (pipe-steps q) ∙ go (is_alone (Pipe.Then s q))
  where
    go : (a : Bool) → (a || (step_rests b s && steps_rest (place_behind b s) q)) ≡ true
    go true = refl
    go false = h

pub rest-factored : (q : Pipe) → factored_steps (pipe_or_identity (steps q)) ≡ factored_steps q
rest-factored Pipe.End = refl
rest-factored (Pipe.Then s q) = ap (λ p. factored_steps (Pipe.Then s p)) (pipe-steps q)

-- a branch that begins with a step, but `identity`
branch-parts : (b : Place) (x : Step) (p q : Pipe) → is_identity x ≡ false → p ≡ Pipe.Then x q → (is_alone p || (is_long p && steps_rest b p)) ≡ true → (step_rests b x ≡ true) × (steps_rest (place_behind b x) q ≡ true)
branch-parts b x p q h e k =
    and_parts (step_rests b x) (steps_rest (place_behind b x) q)
    (sym (ap (λ z. z || steps_rest b (Pipe.Then x q)) (not-alone x q h)) ∙ sym (ap (λ p. is_alone p || (is_long p && steps_rest b p)) e) ∙ k)

-- branches without the step rest behind it
rests-rest : (b : Place) (x : Step) (ps : Pipes) → is_identity x ≡ false → Begin x ps ≡ true → branches_rest b ps ≡ true → branches_rest (place_behind b x) (rests ps) ≡ true
rests-rest b x Pipes.NoPipes h k e = refl
rests-rest b x (Pipes.MorePipes p ps) h k e =
    let t = and_parts (is_some_and (step_same x) (slice_get (steps p) 0)) _ k in
    let q = begins-with x p t.0 in
    let u = and_parts (is_alone p || (is_long p && steps_rest b p)) (branches_rest b ps) e in
    let v = branch-parts b x p q.0 h q.1 u.0 in
    let c : Place = place_behind b x in
    and_from (is_alone (rest p) || (is_long (rest p) && steps_rest c (rest p))) (branches_rest c (rests ps))
    (ap (λ l. is_alone (pipe_or_identity l) || (is_long (pipe_or_identity l) && steps_rest c (pipe_or_identity l))) q.2 ∙ rest-rests c q.0 v.1)
    (rests-rest b x ps h t.1 u.1)

-- and the same steps come out of them, with it before
rests-factored : (x : Step) (ps : Pipes) → Begin x ps ≡ true → factored_branches ps ≡ map (λ l. factored_step x ++ l) (factored_branches (rests ps))
rests-factored x Pipes.NoPipes k = refl
rests-factored x (Pipes.MorePipes p ps) k =
    let t = and_parts (is_some_and (step_same x) (slice_get (steps p) 0)) _ k in
    let q = begins-with x p t.0 in
    λ i. (ap factored_steps q.1 ∙ ap (λ l. factored_step x ++ l) (sym (ap (λ l. factored_steps (pipe_or_identity l)) q.2 ∙ rest-factored q.0))) i ∷ rests-factored x ps t.1 i

-- ---- what the rule makes

-- filters rest in what is made, and the same steps come out of it
abbrev Made : Place → Pipe → Pipe → Type 0
Made b p q = (steps_rest b q ≡ true) × (factored_steps q ≡ factored_steps p) × (is_long q ≡ true)

abbrev MadeStep : Place → Step → Step → Type 0
MadeStep b s s' = (step_rests b s' ≡ true) × (place_behind b s' ≡ place_behind b s) × (factored_step s' ≡ factored_step s)

abbrev MadeBranches : Place → Pipes → Pipes → Type 0
MadeBranches b ps qs = (branches_rest b qs ≡ true) × (factored_branches qs ≡ factored_branches ps)

abbrev MadeBranch : Place → Pipe → Pipe → Type 0
MadeBranch b p q = ((is_alone q || (is_long q && steps_rest b q)) ≡ true) × (factored_steps q ≡ factored_steps p)

either : (a z : Bool) → z ≡ true → (a || z) ≡ true
either true z h = refl
either false z h = h

module _ (m : Model) (c : Customs) where
  -- at its place
  factor-made : (S : Shape) (before : Bool) (b : Place) (s : Step) (p : Pipe) (ss' : List Step) → steps_rest b (Pipe.Then s p) ≡ true → factor_branches m c S before s (steps p) ≡ Some ss' → Made b (Pipe.Then s p) (pipe ss')
  factor-made S before b (Step.Concat Pipes.NoPipes) p ss' h got = none_or ss' got
  factor-made S before b (Step.Concat (Pipes.MorePipes Pipe.End ps)) p ss' h got = none_or ss' got
  factor-made S before b (Step.Concat (Pipes.MorePipes (Pipe.Then x q) ps)) p ss' h got =
      let qs = Pipes.MorePipes (Pipe.Then x q) ps in
      let t = then_some-parts (not (is_identity x) && Begin x qs) (x ∷ concat (map rest (branches qs)) ∷ steps p) ss' got in
      let u = and_parts (not (is_identity x)) (Begin x qs) t.0 in
      let plain : is_identity x ≡ false = not-back (is_identity x) u.0 in
      let v = and_parts (branches_rest b qs) (steps_rest Place.Closed p) h in
      let w = and_parts (is_alone (Pipe.Then x q) || steps_rest b (Pipe.Then x q)) (branches_rest b ps) v.0 in
      let first = branch-parts b x (Pipe.Then x q) q plain refl w.0 in
      let into : pipe ss' ≡ Pipe.Then x (Pipe.Then (Step.Concat (rests qs)) p) =
      sym (ap pipe t.1) ∙ (λ i. Pipe.Then x (Pipe.Then (Step.Concat (concat-rests qs i)) (pipe-steps p i))) in
      let out : factored_steps (Pipe.Then x (Pipe.Then (Step.Concat (rests qs)) p)) ≡ factored_steps (Pipe.Then (Step.Concat qs) p) =
      sym (append_assoc (factored_step x) (before_concat (factored_branches (rests qs))) (factored_steps p))
      ∙ ap (λ l. l ++ factored_steps p) (sym (ap before_concat (rests-factored x qs u.1) ∙ out-first (factored_step x) (factored_steps (rest (Pipe.Then x q))) (factored_branches (rests ps)))) in (
        ap (steps_rest b) into ∙ and_from (step_rests b x) (branches_rest (place_behind b x) (rests qs) && steps_rest Place.Closed p) first.0 (and_from (branches_rest (place_behind b x) (rests qs)) (steps_rest Place.Closed p) (rests-rest b x qs plain u.1 v.0) v.1),
        ap factored_steps into ∙ out,
        ap is_long into,
      )
    where
      not-back : (z : Bool) → not z ≡ true → z ≡ false
      not-back true e = cc
      not-back false e = refl
  factor-made S before b s p ss' h got = none_or ss' got

  -- a branch, from its steps
  branch-made : (p : Pipe) (b : Place) (S : Shape) → (steps_rest b p ≡ true → Each (Made b p) (pipe_results factor_branches m c S false p)) → (is_alone p || (is_long p && steps_rest b p)) ≡ true → Each (MadeBranch b p) (pipe_results factor_branches m c S false p)
  unfolding pipe_results
  branch-made Pipe.End b S f h = tt
  branch-made (Pipe.Then Step.Identity Pipe.End) b S f h = tt
  branch-made (Pipe.Then Step.Identity (Pipe.Then s p)) b S f h = cc
  branch-made (Pipe.Then s p) b S f h = each-weaker (Made b (Pipe.Then s p)) (MadeBranch b (Pipe.Then s p)) (pipe_results factor_branches m c S false (Pipe.Then s p)) (λ q k. (either (is_alone q) (is_long q && steps_rest b q) (and_from (is_long q) (steps_rest b q) k.2 k.0), k.1)) (f h)

  mutual
    unfolding pipe_results

    -- at any place
    steps-made : (p : Pipe) (b : Place) (S : Shape) (before : Bool) → steps_rest b p ≡ true → Each (Made b p) (pipe_results factor_branches m c S before p)
    steps-made Pipe.End b S before h = tt
    steps-made (Pipe.Then s p) b S before h =
        let t = and_parts (step_rests b s) (steps_rest (place_behind b s) p) h in
        let here = map pipe (option_to_list (factor_branches m c S before s (steps p))) in
        let inside = map (λ s'. Pipe.Then s' p) (step_results factor_branches m c S s) in
        let behind' = map (Pipe.Then s) (pipe_results factor_branches m c (after m c S s) true p) in
        let M = Made b (Pipe.Then s p) in
        each-append M (here ++ inside) behind'
        (each-append M here inside
        (each-place M (factor_branches m c S before s (steps p)) (λ ss' e. factor-made S before b s p ss' h e))
        (each-map M (MadeStep b s) (λ s'. Pipe.Then s' p) (λ s' k. (and_from (step_rests b s') (steps_rest (place_behind b s') p) k.0 (ap (λ z. steps_rest z p) k.1 ∙ t.1), ap (λ l. l ++ factored_steps p) k.2, refl))
        (step_results factor_branches m c S s) (step-made s b S t.0)))
        (each-map M (Made (place_behind b s) p) (Pipe.Then s) (λ q k. (and_from (step_rests b s) (steps_rest (place_behind b s) q) t.0 k.0, ap (λ l. factored_step s ++ l) k.1, refl))
        (pipe_results factor_branches m c (after m c S s) true p) (steps-made p (place_behind b s) (after m c S s) true t.1))

    step-made : (s : Step) (b : Place) (S : Shape) → step_rests b s ≡ true → Each (MadeStep b s) (step_results factor_branches m c S s)
    step-made (Step.GroupBy ks T) b S h = cc
    step-made (Step.Join outer n a T) b S h = cc
    step-made (Step.Climb up h' p T d keep) b S h = cc
    step-made (Step.Concat ps) b S h =
        each-map (MadeStep b (Step.Concat ps)) (MadeBranches b ps) Step.Concat (λ qs k. (k.0, refl, ap before_concat k.1)) (branch_results factor_branches m c S ps) (branches-made ps b S h)
    step-made s b S h = tt

    branches-made : (ps : Pipes) (b : Place) (S : Shape) → branches_rest b ps ≡ true → Each (MadeBranches b ps) (branch_results factor_branches m c S ps)
    branches-made Pipes.NoPipes b S h = tt
    branches-made (Pipes.MorePipes p ps) b S h =
        let t = and_parts (is_alone p || (is_long p && steps_rest b p)) (branches_rest b ps) h in
        let M = MadeBranches b (Pipes.MorePipes p ps) in
        each-append M (map (λ q. Pipes.MorePipes q ps) (pipe_results factor_branches m c S false p)) (map (Pipes.MorePipes p) (branch_results factor_branches m c S ps))
        (each-map M (MadeBranch b p) (λ q. Pipes.MorePipes q ps) (λ q k. (and_from (is_alone q || (is_long q && steps_rest b q)) (branches_rest b ps) k.0 t.1, ap (λ l. l ∷ factored_branches ps) k.1)) (pipe_results factor_branches m c S false p) (branch-made p b S (steps-made p b S false) t.0))
        (each-map M (MadeBranches b ps) (Pipes.MorePipes p) (λ qs k. (and_from (is_alone p || (is_long p && steps_rest b p)) (branches_rest b qs) t.0 k.0, ap (λ l. factored_steps p ∷ l) k.1)) (branch_results factor_branches m c S ps) (branches-made ps b S t.1))

-- ---- where the rule makes nothing

-- the steps of a branch that come out of it, where none come out of those inside
abbrev bare : Pipe → List Step
bare p = if is_alone p then [] else steps p

bare-whole : (b : Place) (p : Pipe) → (is_alone p || (is_long p && steps_rest b p)) ≡ true → pipe_or_identity (bare p) ≡ p
bare-whole b Pipe.End h = cc
bare-whole b (Pipe.Then Step.Identity Pipe.End) h = refl
bare-whole b (Pipe.Then Step.Identity (Pipe.Then s p)) h = cc
bare-whole b (Pipe.Then s p) h = pipe-steps (Pipe.Then s p)

bare-concat : (b : Place) (ps : Pipes) → branches_rest b ps ≡ true → pipes_from (map pipe_or_identity (map bare (branches ps))) ≡ ps
bare-concat b Pipes.NoPipes h = refl
bare-concat b (Pipes.MorePipes p ps) h =
    let t = and_parts (is_alone p || (is_long p && steps_rest b p)) (branches_rest b ps) h in
    λ i. Pipes.MorePipes (bare-whole b p t.0 i) (bare-concat b ps t.1 i)

-- a branch begins with a step where what is left of it does
bare-begins : (b : Place) (x : Step) (p : Pipe) → is_identity x ≡ false → (is_alone p || (is_long p && steps_rest b p)) ≡ true → is_some_and (step_same x) (slice_get (bare p) 0) ≡ is_some_and (step_same x) (slice_get (steps p) 0)
bare-begins b x Pipe.End h k = refl
bare-begins b x (Pipe.Then Step.Identity Pipe.End) h k = go x h
  where
    go : (x : Step) → is_identity x ≡ false → false ≡ step_same x Step.Identity
    go Step.Identity h = cc
    go x h = refl
bare-begins b x (Pipe.Then Step.Identity (Pipe.Then s p)) h k = cc
bare-begins b x (Pipe.Then s p) h k = refl

bare-all : (b : Place) (x : Step) (ps : Pipes) → is_identity x ≡ false → branches_rest b ps ≡ true → all_begin x (map bare (branches ps)) ≡ Begin x ps
bare-all b x Pipes.NoPipes h k = refl
bare-all b x (Pipes.MorePipes p ps) h k =
    let t = and_parts (is_alone p || (is_long p && steps_rest b p)) (branches_rest b ps) k in
    λ i. bare-begins b x p h t.0 i && bare-all b x ps h t.1 i

module _ (m : Model) (c : Customs) where
  -- no step comes out of branches that do not begin with one step
  concat-stays : (S : Shape) (before : Bool) (b : Place) (ps : Pipes) (ss : List Step) → branches_rest b ps ≡ true → factor_branches m c S before (Step.Concat ps) ss ≡ None → before_concat (map bare (branches ps)) ≡ Step.Concat ps ∷ []
  concat-stays S before b Pipes.NoPipes ss h none = refl
  concat-stays S before b (Pipes.MorePipes Pipe.End ps) ss h none = cc
  concat-stays S before b (Pipes.MorePipes (Pipe.Then Step.Identity Pipe.End) ps) ss h none = ap (λ qs. Step.Concat qs ∷ []) (bare-concat b (Pipes.MorePipes (Pipe.Then Step.Identity Pipe.End) ps) h)
  concat-stays S before b (Pipes.MorePipes (Pipe.Then Step.Identity (Pipe.Then s p)) ps) ss h none = cc
  concat-stays S before b (Pipes.MorePipes (Pipe.Then x q) ps) ss h none =
      let qs = Pipes.MorePipes (Pipe.Then x q) ps in
      let t = and_parts (is_alone (Pipe.Then x q) || steps_rest b (Pipe.Then x q)) (branches_rest b ps) h in
      let some = then_some-none (not (is_identity x) && Begin x qs) (x ∷ concat (map rest (branches qs)) ∷ ss) none in
      let others : Begin x ps ≡ false = sym (ap (λ z. not (is_identity x) && (z && Begin x ps)) (step-self x)) ∙ some in
      ap (λ z. if z then x ∷ taken_out (steps q) (map (drop 1) (map bare (branches ps))) else concat_of ((x ∷ steps q) ∷ map bare (branches ps)) ∷ []) (bare-all b x ps refl t.1 ∙ others)
      ∙ ap (λ rs. Step.Concat rs ∷ []) (bare-concat b qs h)

  -- a branch, from its steps
  branch-stays : (p : Pipe) (b : Place) (S : Shape) → (steps_rest b p ≡ true → pipe_results factor_branches m c S false p ≡ [] → factored_steps p ≡ steps p) → (is_alone p || (is_long p && steps_rest b p)) ≡ true → pipe_results factor_branches m c S false p ≡ [] → factored_steps p ≡ bare p
  branch-stays Pipe.End b S f h none = cc
  branch-stays (Pipe.Then Step.Identity Pipe.End) b S f h none = refl
  branch-stays (Pipe.Then Step.Identity (Pipe.Then s p)) b S f h none = cc
  branch-stays (Pipe.Then s p) b S f h none = f h none

  mutual
    unfolding pipe_results

    steps-stay : (p : Pipe) (b : Place) (S : Shape) (before : Bool) → steps_rest b p ≡ true → pipe_results factor_branches m c S before p ≡ [] → factored_steps p ≡ steps p
    steps-stay Pipe.End b S before h none = refl
    steps-stay (Pipe.Then s p) b S before h none =
        let t = and_parts (step_rests b s) (steps_rest (place_behind b s) p) h in
        let n = nothing-parts factor_branches m c S before s p none in
        λ i. step-stays s b S before (steps p) t.0 n.0 n.1 i ++ steps-stay p (place_behind b s) (after m c S s) true t.1 n.2 i

    step-stays : (s : Step) (b : Place) (S : Shape) (before : Bool) (ss : List Step) → step_rests b s ≡ true → factor_branches m c S before s ss ≡ None → step_results factor_branches m c S s ≡ [] → factored_step s ≡ s ∷ []
    step-stays Step.Identity b S before ss h none inside = cc
    step-stays (Step.Concat ps) b S before ss h none inside =
        ap before_concat (branches-stay ps b S h (map-none Step.Concat (branch_results factor_branches m c S ps) inside)) ∙ concat-stays S before b ps ss h none
    step-stays s b S before ss h none inside = refl

    branches-stay : (ps : Pipes) (b : Place) (S : Shape) → branches_rest b ps ≡ true → branch_results factor_branches m c S ps ≡ [] → factored_branches ps ≡ map bare (branches ps)
    branches-stay Pipes.NoPipes b S h none = refl
    branches-stay (Pipes.MorePipes p ps) b S h none =
        let t = and_parts (is_alone p || (is_long p && steps_rest b p)) (branches_rest b ps) h in
        let n = append-none (map (λ q. Pipes.MorePipes q ps) (pipe_results factor_branches m c S false p)) (map (Pipes.MorePipes p) (branch_results factor_branches m c S ps)) none in
        λ i. branch-stays p b S (steps-stay p b S false) t.0 (map-none (λ q. Pipes.MorePipes q ps) (pipe_results factor_branches m c S false p) n.0) i ∷ branches-stay ps b S t.1 (map-none (Pipes.MorePipes p) (branch_results factor_branches m c S ps) n.1) i

  -- a pipeline of which the rule makes nothing
  pub factored-rest : (p : Pipe) (S : Shape) → is_long p ≡ true → pipe_rests p ≡ true → pipe_results factor_branches m c S false p ≡ [] → factored p ≡ p
  factored-rest Pipe.End S long h none = cc
  factored-rest (Pipe.Then s p) S long h none = ap pipe_or_identity (steps-stay (Pipe.Then s p) Place.Free S false h none) ∙ pipe-steps (Pipe.Then s p)

  -- what the rule makes of a pipeline whose filters rest
  pub factored-made : (p : Pipe) (S : Shape) → pipe_rests p ≡ true → Each (λ q. (pipe_rests q ≡ true) × (factored q ≡ factored p)) (pipe_results factor_branches m c S false p)
  factored-made p S h = each-weaker (Made Place.Free p) (λ q. (pipe_rests q ≡ true) × (factored q ≡ factored p)) (pipe_results factor_branches m c S false p) (λ q k. (k.0, ap pipe_or_identity k.1)) (steps-made m c p Place.Free S false h)
