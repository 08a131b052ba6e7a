-- Concatenations: what the branches mean and cost, and that each runs.
use Rattle.std.proofs.Common.{◌≡◌, ◌≤◌, ◌<◌, ◌+◌, ◌∙◌, sym, ap, subst, ℕ, zero, suc, Option, List, [], ◌∷◌, length, drop, get_or, map, Some, None, arith}
use Rattle.std.specs.Prelude.{option_map, slice_get, sum, if◌then◌else◌}
use Rattle.std.proofs.lemmas.Option.{get_or_from_slice_get, slice_get-map, slice_get_within}
use Rattle.edm_values.proofs.OptionFacts.{all_some-parts, chained, if_else-parts, none_or, some_value}
use Rattle.edm_values.specs.Lists.{all_some}
use Rattle.edm_model.specs.Models.{Model}
use Rattle.edm_data.specs.Worlds.{World}
use Rattle.apply_ast.specs.Trees.{Pipe, Pipes, Step, is_long}
use Rattle.apply_ast.specs.Views.{pipe_of, pipes_from, pipes_in, pipes_of}
use Rattle.apply_ast.specs.declared.steps.Pipe as of_pipe
use Rattle.apply_ast.specs.declared.steps.PipeList as of_pipes
use Rattle.apply_ast.proofs.ViewEquations.{pipes_of-is}
use Rattle.context_typing.proofs.TypingEquations.{branch_shapes-MorePipes, step_shape-Concat}
use Rattle.context_typing.specs.Readings.{readings}
use Rattle.context_typing.specs.Shapes.{Shape}
use Rattle.context_typing.specs.Typing.{Customs, branch_shapes, concat_shape, steps_shape}
use Rattle.apply_meaning.proofs.MeaningEquations.{branch_means-MorePipes, branch_means-NoPipes, step_mean-Concat}
use Rattle.apply_meaning.specs.Instances.{Instance}
use Rattle.apply_meaning.specs.Meaning.{branch_means, joined, mean, step_mean}
use Rattle.step_run.proofs.CostEquations.{branch_costs-MorePipes, branch_costs-NoPipes, inner_costs-Concat}
use Rattle.step_run.proofs.GroupLemmas.{next-sum, sum-cons}
use Rattle.pipe_run.specs.SeveralRuns.{BranchesRun}
use Rattle.step_run.specs.Conditions.{RunsFrom, StepRunsFrom}
use Rattle.step_run.specs.Contexts.{Context}
use Rattle.step_run.specs.Costs.{application, branch_costs, cost, step_cost}
use Rattle.step_run.proofs.RunLevels.{slice-at}

-- ---- the meaning

means-each : (w : World) (c : Customs) (S : Shape) (ps : List Pipe) (l : List Instance) → branch_means w c S (pipes_from ps) l ≡ map (λ p. mean w c S p l) ps
means-each w c S [] l = branch_means-NoPipes w c S l
means-each w c S (p ∷ ps) l = branch_means-MorePipes w c S p (pipes_from ps) l ∙ ap (λ os. mean w c S p l ∷ os) (means-each w c S ps l)

-- a concatenation is what its branches make of the same list, one after the other
concat-mean : (w : World) (c : Customs) (S : Shape) (ps : List Pipe) (l : List Instance) → step_mean w c S (Step.Concat (pipes_from ps)) l ≡ joined (map (λ p. mean w c S p l) ps)
concat-mean w c S ps l = step_mean-Concat w c S (pipes_from ps) l ∙ ap joined (means-each w c S ps l)

-- ---- the cost

-- what the application of a branch to a list counts
abbrev pub branch_charge : World → Customs → Shape → List Instance → Pipe → ℕ
branch_charge w c S l p = application (cost w c S p) (mean w c S p) l

costs-each : (w : World) (c : Customs) (S : Shape) (ps : List Pipe) (l : List Instance) → branch_costs w c S (pipes_from ps) l ≡ sum (map (branch_charge w c S l) ps)
costs-each w c S [] l = branch_costs-NoPipes w c S l
costs-each w c S (p ∷ ps) l =
    branch_costs-MorePipes w c S p (pipes_from ps) l
    ∙ ap (λ n. branch_charge w c S l p + n) (costs-each w c S ps l)
    ∙ sym (sum-cons (branch_charge w c S l p) (map (branch_charge w c S l) ps))

-- a concatenation costs no less than the applications of its branches
concat-least : (w : World) (c : Customs) (S : Shape) (ps : List Pipe) (l : List Instance) → sum (map (branch_charge w c S l) ps) ≤ step_cost w c S (Step.Concat (pipes_from ps)) l
concat-least w c S ps l =
    let inner = inner_costs-Concat w c S (pipes_from ps) l ∙ costs-each w c S ps l in
    omega (arith, inner)

-- ---- branches of the program

-- the one at a place
pub branch-at : (bs : List of_pipe.Pipe) (k : ℕ) (d : of_pipe.Pipe) → k < length bs → d ≡ get_or bs k d → slice_get (map pipe_of bs) k ≡ Some (pipe_of d)
branch-at bs k d h e = slice_get-map pipe_of bs k ∙ ap (option_map pipe_of) (slice-at bs k d h e)

-- ---- what is typed as a concatenation

branch-typed : (m : Model) (c : Customs) (S : Shape) (ps : List Pipe) (Ss : List Shape) → all_some (branch_shapes m c S (pipes_from ps)) ≡ Some Ss → (n : ℕ) (p : Pipe) → slice_get ps n ≡ Some p
    → (G : Shape) × (steps_shape m c S p ≡ Some G)
branch-typed m c S [] Ss e n p h = none_or p h
branch-typed m c S (q ∷ ps) Ss e zero p h =
    let x = all_some-parts (if is_long q then steps_shape m c S q else None) (branch_shapes m c S (pipes_from ps)) Ss (ap all_some (sym (branch_shapes-MorePipes m c S q (pipes_from ps))) ∙ e) in
    (x.0, ap (steps_shape m c S) (sym (some_value h)) ∙ (if_else-parts (is_long q) (steps_shape m c S q) x.0 x.1).1)
branch-typed m c S (q ∷ ps) Ss e (suc n) p h =
    let x = all_some-parts (if is_long q then steps_shape m c S q else None) (branch_shapes m c S (pipes_from ps)) Ss (ap all_some (sym (branch_shapes-MorePipes m c S q (pipes_from ps))) ∙ e) in
    branch-typed m c S ps x.2 x.3 n p h

-- each of its branches runs
pub branches-run : (x : Context) (root : Option ℕ) (S S' : Shape) (ps : List Pipe) (l : List Instance) → StepRunsFrom x root S S' (Step.Concat (pipes_from ps)) l → BranchesRun x root S ps l
branches-run x root S S' ps l R = λ n p h.
    let m = x.world.model in
    let c = readings x.customs in
    let Ss = chained (concat_shape m) (all_some (branch_shapes m c S (pipes_from ps))) S' (sym (step_shape-Concat m c S (pipes_from ps)) ∙ R.runs.typed) in
    let t = branch-typed m c S ps Ss.0 Ss.1 n p h in
    (t.0, record { runs = record { customs = R.runs.customs; lawful = R.runs.lawful; typed = t.1; fit = R.runs.fit }; root_is = R.root_is })

-- what a concatenation in the program means and costs
pub record ConcatRun (x : Context) (root : Option ℕ) (S : Shape) (branches : Pipes) (bs : List of_pipe.Pipe) (l : List Instance) : Type 0 where
  pub runs : BranchesRun x root S (map pipe_of bs) l
  pub means : step_mean x.world (readings x.customs) S (Step.Concat branches) l ≡ joined (map (λ p. mean x.world (readings x.customs) S p l) (map pipe_of bs))
  pub costs : sum (map (branch_charge x.world (readings x.customs) S l) (map pipe_of bs)) ≤ step_cost x.world (readings x.customs) S (Step.Concat branches) l

pub concat-run : {x : Context} {root : Option ℕ} {S S' : Shape} {l : List Instance} (branches : of_pipes.PipeList) (bs : List of_pipe.Pipe) → bs ≡ pipes_in branches → StepRunsFrom x root S S' (Step.Concat (pipes_of branches)) l
    → ConcatRun x root S (pipes_of branches) bs l
concat-run {x = x} {root = root} {S = S} {S' = S'} {l = l} branches bs e R =
    let w = x.world in
    let c = readings x.customs in
    let ps = map pipe_of bs in
    let own : pipes_of branches ≡ pipes_from ps = pipes_of-is branches ∙ ap (λ bs. pipes_from (map pipe_of bs)) (sym e) in
    let least = concat-least w c S ps l in
    let whole = ap (λ ps. step_cost w c S (Step.Concat ps) l) own in
    record {
      runs = branches-run x root S S' ps l (subst (λ ps. StepRunsFrom x root S S' (Step.Concat ps) l) own R);
      means = ap (λ ps. step_mean w c S (Step.Concat ps) l) own ∙ concat-mean w c S ps l;
      costs = omega (arith, least, whole);
    }

-- the next branch runs on copies of the rows
pub record BranchTurn (x : Context) (root : Option ℕ) (S : Shape) (ps : List Pipe) (l copies : List Instance) (k : ℕ) (p : Pipe) : Type 0 where
  pub shape : Shape
  pub runs : RunsFrom x root S shape p copies
  pub within : k < length ps
  pub here : p ≡ get_or ps k p
  pub means : mean x.world (readings x.customs) S p l ≡ mean x.world (readings x.customs) S p copies
  pub costs : length l + cost x.world (readings x.customs) S p copies + sum (map (branch_charge x.world (readings x.customs) S l) (drop (k + 1) ps)) ≤ sum (map (branch_charge x.world (readings x.customs) S l) (drop k ps))

pub branch-turn : (x : Context) (root : Option ℕ) (S : Shape) (bs : List of_pipe.Pipe) (l copies : List Instance) (k : ℕ) (d : of_pipe.Pipe) → BranchesRun x root S (map pipe_of bs) l → k < length bs → d ≡ get_or bs k d → copies ≡ l
    → BranchTurn x root S (map pipe_of bs) l copies k (pipe_of d)
branch-turn x root S bs l copies k d R h e same =
    let w = x.world in
    let c = readings x.customs in
    let ps = map pipe_of bs in
    let p = pipe_of d in
    let at = branch-at bs k d h e in
    let own = R k p at in
    let within = slice_get_within ps k p at in
    let here = sym (get_or_from_slice_get ps k p p at) in
    let next = next-sum (branch_charge w c S l) ps k p within here in
    let cost_is = ap (cost w c S p) same in
    record {
      shape = own.0;
      runs = subst (RunsFrom x root S own.0 p) (sym same) own.1;
      within = within;
      here = here;
      means = ap (mean w c S p) (sym same);
      costs = omega (arith, next, cost_is);
    }
