-- What a pipeline costs from one transformation to the next.
use Rattle.std.proofs.Common.{◌≡◌, ℕ, ◌+◌, ◌≤◌, refl, sym, ◌∙◌, ap, subst, suc, Option, List, [], ◌∷◌, length, map, Some, None, arith}
use Rattle.std.specs.Prelude.{unwrap_or}
use Rattle.edm_data.specs.Worlds.{World}
use Rattle.apply_ast.specs.Trees.{AggItem, Named, Pipe, Step}
use Rattle.context_typing.specs.Shapes.{Shape}
use Rattle.context_typing.specs.Typing.{Customs, after}
use Rattle.apply_meaning.specs.Instances.{Instance, extended}
use Rattle.apply_meaning.specs.Meaning.{step_mean}
use Rattle.apply_meaning.specs.Running.{Gives, new_columns}
use Rattle.std.specs.declared.result.Result as result
use Rattle.std.specs.Global.{Vec}
use Rattle.edm_values.specs.declared.refusals.Refused.{Refused}
use Rattle.apply_meaning.proofs.MeaningEquations.{step_mean-Aggregate, step_mean-Compute}
use Rattle.apply_meaning.proofs.RunLemmas.{Turn}
use Rattle.context_typing.specs.Readings.{readings}
use Rattle.step_run.specs.Conditions.{StepReadyFrom, StepRunsFrom}
use Rattle.step_run.specs.Contexts.{Context}
use Rattle.step_run.specs.Costs.{cost, inner_costs, result_length, step_cost}
use Rattle.step_run.proofs.CostEquations.{cost-Then, inner_costs-Aggregate, inner_costs-Compute}

-- the cost of a pipeline is that of its first transformation and that of the rest
pub turn-cost : (w : World) (c : Customs) (S S' : Shape) (P : Pipe) (s : Step) (p : Pipe) (l r : List Instance) → P ≡ Pipe.Then s p → (t : Turn w c S S' P s p l) → step_mean w c S s l ≡ Some r → cost w c S P l ≡ step_cost w c S s l + cost w c t.between p r
turn-cost w c S S' P s p l r e t m =
    ap (λ P. cost w c S P l) e ∙ cost-Then w c S s p l
    ∙ ap (λ o. step_cost w c S s l + elim o [ None ↦ 0 | Some r ↦ cost w c (after w.model c S s) p r ]) m
    ∙ ap (λ o. step_cost w c S s l + cost w c (unwrap_or o S) p r) t.first.typed

-- and no less than that of its first transformation
pub turn-least : (w : World) (c : Customs) (S : Shape) (P : Pipe) (s : Step) (p : Pipe) (l : List Instance) → P ≡ Pipe.Then s p → step_cost w c S s l ≤ cost w c S P l
turn-least w c S P s p l e =
    let whole : cost w c S P l ≡ step_cost w c S s l + elim (step_mean w c S s l) [ None ↦ 0 | Some r ↦ cost w c (after w.model c S s) p r ] = ap (λ P. cost w c S P l) e ∙ cost-Then w c S s p l in
    omega (arith, whole)

made-length : (f : Instance → Instance) (l : List Instance) → length (map f l) ≡ length l
made-length f [] = refl
made-length f (x ∷ l) = ap suc (made-length f l)

-- a computation costs one step a row
pub compute-cost : (w : World) (c : Customs) (S : Shape) (ns : List Named) (l : List Instance) → step_cost w c S (Step.Compute ns) l ≡ length l
compute-cost w c S ns l =
    ap (λ o. result_length o + inner_costs w c S (Step.Compute ns) l) (step_mean-Compute w c S ns l)
    ∙ ap (λ n. length (map (λ i. extended i (new_columns w ns i)) l) + n) (inner_costs-Compute w c S ns l)
    ∙ (let e : length (map (λ i. extended i (new_columns w ns i)) l) ≡ length l = made-length (λ i. extended i (new_columns w ns i)) l in omega (arith, e))

-- an aggregation costs one step
pub aggregate-cost : (w : World) (c : Customs) (S : Shape) (items : List AggItem) (l : List Instance) → step_cost w c S (Step.Aggregate items) l ≡ 1
aggregate-cost w c S items l =
    ap (λ o. result_length o + inner_costs w c S (Step.Aggregate items) l) (step_mean-Aggregate w c S items l)
    ∙ ap (λ n. 1 + n) (inner_costs-Aggregate w c S items l)

-- ---- another name of the same transformation and the same list

pub runs-same : (x : Context) (root : Option ℕ) (S S' : Shape) (s s' : Step) (l l' : List Instance) → s ≡ s' → l ≡ l' → StepRunsFrom x root S S' s l → StepRunsFrom x root S S' s' l'
runs-same x root S S' s s' l l' e h R = subst (StepRunsFrom x root S S' s') h (subst (λ s. StepRunsFrom x root S S' s l) e R)

pub ready-same : (x : Context) (root : Option ℕ) (s s' : Step) (l l' : List Instance) → s ≡ s' → l ≡ l' → StepReadyFrom x root s l → StepReadyFrom x root s' l'
ready-same x root s s' l l' e h r = (r.0, r.1, runs-same x root r.0 r.1 s s' l l' e h r.2)

step-same : (x : Context) (S : Shape) (s s' : Step) (l l' : List Instance) → s ≡ s' → l ≡ l' → step_mean x.world (readings x.customs) S s l ≡ step_mean x.world (readings x.customs) S s' l'
step-same x S s s' l l' e h = λ i. step_mean x.world (readings x.customs) S (e i) (h i)

pub cost-same : (x : Context) (S : Shape) (s s' : Step) (l l' : List Instance) → s ≡ s' → l ≡ l' → step_cost x.world (readings x.customs) S s l ≡ step_cost x.world (readings x.customs) S s' l'
cost-same x S s s' l l' e h = λ i. step_cost x.world (readings x.customs) S (e i) (h i)

-- what a run of it gives
pub gives-same : {x : Context} {root : Option ℕ} {S S' : Shape} {s s' : Step} {l l' : List Instance} (r : result.Result (Vec Instance) Refused) → s ≡ s' → l ≡ l' → StepRunsFrom x root S S' s l
    → (StepRunsFrom x root S S' s' l' → Gives r (step_mean x.world (readings x.customs) S s' l')) → Gives r (step_mean x.world (readings x.customs) S s l)
gives-same {x = x} {root = root} {S = S} {S' = S'} {s = s} {s' = s'} {l = l} {l' = l'} r e h R given = subst (Gives r) (sym (step-same x S s s' l l' e h)) (given (runs-same x root S S' s s' l l' e h R))
