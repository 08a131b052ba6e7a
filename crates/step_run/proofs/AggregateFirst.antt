-- A pipeline that begins with an aggregation.
use Rattle.std.proofs.Common.{◌≡◌, ℕ, ◌+◌, ◌-◌, ◌<◌, ◌≤◌, ◌∙◌, ap, sym, Option, List, Some, length, map, drop, get_or, arith}
use Rattle.std.specs.Prelude.{option_and_then, take}
use Rattle.std.proofs.Math.Seq.{take-length}
use Rattle.std.proofs.lemmas.List.{length-drop}
use Rattle.apply_ast.specs.Trees.{AggItem, Pipe, Step, pipe}
use Rattle.apply_ast.specs.Views.{step_of}
use Rattle.apply_ast.specs.declared.steps.Step as code
use Rattle.context_typing.specs.Readings.{readings}
use Rattle.context_typing.specs.Shapes.{Shape}
use Rattle.apply_meaning.proofs.RunLemmas.{next-step, turn}
use Rattle.apply_meaning.specs.Instances.{Instance}
use Rattle.apply_meaning.specs.Meaning.{mean, step_mean}
use Rattle.apply_meaning.specs.MeaningLaws.{IsLoaded}
use Rattle.step_run.proofs.RunLemmas.{aggregate-cost, turn-cost, turn-least}
use Rattle.step_run.specs.Conditions.{RunsFrom, StepRunsFrom}
use Rattle.step_run.specs.Contexts.{Context}
use Rattle.step_run.specs.Costs.{cost}
use Rattle.step_run.specs.Roots.{LeadsTo}

-- all that stands behind the first element
pub behind-first : {A : Type 0} (l : List A) → take (length l - 1) (drop 1 l) ≡ drop 1 l
behind-first l = ap (λ n. take n (drop 1 l)) (sym (length-drop 1 l)) ∙ take-length (drop 1 l)

-- the tree of a pipeline whose first transformation is an aggregation
pub begun-by : (P : Pipe) (ss : List code.Step) (d : code.Step) (items : List AggItem) → P ≡ pipe (map step_of ss) → 0 < length ss → d ≡ get_or ss 0 d → step_of d ≡ Step.Aggregate items
    → P ≡ Pipe.Then (Step.Aggregate items) (pipe (map step_of (take (length ss - 1) (drop 1 ss))))
begun-by P ss d items tree some first is =
    tree ∙ next-step ss 0 d some first
    ∙ ap (λ s. Pipe.Then s (pipe (map step_of (drop 1 ss)))) is
    ∙ ap (λ l. Pipe.Then (Step.Aggregate items) (pipe (map step_of l))) (sym (behind-first ss))

-- its run, by the rows that the aggregation makes
pub record Begun (x : Context) (root : Option ℕ) (S S' : Shape) (P : Pipe) (items : List AggItem) (rest : Pipe) (l : List Instance) : Type 0 where
  pub between : Shape
  pub first : StepRunsFrom x root S between (Step.Aggregate items) l
  pub next : (made : List Instance) (behind : Option ℕ) → IsLoaded x.world → step_mean x.world (readings x.customs) S (Step.Aggregate items) l ≡ Some made → LeadsTo (Step.Aggregate items) root behind → RunsFrom x behind between S' rest made
  pub means : (made : List Instance) → step_mean x.world (readings x.customs) S (Step.Aggregate items) l ≡ Some made → mean x.world (readings x.customs) S P l ≡ mean x.world (readings x.customs) between rest made
  pub costs : (made : List Instance) → step_mean x.world (readings x.customs) S (Step.Aggregate items) l ≡ Some made → cost x.world (readings x.customs) S P l ≡ 1 + cost x.world (readings x.customs) between rest made
  pub least : 1 ≤ cost x.world (readings x.customs) S P l

pub begun : {x : Context} {root : Option ℕ} {S S' : Shape} {P : Pipe} {items : List AggItem} {rest : Pipe} {l : List Instance} → P ≡ Pipe.Then (Step.Aggregate items) rest → RunsFrom x root S S' P l → Begun x root S S' P items rest l
begun {x = x} {root = root} {S = S} {S' = S'} {P = P} {items = items} {rest = rest} {l = l} e R =
    let w = x.world in
    let c = readings x.customs in
    let s = Step.Aggregate items in
    let u = turn w c S S' P s rest l e R.runs in
    let once = aggregate-cost w c S items l in
    let least = turn-least w c S P s rest l e in
    record {
      between = u.between;
      first = record { runs = u.first; root_is = R.root_is };
      next = λ made behind loaded m leads. record { runs = u.next made loaded m; root_is = leads w.model c S u.between u.first.typed R.root_is };
      means = λ made m. u.meaning ∙ ap (option_and_then (mean w c u.between rest)) m;
      costs = λ made m. turn-cost w c S S' P s rest l made e u m ∙ ap (λ n. n + cost w c u.between rest made) once;
      least = omega (arith, once, least);
    }
