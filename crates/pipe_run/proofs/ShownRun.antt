-- The nodes that a recursive rollup shows, by a pipeline from all nodes on.
use Rattle.std.proofs.Common.{◌≡◌, ℕ, ◌+◌, ◌≤◌, sym, ◌∙◌, ap, subst, List, [], ◌∷◌, length, Err, Some, arith}
use Rattle.std.specs.Prelude.{option_map, unwrap_or}
use Rattle.edm_values.specs.declared.refusals.Refused.{Refused}
use Rattle.edm_values.specs.declared.refusals.Refused.TheVariants.{Range, Memory}
use Rattle.edm_values.proofs.OptionFacts.{if_else-parts}
use Rattle.edm_model.specs.LookUps.{HierarchyPlace, set_type}
use Rattle.edm_model.specs.Models.{Model}
use Rattle.edm_data.specs.References.{count}
use Rattle.apply_ast.specs.Trees.{HierName, OptPipe, Pipe, is_long}
use Rattle.context_typing.specs.Readings.{readings}
use Rattle.context_typing.specs.Shapes.{Shape, set_shape}
use Rattle.context_typing.proofs.TypingEquations.{inner_shape-SomePipe}
use Rattle.context_typing.specs.Typing.{hierarchy_at, steps_shape}
use Rattle.apply_meaning.proofs.MeaningEquations.{inner_mean-SomePipe}
use Rattle.apply_meaning.proofs.MeaningProved.{loaded-mean_fits}
use Rattle.apply_meaning.proofs.NodeLemmas.{named-parts}
use Rattle.apply_meaning.proofs.SetLemmas.{rows-length as rows-count}
use Rattle.apply_meaning.specs.Instances.{Instance, rows}
use Rattle.apply_meaning.specs.Meaning.{Outcome, inner_mean, mean, shown_of}
use Rattle.apply_meaning.specs.Running.{Gives}
use Rattle.row_orders.specs.Ranks.{GivesNumbers}
use Rattle.apply_meaning.specs.MeaningLaws.{IsLoaded}
use Rattle.hier_rows.proofs.ShownLaws.{roots-below}
use Rattle.hier_rows.specs.HierRows.{AreRootsBelow}
use Rattle.step_run.proofs.CostEquations.{given_applications-SomePipe}
use Rattle.step_run.specs.Conditions.{RunsFrom, ShownRuns}
use Rattle.step_run.specs.Contexts.{Context}
use Rattle.step_run.specs.Costs.{cost, given_applications}

-- the type of the set of a hierarchy's nodes
pub type-of : (m : Model) (h : HierName) (f : HierarchyPlace) (s : ℕ) → hierarchy_at m h ≡ Some f → s ≡ f.set → set_type m s ≡ f.type
type-of m h f s at same = ap (set_type m) same ∙ ap (λ o. unwrap_or o 0) (named-parts m h f at).0

-- the pipeline runs on the instances of all nodes, and what it gives stands at nodes
pub record ShownRun (x : Context) (f : HierarchyPlace) (T : Pipe) (s t : ℕ) (l : List Instance) : Type 0 where
  pub shape : Shape
  pub runs : RunsFrom x (Some t) (set_shape f.type) shape T l
  pub means : inner_mean x.world (readings x.customs) (set_shape f.type) (λ l. Some l) (OptPipe.SomePipe T) (rows x.world f.set) ≡ mean x.world (readings x.customs) (set_shape f.type) T l
  pub costs : count x.world s + cost x.world (readings x.customs) (set_shape f.type) T l ≤ given_applications x.world (readings x.customs) (set_shape f.type) (OptPipe.SomePipe T) (rows x.world f.set ∷ [])

pub shown-run : {x : Context} {f : HierarchyPlace} {N : Shape} {T : Pipe} {s t : ℕ} {l : List Instance} (h : HierName) → ShownRuns x f N (OptPipe.SomePipe T) → hierarchy_at x.world.model h ≡ Some f → s ≡ f.set → t ≡ set_type x.world.model s → l ≡ rows x.world s → ShownRun x f T s t l
shown-run {x = x} {f = f} {N = N} {T = T} {s = s} {t = t} {l = l} h R at same type made =
    let w = x.world in
    let c = readings x.customs in
    let own : l ≡ rows w f.set = made ∙ ap (rows w) same in
    let whole = given_applications-SomePipe w c (set_shape f.type) T (rows w f.set ∷ []) in
    let long : length (rows w f.set) ≡ count w s = rows-count w f.set ∙ ap (count w) (sym same) in
    let costs = ap (cost w c (set_shape f.type) T) own in
    record {
      shape = N;
      runs = subst (RunsFrom x (Some t) (set_shape f.type) N T) (sym own) (subst (λ t. RunsFrom x (Some t) (set_shape f.type) N T (rows w f.set)) (sym (type ∙ type-of w.model h f s at same)) R.inner);
      means = inner_mean-SomePipe w c (set_shape f.type) (λ l. Some l) T (rows w f.set) ∙ ap (mean w c (set_shape f.type) T) (sym own);
      costs = omega (arith, whole, long, costs);
    }

-- the instances that it gives stand at entities of the set
pub shown-below : (x : Context) (h : HierName) (f : HierarchyPlace) (N : Shape) (T : Pipe) (s : ℕ) (r : List Instance) → IsLoaded x.world → hierarchy_at x.world.model h ≡ Some f → s ≡ f.set → ShownRuns x f N (OptPipe.SomePipe T)
    → mean x.world (readings x.customs) (set_shape f.type) T (rows x.world f.set) ≡ Some r → AreRootsBelow (count x.world s) r
shown-below x h f N T s r L at same R made =
    let w = x.world in
    let c = readings x.customs in
    let runs = R.inner.runs in
    let long = if_else-parts (is_long T) (steps_shape w.model c (set_shape f.type) T) N (sym (inner_shape-SomePipe w.model c (set_shape f.type) (set_shape f.type) T) ∙ R.typed) in
    subst (λ n. AreRootsBelow n r) (ap (count w) (sym same)) (roots-below w N h f r L at R.nodes (loaded-mean_fits w c (set_shape f.type) N T (rows w f.set) r L runs.customs runs.lawful (long.0, long.1) runs.fit made))

-- the rows of all nodes are counted
pub shown-rows : (x : Context) (f : HierarchyPlace) (T : Pipe) (s : ℕ) → s ≡ f.set → count x.world s ≤ given_applications x.world (readings x.customs) (set_shape f.type) (OptPipe.SomePipe T) (rows x.world f.set ∷ [])
shown-rows x f T s same =
    let w = x.world in
    let whole = given_applications-SomePipe w (readings x.customs) (set_shape f.type) T (rows w f.set ∷ []) in
    let long : length (rows w f.set) ≡ count w s = rows-count w f.set ∙ ap (count w) (sym same) in
    omega (arith, whole, long)

-- nodes that are refused
pub shown-err : (e : Refused) (m m' : Outcome) → m ≡ m' → Gives (Err e) m' → GivesNumbers (Err e) (option_map shown_of m)
shown-err Range m m' same none = ap (option_map shown_of) (same ∙ none)
shown-err Memory m m' same h = tt
