-- Climbs and traversals that are typed.
use Rattle.std.proofs.Common.{◌≡◌, ℕ, ◌+◌, ◌≤◌, refl, sym, ◌∙◌, ap, subst, Bool, true, IsTrue, List, ◌++◌, length, map, Option, Some, None, arith}
use Rattle.std.specs.Prelude.{is_some, option_and_then, ◌&&◌}
use Rattle.std.proofs.lemmas.Bool.{and_parts}
use Rattle.edm_values.proofs.OptionFacts.{some_and, then_some-parts}
use Rattle.edm_values.specs.Lists.{is_some_and}
use Rattle.edm_values.specs.Literals.{same_kind}
use Rattle.edm_values.specs.Names.{Path}
use Rattle.edm_model.specs.LookUps.{HierarchyPlace}
use Rattle.edm_model.specs.Models.{Model}
use Rattle.apply_ast.proofs.ViewEquations.{climb_of-is}
use Rattle.apply_ast.specs.Trees.{HierName, Pipe, Step, TraverseStep, is_distance, is_long}
use Rattle.apply_ast.specs.Views.{climb_of, hier_of, pipe_of}
use Rattle.apply_ast.specs.declared.steps.ClimbStep as of_climb
use Rattle.context_typing.proofs.TypingEquations.{step_shape-Climb, step_shape-Traverse}
use Rattle.context_typing.specs.Readings.{readings}
use Rattle.context_typing.specs.Shapes.{Shape, set_shape}
use Rattle.context_typing.specs.Typing.{hierarchy_at, is_node_path, is_typed, path_kind, steps_shape}
use Rattle.apply_meaning.proofs.MeaningEquations.{step_mean-Climb, step_mean-Traverse}
use Rattle.apply_meaning.proofs.MeaningProved.{loaded-mean_fits}
use Rattle.apply_meaning.proofs.RunLemmas.{all-fit-of}
use Rattle.apply_meaning.specs.Instances.{Instance, lookup}
use Rattle.apply_meaning.specs.Meaning.{climbed, mean, refused_at_beyond, step_mean}
use Rattle.apply_meaning.specs.MeaningLaws.{IsLoaded}
use Rattle.apply_meaning.specs.Running.{all_of}
use Rattle.std.specs.List.{list_all}
use Rattle.step_run.proofs.CostEquations.{inner_costs-Climb, inner_costs-Traverse}
use Rattle.step_run.specs.Conditions.{RunsFrom, StepRunsFrom}
use Rattle.step_run.specs.Contexts.{Context}
use Rattle.step_run.specs.Costs.{cost, result_length, step_cost, walk_cost}
use Rattle.step_run.specs.Hierarchies.{climb_from, traversal}

-- the hierarchy of a path to its nodes is in the model
there : (m : Model) (S : Shape) (h : HierName) (p : Path) → is_node_path m S h p ≡ true → is_some (hierarchy_at m h) ≡ true
there m S h p e = ap is_some (some_and (λ f. is_some_and (same_kind f.key.kind) (path_kind m S p)) (hierarchy_at m h) e).1

-- what a climb needs, means and costs: its hierarchy is in the model, and its pipeline runs on the same list
pub record ClimbRun (x : Context) (root : Option ℕ) (S : Shape) (up : Bool) (h : HierName) (p : Path) (T : Pipe) (d : Option ℕ) (keep : Bool) (l : List Instance) : Type 0 where
  pub hierarchy : is_some (hierarchy_at x.world.model h) ≡ true
  pub shape : Shape
  pub runs : RunsFrom x root S shape T l
  pub starts : (r : List Instance) → IsLoaded x.world → mean x.world (readings x.customs) S T l ≡ Some r → IsTrue (all_of x.world r)
  pub means : (r : List Instance) → mean x.world (readings x.customs) S T l ≡ Some r → step_mean x.world (readings x.customs) S (Step.Climb up h p T d keep) l ≡ climb_from x.world up h p d keep l r
  pub refused : mean x.world (readings x.customs) S T l ≡ None → step_mean x.world (readings x.customs) S (Step.Climb up h p T d keep) l ≡ None
  pub costs : length l + cost x.world (readings x.customs) S T l ≤ step_cost x.world (readings x.customs) S (Step.Climb up h p T d keep) l

pub climb-run : {x : Context} {root : Option ℕ} {S S' : Shape} {up : Bool} {h : HierName} {p : Path} {T : Pipe} {d : Option ℕ} {keep : Bool} {l : List Instance} → StepRunsFrom x root S S' (Step.Climb up h p T d keep) l
    → ClimbRun x root S up h p T d keep l
climb-run {x = x} {root = root} {S = S} {S' = S'} {up = up} {h = h} {p = p} {T = T} {d = d} {keep = keep} {l = l} R =
    let w = x.world in
    let m = w.model in
    let c = readings x.customs in
    let t = then_some-parts (is_node_path m S h p && is_distance d && is_long T && is_some_and (λ R. is_node_path m R h p) (steps_shape m c S T)) S S' (sym (step_shape-Climb m c S up h p T d keep) ∙ R.runs.typed) in
    let a = and_parts (is_node_path m S h p && is_distance d && is_long T) (is_some_and (λ R. is_node_path m R h p) (steps_shape m c S T)) t.0 in
    let b = and_parts (is_node_path m S h p && is_distance d) (is_long T) a.0 in
    let e = and_parts (is_node_path m S h p) (is_distance d) b.0 in
    let N = some_and (λ R. is_node_path m R h p) (steps_shape m c S T) a.1 in
    let inner = inner_costs-Climb w c S up h p T d keep l in
    record {
      hierarchy = there m S h p e.0;
      shape = N.0;
      runs = record { runs = record { customs = R.runs.customs; lawful = R.runs.lawful; typed = N.1; fit = R.runs.fit }; root_is = R.root_is };
      starts = λ r L made. all-fit-of w N.0 r (loaded-mean_fits w c S N.0 T l r L R.runs.customs R.runs.lawful (b.1, N.1) R.runs.fit made);
      means = λ r made. step_mean-Climb w c S up h p T d keep l ∙ from (hierarchy_at m h) r (mean w c S T l) made;
      refused = λ none. step_mean-Climb w c S up h p T d keep l ∙ not-from (hierarchy_at m h) (mean w c S T l) none;
      costs = omega (arith, inner);
    }
  where
    out : Option HierarchyPlace → Option (List Instance) → Option (List Instance)
    out o q = elim o [ None ↦ None | Some f ↦ option_and_then (λ r. refused_at_beyond (map (λ i. lookup x.world i p) (l ++ r)) (climbed x.world up f p d keep r l)) q ]

    from : (o : Option HierarchyPlace) (r : List Instance) (q : Option (List Instance)) → q ≡ Some r
        → out o q ≡ elim o [ None ↦ None | Some f ↦ refused_at_beyond (map (λ i. lookup x.world i p) (l ++ r)) (climbed x.world up f p d keep r l) ]
    from None r q e = refl
    from (Some f) r q e = ap (out (Some f)) e

    not-from : (o : Option HierarchyPlace) (q : Option (List Instance)) → q ≡ None → out o q ≡ None
    not-from None q e = refl
    not-from (Some f) q e = ap (out (Some f)) e

-- the same of a climb in the program
pub climb-of : {x : Context} {root : Option ℕ} {S S' : Shape} {l : List Instance} (c : of_climb.ClimbStep) → StepRunsFrom x root S S' (climb_of c) l → ClimbRun x root S c.up (hier_of c.hier) c.path (pipe_of c.inner) c.distance c.keep l
climb-of {x = x} {root = root} {S = S} {S' = S'} {l = l} c R = climb-run (subst (λ s. StepRunsFrom x root S S' s l) (climb_of-is c) R)

pub climb-means : (x : Context) (S : Shape) (c : of_climb.ClimbStep) (l : List Instance)
    → step_mean x.world (readings x.customs) S (climb_of c) l ≡ step_mean x.world (readings x.customs) S (Step.Climb c.up (hier_of c.hier) c.path (pipe_of c.inner) c.distance c.keep) l
climb-means x S c l = ap (λ s. step_mean x.world (readings x.customs) S s l) (climb_of-is c)

pub climb-costs : (x : Context) (S : Shape) (c : of_climb.ClimbStep) (l : List Instance)
    → step_cost x.world (readings x.customs) S (climb_of c) l ≡ step_cost x.world (readings x.customs) S (Step.Climb c.up (hier_of c.hier) c.path (pipe_of c.inner) c.distance c.keep) l
climb-costs x S c l = ap (λ s. step_cost x.world (readings x.customs) S s l) (climb_of-is c)

-- the same of a traversal
pub record TraverseRun (x : Context) (S : Shape) (t : TraverseStep) (l : List Instance) : Type 0 where
  pub hierarchy : is_some (hierarchy_at x.world.model t.hier) ≡ true
  pub rows : IsTrue (all_of x.world l)
  pub means : step_mean x.world (readings x.customs) S (Step.Traverse t) l ≡ traversal x.world t l
  pub costs : step_cost x.world (readings x.customs) S (Step.Traverse t) l ≡ result_length (traversal x.world t l) + walk_cost x.world t

pub traverse-run : {x : Context} {root : Option ℕ} {S S' : Shape} {t : TraverseStep} {l : List Instance} → StepRunsFrom x root S S' (Step.Traverse t) l → TraverseRun x S t l
traverse-run {x = x} {root = root} {S = S} {S' = S'} {t = t} {l = l} R =
    let w = x.world in
    let m = w.model in
    let c = readings x.customs in
    let typed = then_some-parts (is_node_path m S t.hier t.path && is_some_and (λ f. list_all (λ y. is_typed m (set_shape f.type) y.expr) t.items) (hierarchy_at m t.hier)) S S' (sym (step_shape-Traverse m c S t) ∙ R.runs.typed) in
    let a = and_parts (is_node_path m S t.hier t.path) _ typed.0 in
    record {
      hierarchy = there m S t.hier t.path a.0;
      rows = all-fit-of w S l R.runs.fit;
      means = step_mean-Traverse w c S t l;
      costs = λ i. result_length (step_mean-Traverse w c S t l i) + inner_costs-Traverse w c S t l i;
    }
