-- Joins: what an inner pipeline makes of related instances, what that costs, and that it runs.
use Rattle.std.proofs.Common.{◌≡◌, ◌≤◌, ◌+◌, ◌∙◌, refl, sym, ap, subst, ℕ, Bool, true, ◌<◌, IsTrue, List, [], Option, Some, None, length, drop, get_or, map, arith}
use Rattle.std.specs.Prelude.{option_and_then, option_map, sum, if◌then◌else◌}
use Rattle.std.proofs.lemmas.List.Sums.{sum-map, sum_by-le-sum_by}
use Rattle.std.proofs.lemmas.List.{length-map}
use Rattle.std.proofs.lemmas.Simd.{map-map}
use Rattle.std.specs.Global.{Vec}
use Rattle.edm_values.proofs.OptionFacts.{if_else-parts, some_value}
use Rattle.edm_values.specs.Lists.{all_some}
use Rattle.edm_values.specs.Names.{Name}
use Rattle.edm_model.specs.LookUps.{many_named, navigation_on}
use Rattle.edm_model.specs.Models.{Model, Navigation, Part}
use Rattle.edm_data.specs.Worlds.{World}
use Rattle.apply_ast.specs.Trees.{OptPipe, Step, is_long}
use Rattle.context_typing.proofs.LawfulShapes.{own_is_lawful}
use Rattle.context_typing.proofs.TypingEquations.{inner_shape-SomePipe}
use Rattle.context_typing.specs.Readings.{readings}
use Rattle.context_typing.specs.Shapes.{Shape, set_shape}
use Rattle.context_typing.specs.Typing.{Customs, customs_typed, inner_shape, join_navigation, root_type, steps_shape}
use Rattle.join_concat.proofs.JoinLemmas.{joined-bound}
use Rattle.join_concat.specs.Joins.{bound_rows}
use Rattle.apply_meaning.proofs.MeaningEquations.{step_mean-Join}
use Rattle.apply_meaning.proofs.MeaningProved.{loaded-related}
use Rattle.apply_meaning.specs.Instances.{Instance}
use Rattle.apply_meaning.specs.Meaning.{Outcome, bound_to, inner_mean, joined, mean, related_rows, step_mean}
use Rattle.apply_meaning.specs.MeaningLaws.{AllFit, IsLoaded}
use Rattle.step_run.proofs.CostEquations.{applications-NoPipe, applications-SomePipe, inner_costs-Join}
use Rattle.step_run.proofs.GroupLemmas.{next-sum}
use Rattle.pipe_run.proofs.ListsInTurn.{all-long}
use Rattle.step_run.proofs.RunLevels.{slice-at}
use Rattle.pipe_run.proofs.JoinParts.{JoinTyped, join-typed}
use Rattle.pipe_run.specs.SeveralRuns.{RelatedReady, RelatedRun}
use Rattle.step_run.specs.Conditions.{InnerRuns, StepRunsFrom}
use Rattle.step_run.specs.Contexts.{Context}
use Rattle.step_run.specs.Costs.{application, applications, cost, inner_cost, inner_costs, result_length, step_cost}

-- ---- the meaning

-- what the instances related to one become
abbrev pub related_mean : World → Customs → Navigation → OptPipe → Instance → Outcome
related_mean w c v T i = inner_mean w c (set_shape v.target) (λ r. Some r) T (related_rows w v i)

-- a join is each instance beside what its related instances become, one after the other
join-mean : (w : World) (c : Customs) (S : Shape) (outer : Bool) (n a : Name) (T : OptPipe) (l : List Instance) (v : Navigation) → join_navigation w.model S n ≡ Some v
    → step_mean w c S (Step.Join outer n a T) l ≡ option_map (bound_rows outer a l) (all_some (map (related_mean w c v T) l))
join-mean w c S outer n a T l v e =
    step_mean-Join w c S outer n a T l
    ∙ ap (λ o. elim o [
      | None ↦ None
      | Some v ↦ joined (map (λ i. option_map (bound_to outer a i) (inner_mean w c (set_shape v.target) (λ r. Some r) T (related_rows w v i))) l)
    ]) e
    ∙ joined-bound outer a (related_mean w c v T) l

-- ---- the cost

-- what is counted until an inner pipeline has run on a list
abbrev pub inner_charge : World → Customs → Shape → OptPipe → List Instance → ℕ
inner_charge w c S T l = length l + inner_cost w c S T l

-- what is counted until it has run on the instances related to one
abbrev pub related_charge : World → Customs → Navigation → OptPipe → Instance → ℕ
related_charge w c v T i = inner_charge w c (set_shape v.target) T (related_rows w v i)

sum-least : {X : Type 0} (f g : X → ℕ) (xs : List X) → ((x : X) → f x ≤ g x) → sum (map f xs) ≤ sum (map g xs)
sum-least f g xs h =
    let a = sum-map f xs in
    let b = sum-map g xs in
    let u = sum_by-le-sum_by f g xs h in
    omega (arith, a, b, u)

charges-least : (w : World) (c : Customs) (S : Shape) (T : OptPipe) (ls : List (List Instance)) → sum (map (inner_charge w c S T) ls) ≤ applications w c S T ls
charges-least w c S OptPipe.NoPipe ls =
    let whole = applications-NoPipe w c S ls in
    let least = sum-least (inner_charge w c S OptPipe.NoPipe) (application length (λ l. Some l)) ls (λ l. omega arith) in
    omega (arith, whole, least)
charges-least w c S (OptPipe.SomePipe p) ls =
    let whole = applications-SomePipe w c S p ls in
    let least = sum-least (inner_charge w c S (OptPipe.SomePipe p)) (application (cost w c S p) (mean w c S p)) ls (λ l. omega arith) in
    omega (arith, whole, least)

pub related-least : (w : World) (c : Customs) (v : Navigation) (T : OptPipe) (l : List Instance) → sum (map (related_charge w c v T) l) ≤ applications w c (set_shape v.target) T (map (related_rows w v) l)
related-least w c v T l =
    let same = ap sum (map-map (inner_charge w c (set_shape v.target) T) (related_rows w v) l) in
    let least = charges-least w c (set_shape v.target) T (map (related_rows w v) l) in
    omega (arith, same, least)

-- a join costs the applications of its inner pipeline, and its instances
join-cost : (w : World) (c : Customs) (S : Shape) (outer : Bool) (n a : Name) (T : OptPipe) (l : List Instance) (v : Navigation) → join_navigation w.model S n ≡ Some v
    → inner_costs w c S (Step.Join outer n a T) l ≡ applications w c (set_shape v.target) T (map (related_rows w v) l)
join-cost w c S outer n a T l v e = inner_costs-Join w c S outer n a T l ∙ ap (λ o. elim o [ None ↦ 0 | Some v ↦ applications w c (set_shape v.target) T (map (related_rows w v) l) ]) e

-- ---- what is typed as a join

-- the navigation property that it takes
navigation-is : (m : Model) (c : Customs) (S S' : Shape) (outer : Bool) (n a : Name) (T : OptPipe) (J : JoinTyped m c S S' outer n a T) → join_navigation m S n ≡ Some J.navigation
navigation-is m c S S' outer n a T J =
    ap (option_and_then (λ t. many_named m t n)) J.root_is
    ∙ ap (option_and_then (λ (x : ℕ × Navigation). if (x.1).many then Some x.1 else None)) J.named
    ∙ ap (λ b. if b then Some J.navigation else None) J.many

inner-runs : (x : Context) (v : Navigation) (G : Shape) (T : OptPipe) (l : List Instance) → IsTrue (customs_typed x.world.model (readings x.customs))
    → inner_shape x.world.model (readings x.customs) (set_shape v.target) (set_shape v.target) T ≡ Some G → AllFit x.world (set_shape v.target) l → InnerRuns x (Some v.target) (set_shape v.target) G T l
inner-runs x v G OptPipe.NoPipe l customs t fit = tt
inner-runs x v G (OptPipe.SomePipe p) l customs t fit =
    let m = x.world.model in
    let c = readings x.customs in
    let S = set_shape v.target in
    record {
      runs = record {
        customs = customs;
        lawful = own_is_lawful m v.target;
        typed = (if_else-parts (is_long p) (steps_shape m c S p) G (sym (inner_shape-SomePipe m c S S p) ∙ t)).1;
        fit = fit;
      };
      root_is = refl;
    }

-- its inner pipeline runs on what is related to each instance
pub related-run : (x : Context) (root : Option ℕ) (S S' : Shape) (outer : Bool) (n a : Name) (T : OptPipe) (l : List Instance) (v : Navigation) → IsLoaded x.world → StepRunsFrom x root S S' (Step.Join outer n a T) l
    → join_navigation x.world.model S n ≡ Some v → (G : Shape) × RelatedRun x v G T l
related-run x root S S' outer n a T l v L R e =
    let m = x.world.model in
    let c = readings x.customs in
    let J = join-typed m c S S' outer n a T R.runs.typed in
    let own : J.navigation ≡ v = some_value (sym (navigation-is m c S S' outer n a T J) ∙ e) in
    let typed = subst (λ (v : Navigation). inner_shape m c (set_shape v.target) (set_shape v.target) T ≡ Some J.related) own J.inner in
    (J.related, λ k i h. inner-runs x v J.related T (related_rows x.world v i) R.runs.customs typed (loaded-related x.world S n v i L e))

-- ---- what the program finds

-- the rows of a collection-valued navigation property
pub related-same : (w w' : World) (v : Navigation) (i : Instance) (l : List Instance) → w' ≡ w → v.many ≡ true → l ≡ (if v.many then related_rows w' v i else []) → l ≡ related_rows w v i
related-same w w' v i l same many e = e ∙ ap (λ b. if b then related_rows w' v i else []) many ∙ ap (λ w. related_rows w v i) same

pub related-long : (w w' : World) (v : Navigation) (i : Instance) → w' ≡ w → v.many ≡ true → length (if v.many then related_rows w' v i else []) ≡ length (related_rows w v i)
related-long w w' v i same many = ap length (related-same w w' v i _ same many refl)

-- the type that it leads to
pub target-is : (m m' : Model) (nav : Part) (v : Navigation) (t : ℕ) → m' ≡ m → navigation_on m nav ≡ Some v → option_map (λ v. v.target) (navigation_on m' nav) ≡ Some t → v.target ≡ t
target-is m m' nav v t same h e = some_value (sym (ap (option_map (λ (v : Navigation). v.target)) h) ∙ ap (λ m. option_map (λ (v : Navigation). v.target) (navigation_on m nav)) (sym same) ∙ e)

-- the inner pipeline runs on what is related to the next row
pub record RelatedTurn (x : Context) (v : Navigation) (G : Shape) (T : OptPipe) (l : List Instance) (i : ℕ) (row : Instance) (related : List Instance) (t : ℕ) : Type 0 where
  pub runs : InnerRuns x (Some t) (set_shape v.target) G T related
  pub means : related_mean x.world (readings x.customs) v T row ≡ inner_mean x.world (readings x.customs) (set_shape v.target) (λ r. Some r) T related
  pub costs : length (related_rows x.world v row) + inner_cost x.world (readings x.customs) (set_shape v.target) T related + sum (map (related_charge x.world (readings x.customs) v T) (drop (i + 1) l))
      ≤ sum (map (related_charge x.world (readings x.customs) v T) (drop i l))

pub related-turn : (x : Context) (v : Navigation) (G : Shape) (T : OptPipe) (l : List Instance) (i : ℕ) (row : Instance) (related : List Instance) (t : ℕ) → RelatedRun x v G T l → i < length l → row ≡ get_or l i row → related ≡ related_rows x.world v row
    → v.target ≡ t → RelatedTurn x v G T l i row related t
related-turn x v G T l i row related t R h e same target =
    let w = x.world in
    let c = readings x.customs in
    let S = set_shape v.target in
    let own = subst (λ (t : ℕ). InnerRuns x (Some t) S G T (related_rows w v row)) target (R i row (slice-at l i row h e)) in
    let next = next-sum (related_charge w c v T) l i row h e in
    let cost_is = ap (inner_cost w c S T) same in
    record { runs = subst (InnerRuns x (Some t) S G T) (sym same) own; means = ap (inner_mean w c S (λ r. Some r) T) (sym same); costs = omega (arith, next, cost_is) }

-- ---- what a join in the program means and costs

pub record JoinRun (x : Context) (root : Option ℕ) (S : Shape) (outer : Bool) (n a : Name) (T : OptPipe) (l : List Instance) (found : Part) : Type 0 where
  pub navigation : Navigation
  pub at : navigation_on x.world.model found ≡ Some navigation
  pub many : navigation.many ≡ true
  pub shape : Shape
  pub runs : RelatedRun x navigation shape T l
  pub means : step_mean x.world (readings x.customs) S (Step.Join outer n a T) l ≡ option_map (bound_rows outer a l) (all_some (map (related_mean x.world (readings x.customs) navigation T) l))
  pub costs : step_cost x.world (readings x.customs) S (Step.Join outer n a T) l
      ≡ result_length (step_mean x.world (readings x.customs) S (Step.Join outer n a T) l) + applications x.world (readings x.customs) (set_shape navigation.target) T (map (related_rows x.world navigation) l)

pub join-run : {x : Context} {root : Option ℕ} {S S' : Shape} {outer : Bool} {n a : Name} {T : OptPipe} {l : List Instance} (found : Part) → StepRunsFrom x root S S' (Step.Join outer n a T) l
    → ((S : Shape) → root_type S ≡ root → join_navigation x.world.model S n ≡ navigation_on x.world.model found) → RelatedReady x found T l → JoinRun x root S outer n a T l found
join-run {x = x} {root = root} {S = S} {S' = S'} {outer = outer} {n = n} {a = a} {T = T} {l = l} found R value ready =
    let m = x.world.model in
    let c = readings x.customs in
    let J = join-typed m c S S' outer n a T R.runs.typed in
    let named = navigation-is m c S S' outer n a T J in
    let at = sym (value S R.root_is) ∙ named in
    let own = ready J.navigation at in
    record {
      navigation = J.navigation;
      at = at;
      many = J.many;
      shape = own.0;
      runs = own.1;
      means = join-mean x.world c S outer n a T l J.navigation named;
      costs = ap (λ k. result_length (step_mean x.world c S (Step.Join outer n a T) l) + k) (join-cost x.world c S outer n a T l J.navigation named);
    }

-- where the lists are made
pub record ListsMade (f : Instance → Outcome) (l : List Instance) (parts : List (Vec Instance)) : Type 0 where
  pub all : all_some (map f l) ≡ Some (map (λ part. part.items) parts)
  pub long : length parts ≡ length l

pub lists-made : {f : Instance → Outcome} {l : List Instance} {parts : List (Vec Instance)} (made : List (Vec Instance)) → parts ≡ made → all_some (map f l) ≡ Some (map (λ part. part.items) made) → ListsMade f l parts
lists-made {f = f} {l = l} {parts = parts} made e h =
    let items : Vec Instance → List Instance = λ part. part.items in
    record { all = h ∙ ap (λ ls. Some (map items ls)) (sym e); long = ap length e ∙ sym (length-map made items) ∙ all-long f l (map items made) h }

-- the join is the rows beside them
pub made-mean : {x : Context} {root : Option ℕ} {S : Shape} {outer : Bool} {n a : Name} {T : OptPipe} {l : List Instance} {found : Part} {parts : List (Vec Instance)} (o : Bool) (u : JoinRun x root S outer n a T l found) → outer ≡ o
    → ListsMade (related_mean x.world (readings x.customs) u.navigation T) l parts → (r : List Instance) → r ≡ bound_rows o a l (map (λ part. part.items) parts) → step_mean x.world (readings x.customs) S (Step.Join outer n a T) l ≡ Some r
made-mean {outer = outer} {a = a} {l = l} {parts = parts} o u outer_is made r e =
    u.means ∙ ap (option_map (bound_rows outer a l)) made.all ∙ ap Some (ap (λ o. bound_rows o a l (map (λ (part : Vec Instance). part.items) parts)) outer_is ∙ sym e)
