-- A plan on the instances of its entity set.
use Rattle.std.proofs.Common.{◌≡◌, ◌<◌, refl, sym, ◌∙◌, ap, subst, ℕ, List, Option, Some, length, IsTrue}
use Rattle.std.specs.Prelude.{All, Contains}
use Rattle.std.proofs.lemmas.List.Elements.{All-contains, All-contains_itself, All-weaker}
use Rattle.edm_data.specs.Worlds.{World}
use Rattle.edm_model.specs.LookUps.{IsSet, set_type}
use Rattle.apply_ast.specs.NamedHierarchies.{hierarchies}
use Rattle.apply_ast.specs.Views.{pipe_of}
use Rattle.context_typing.proofs.LawfulShapes.{own_is_lawful}
use Rattle.context_typing.specs.Typing.{Customs, customs_typed, shape_of_set, steps_shape}
use Rattle.apply_meaning.specs.Instances.{Instance, rows}
use Rattle.apply_meaning.specs.Meaning.{mean}
use Rattle.apply_meaning.specs.MeaningLaws.{AllFit, IsLoaded}
use Rattle.apply_meaning.proofs.MeaningProved.{loaded-rows}
use Rattle.optimiser.proofs.PlanMeaning.{runs-for-written}
use Rattle.optimiser.specs.Plans.{IsPlan, own_of, written_of}
use Rattle.optimiser.specs.declared.plans.Plan.{Plan}
use Rattle.apply_meaning.specs.Running.{Runs}
use Rattle.context_typing.specs.Shapes.{Shape}
use Rattle.context_typing.specs.declared.typed.Typed.{Typed}
use Rattle.context_typing.specs.Readings.{readings}
use Rattle.hier_states.specs.States.{IsReadyAt}
use Rattle.step_run.specs.Conditions.{AreReady, RunsFrom}
use Rattle.step_run.specs.Contexts.{Context}

-- the plan's own pipeline runs on the instances of its set
pub plan-runs : (w : World) (c : Customs) (p : Plan) (l : List Instance) → IsLoaded w → IsTrue (customs_typed w.model c) → IsPlan w.model c p → IsSet w.model (written_of p).set
    → l ≡ rows w (own_of p).set → Runs w c (shape_of_set w.model (own_of p).set) (own_of p).shape (pipe_of (own_of p).pipe) l
plan-runs w c p l L customs P h e = record {
  customs = customs;
  lawful = own_is_lawful w.model (set_type w.model (own_of p).set);
  typed = ap (λ s. steps_shape w.model c (shape_of_set w.model s) (pipe_of (own_of p).pipe)) P.set ∙ (runs-for-written w.model c p customs P).typed.1 ∙ ap Some (sym P.shape);
  fit = subst (AllFit w (shape_of_set w.model (own_of p).set)) (sym e) (loaded-rows w (own_of p).set L (subst (λ s. s < length w.model.sets) (sym P.set) h));
}

-- it means what the written one means
pub plan-means : (w : World) (c : Customs) (p : Plan) → IsLoaded w → IsTrue (customs_typed w.model c) → IsPlan w.model c p → IsSet w.model (written_of p).set
    → mean w c (shape_of_set w.model (own_of p).set) (pipe_of (own_of p).pipe) (rows w (own_of p).set) ≡ mean w c (shape_of_set w.model (written_of p).set) (pipe_of (written_of p).pipe) (rows w (written_of p).set)
plan-means w c p L customs P h =
    ap (λ s. mean w c (shape_of_set w.model s) (pipe_of (own_of p).pipe) (rows w s)) P.set
    ∙ (runs-for-written w.model c p customs P).means w refl L (rows w (written_of p).set) (loaded-rows w (written_of p).set L h)

-- what holds of all is what holds of some of them
all_of-some : {X : Type 0} (P : X → Type 0) (xs ys : List X) → ((x : X) → Contains ys x → Contains xs x) → All P xs → All P ys
all_of-some P xs ys more all = All-weaker (Contains ys) P (λ x k. All-contains P xs x all (more x k)) ys (All-contains_itself ys)

-- the hierarchies that it names are among those that the written one names
pub plan-ready : (x : Context) (p : Plan) → IsTrue (customs_typed x.world.model (readings x.customs)) → IsPlan x.world.model (readings x.customs) p
    → AreReady x (hierarchies (pipe_of (written_of p).pipe)) → AreReady x (hierarchies (pipe_of (own_of p).pipe))
plan-ready x p customs P ready =
    all_of-some (IsReadyAt x.world x.hiers) (hierarchies (pipe_of (written_of p).pipe)) (hierarchies (pipe_of (own_of p).pipe)) (runs-for-written x.world.model (readings x.customs) p customs P).names ready

-- the same of the typed pipeline that is the plan's own
pub runs-as : {root : Option ℕ} (x : Context) (S S' : Shape) (t t' : Typed) (l : List Instance) → t' ≡ t → RunsFrom x root S S' (pipe_of t.pipe) l → RunsFrom x root S S' (pipe_of t'.pipe) l
runs-as {root = root} x S S' t t' l e R = subst (λ (t : Typed). RunsFrom x root S S' (pipe_of t.pipe) l) (sym e) R
