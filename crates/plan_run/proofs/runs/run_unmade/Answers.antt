use Rattle.std.proofs.Common.{◌≡◌, ◌+◌, ◌∙◌, arith, ap, sym, subst, refl}
use Rattle.edm_data.specs.References.{count}
use Rattle.apply_ast.specs.Views.{pipe_of}
use Rattle.context_typing.specs.Readings.{readings}
use Rattle.context_typing.specs.Typing.{shape_of_set}
use Rattle.context_typing.specs.declared.typed.Typed.{Typed}
use Rattle.apply_meaning.specs.Instances as instances
use Rattle.apply_meaning.specs.Meaning.{mean}
use Rattle.optimiser.specs.Plans.{own_of, written_of}
use Rattle.hier_states.specs.NamedHierarchies.{hierarchies}
use Rattle.step_run.specs.Conditions.{AreReady}
use Rattle.step_run.specs.Contexts.{Context}
use Rattle.step_run.specs.Costs.{cost, total_cost}
use Rattle.frame_run.specs.HeldRows.{GivesHeld, rows_of}
use Rattle.plan_run.proofs.PlanLemmas.{runs-as}
use Rattle.plan_run.proofs.runs.run_unmade.Goals as goal

pub plan_ready-requires-clause-named : goal.plan_ready-requires-clause-named
plan_ready-requires-clause-named g c κs within =
    subst (λ (x : Context). AreReady x (hierarchies (pipe_of (written_of c.args.plan.now).pipe))) (sym c.new-context.ensures.value) c.requires.ready

pub held_after-requires-clause-named : goal.held_after-requires-clause-named
held_after-requires-clause-named g c κs within =
    subst (λ (t : Typed). AreReady c.new-context.result (hierarchies (pipe_of t.pipe))) (sym c.typed-typed.ensures.value) c.plan_ready.ensures.named

pub returns-clause-mean : goal.returns-clause-mean
returns-clause-mean g c =
    let w = c.args.store.now in
    let cs = readings c.args.c.now in
    let own = own_of c.args.plan.now in
    let written = written_of c.args.plan.now in
    let e = c.typed-typed.ensures.value in
    let S = shape_of_set w.model own.set in
    let l = rows_of c.of_set-held.result in
    let x = c.new-context.result in
    let p = pipe_of c.typed-typed.result.now.pipe in
    let runs = runs-as x (shape_of_set x.world.model own.set) own.shape own c.typed-typed.result.now l e c.plan_ready.ensures.runs in
    let given = c.held_after.ensures.mean (shape_of_set x.world.model own.set) own.shape runs in
    let means = subst (λ (x : Context). mean x.world (readings x.customs) (shape_of_set x.world.model own.set) (pipe_of own.pipe) (instances.rows x.world own.set)
    ≡ mean x.world (readings x.customs) (shape_of_set x.world.model written.set) (pipe_of written.pipe) (instances.rows x.world written.set)) c.new-context.ensures.value c.plan_ready.ensures.means in
    let same = ap (λ (t : Typed). mean w cs S (pipe_of t.pipe) l) e
    ∙ ap (mean w cs S (pipe_of own.pipe)) (c.of_set-held.ensures.rows ∙ ap (λ (t : Typed). instances.rows w t.set) e)
    ∙ means in
    subst (GivesHeld c.held_after.result) same (subst (λ (x : Context). GivesHeld c.held_after.result (mean x.world (readings x.customs) (shape_of_set x.world.model own.set) p l)) c.new-context.ensures.value given)

pub returns-clause-steps : goal.returns-clause-steps
returns-clause-steps g c =
    let w = c.args.store.now in
    let cs = readings c.args.c.now in
    let own = own_of c.args.plan.now in
    let e = c.typed-typed.ensures.value in
    let S = shape_of_set w.model own.set in
    let l = rows_of c.of_set-held.result in
    let x = c.new-context.result in
    let p = pipe_of c.typed-typed.result.now.pipe in
    let runs = runs-as x (shape_of_set x.world.model own.set) own.shape own c.typed-typed.result.now l e c.plan_ready.ensures.runs in
    let spent = c.held_after.ensures.steps (shape_of_set x.world.model own.set) own.shape runs in
    let made = c.of_set-held.ensures.owed in
    let same = ap (λ (x : Context). cost x.world (readings x.customs) (shape_of_set x.world.model own.set) p l) c.new-context.ensures.value in
    let costs = ap (λ (t : Typed). cost w cs S (pipe_of t.pipe) l) e
    ∙ ap (cost w cs S (pipe_of own.pipe)) (c.of_set-held.ensures.rows ∙ ap (λ (t : Typed). instances.rows w t.set) e) in
    let counts = ap (λ (t : Typed). count w t.set) e in
    let whole : total_cost w cs own.set (pipe_of own.pipe) ≡ count w own.set + cost w cs S (pipe_of own.pipe) (instances.rows w own.set) = refl in
    omega (arith, spent, made, same, costs, counts, whole)

pub returns-clause-grown : goal.returns-clause-grown
returns-clause-grown g c = omega (arith, c.held_after.ensures.grown)
