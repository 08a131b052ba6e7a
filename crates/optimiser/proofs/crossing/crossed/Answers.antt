use Rattle.std.proofs.Common.{refl, sym, ◌∙◌, ap, subst, map}
use Rattle.std.specs.Prelude.{IfSome, is_some}
use Rattle.apply_ast.specs.Views.{step_of}
use Rattle.context_typing.specs.Readings.{readings}
use Rattle.context_typing.specs.Shapes.{set_shape}
use Rattle.context_typing.specs.Typing.{steps_shape}
use Rattle.rewrite_laws.specs.Rewrites.{pipe_or_identity}
use Rattle.optimiser.specs.CrossingForms.{IsCrossing}
use Rattle.optimiser.proofs.PlanTurns.{crossing-plan}
use Rattle.optimiser.proofs.crossing.crossed.Goals as goal

pub last_crossing-requires-clause-typed : goal.last_crossing-requires-clause-typed
last_crossing-requires-clause-typed c =
    (λ i. is_some (steps_shape c.args.m.now (readings c.args.c.now) ((c.set_shape-start.ensures.value ∙ ap set_shape c.set_type.ensures.value) i) (sym c.steps.ensures.tree i))) ∙ ap is_some c.requires.typing.1

pub returns-in-Some : goal.returns-in-Some
returns-in-Some c =
    let m = c.args.m.now in
    let cs = readings c.args.c.now in
    let t = c.args.t.now in
    let ss = map step_of c.steps.result.now in
    let x = c.in-Some.crossing in
    let gives = sym c.gives_anywhere.ensures.value ∙ c.if-not-gives_anywhere.false in
    let found = subst (λ o. IfSome o (IsCrossing m cs c.set_shape-start.result ss)) c.in-Some.is c.in_ok-crossing.ensures in
    let here = subst (λ S. IsCrossing m cs S ss x) (c.set_shape-start.ensures.value ∙ ap set_shape c.set_type.ensures.value) found in
    crossing-plan m cs t c.requires.whole c.requires.typing gives c.crossing_keeps_plan.ensures.law ss c.steps.ensures.tree x here (record { set = t.set; pipe = c.in_ok-pipe-in-Some.pipe; shape = c.in_ok-shape-in-Some.shape }) refl c.in_ok-shape-in-Some.ensures.value (c.in_ok-pipe-in-Some.ensures ∙ ap pipe_or_identity c.in_ok-steps-in-Some.ensures)
