use Rattle.std.proofs.Common.{◌≡◌, ◌∙◌, ap, true, map, ◌⊎◌, inl, inr}
use Rattle.std.proofs.lemmas.Result.{on_ok_weaker}
use Rattle.apply_ast.specs.Views.{step_of, top_of}
use Rattle.apply_ast.proofs.ViewEquations.{climb_of-is, join_of-is, step_of-Climb, step_of-Compute, step_of-Concat, step_of-GroupBy, step_of-Join, step_of-OrderBy, step_of-Skip, step_of-Top, step_of-TopBy, step_of-Traverse}
use Rattle.context_typing.specs.Readings.{readings}
use Rattle.optimiser.specs.HeldSegments.{segments_of}
use Rattle.optimiser.specs.IdleForms.{frame, is_put}
use Rattle.optimiser.specs.WalkRules.{rules_named}
use Rattle.walk_laws.specs.Walks as spec
use Rattle.optimiser.proofs.SteppingLemmas.{early-selection, put-step}
use Rattle.optimiser.proofs.stepping.put_step.Goals as goal

either : {A B C : Type 0} → (A → C) → (B → C) → A ⊎ B → C
either f g (inl a) = f a
either f g (inr b) = g b

pub returns-in-Early-clause-value : goal.returns-in-Early-clause-value
returns-in-Early-clause-value c =
    let m = c.args.m.now in
    let cs = readings c.args.c.now in
    let r = rules_named c.args.rules in
    let ss = map step_of c.args.steps.now in
    on_ok_weaker c.put_head-in-Early.result
    (λ p. p ∙ early-selection r m cs c.args.shape.now (segments_of m (frame r cs ss) c.args.segments.now.items) (step_of c.args.step.now) (top_of c.in-TopBy.top) (ap (λ x. spec.is_late (rules_named x)) c.in-Early.is) (ap step_of c.in-TopBy.is ∙ step_of-TopBy c.in-TopBy.top))
    (c.put_head-in-Early.ensures.value ss c.requires.there)

pub returns-in-Compute-clause-value : goal.returns-in-Compute-clause-value
returns-in-Compute-clause-value c =
    let m = c.args.m.now in
    let cs = readings c.args.c.now in
    let r = rules_named c.args.rules in
    let ss = map step_of c.args.steps.now in
    let put : is_put (step_of c.args.step.now) ≡ true =
    either (λ x. ap is_put (ap step_of x.1 ∙ step_of-Compute x.0)) (either (λ x. ap is_put (ap step_of x.1 ∙ step_of-OrderBy x.0))
    (either (λ x. ap is_put (ap step_of x.1 ∙ step_of-Skip x.0)) (either (λ x. ap is_put (ap step_of x.1 ∙ step_of-Top x.0))
    (either (λ x. ap is_put (ap step_of x.2 ∙ step_of-GroupBy x.0 x.1)) (either (λ x. ap is_put (ap step_of x.1 ∙ step_of-Concat x.0))
    (either (λ x. ap is_put (ap step_of x.1 ∙ step_of-Join x.0 ∙ join_of-is x.0)) (either (λ x. ap is_put (ap step_of x.1 ∙ step_of-Climb x.0 ∙ climb_of-is x.0))
    (λ x. ap is_put (ap step_of x.1 ∙ step_of-Traverse x.0)))))))))
    c.in-Compute.is in
    on_ok_weaker c.put_head-in-Compute.result
    (λ p. p ∙ put-step r m cs c.args.shape.now (segments_of m (frame r cs ss) c.args.segments.now.items) (step_of c.args.step.now) put)
    (c.put_head-in-Compute.ensures.value ss c.requires.there)
