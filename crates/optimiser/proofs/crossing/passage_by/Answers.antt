use Rattle.std.proofs.Common.{sym, ◌∙◌, ap}
use Rattle.apply_ast.specs.Views.{step_of}
use Rattle.context_typing.specs.Readings.{readings}
use Rattle.walk_laws.specs.Crossing.{sure_test}
use Rattle.optimiser.proofs.CrossingLemmas.{identity-crossed, lets-crossed}
use Rattle.optimiser.proofs.crossing.passage_by.Goals as goal

pub returns-then-is_identity : goal.returns-then-is_identity
returns-then-is_identity c e h = identity-crossed c.args.m.now (readings c.args.c.now) c.args.shape.now (step_of c.args.step.now) e (sym c.is_identity.ensures.value ∙ c.if-is_identity.true)

pub returns : goal.returns
returns c e h =
    lets-crossed c.args.m.now (readings c.args.c.now) c.args.shape.now (step_of c.args.step.now) e (sym c.in_ok-lets.ensures ∙ c.if-not-lets.false) (sym (ap (λ f. f (sure_test e)) c.in_ok-passage_of.ensures) ∙ h)
