use Rattle.std.proofs.Common.{◌∙◌, ap}
use Rattle.std.proofs.lemmas.Result.{IfOk-weaker}
use Rattle.context_typing.specs.Readings.{readings}
use Rattle.walk_laws.specs.Factored.{factored}
use Rattle.optimiser.specs.Plans.{IsGiven, IsWithFactored}
use Rattle.optimiser.proofs.plans.given.Goals as goal

pub returns : goal.returns
returns c =
    let k = c.in_ok-all.ensures in
    IfOk-weaker c.with_factored.result (IsWithFactored c.in_ok-all.all) (IsGiven c.args.m.now (readings c.args.c.now) c.args.t.now)
    (λ r w. record { set = w.set ∙ k.set; shape = w.shape ∙ k.shape; pipe = w.pipe ∙ ap factored k.pipe }) c.with_factored.ensures
