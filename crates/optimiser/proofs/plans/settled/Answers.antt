use Rattle.std.proofs.lemmas.Result.{IfOk-weaker}
use Rattle.context_typing.specs.Answers.{IsTyping}
use Rattle.context_typing.specs.Readings.{readings}
use Rattle.walk_laws.specs.Walks.{Early}
use Rattle.optimiser.specs.Plans.{IsWalked}
use Rattle.optimiser.proofs.PlanTurns.{walk-typed}
use Rattle.optimiser.proofs.plans.settled.Goals as goal

pub returns-clause-typing : goal.returns-clause-typing
returns-clause-typing c =
    let m = c.args.m.now in
    let cs = readings c.args.c.now in
    IfOk-weaker c.walked.result (IsWalked Early m cs c.args.t.now) (IsTyping m cs) (λ q w. walk-typed m cs c.args.t.now q c.early_walk_keeps_meaning.ensures.law c.requires.whole c.requires.typing w) c.walked.ensures
