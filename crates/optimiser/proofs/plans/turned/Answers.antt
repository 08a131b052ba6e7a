use Rattle.std.proofs.Common.{◌∙◌, sym}
use Rattle.std.proofs.lemmas.Result.{IfOk-weaker}
use Rattle.context_typing.specs.Readings.{readings}
use Rattle.optimiser.specs.Plans.{IsTurn, IsWithFactored}
use Rattle.optimiser.proofs.PlanTurns.{factor-turn, walk-turn}
use Rattle.optimiser.proofs.plans.turned.Goals as goal

pub returns-then-pipe_rests : goal.returns-then-pipe_rests
returns-then-pipe_rests c =
    let m = c.args.m.now in
    let cs = readings c.args.c.now in
    let t = c.args.t.now in
    let q = c.in_ok-walked.walked in
    let turn = walk-turn m cs t q c.requires.whole c.requires.typing c.in_ok-walked.ensures.value c.in_ok-walked.ensures.typing c.early_walk_is_plan.ensures.law c.later_rules_follow.ensures.law in
    IfOk-weaker c.with_factored.result (IsWithFactored q) (IsTurn m cs t) (λ r w. factor-turn m cs t q r c.requires.whole turn w (sym c.pipe_rests.ensures.value ∙ c.if-pipe_rests.true) c.factoring_is_rewriting.ensures.law) c.with_factored.ensures

pub returns : goal.returns
returns c =
    walk-turn c.args.m.now (readings c.args.c.now) c.args.t.now c.in_ok-walked.walked c.requires.whole c.requires.typing c.in_ok-walked.ensures.value c.in_ok-walked.ensures.typing c.early_walk_is_plan.ensures.law c.later_rules_follow.ensures.law
