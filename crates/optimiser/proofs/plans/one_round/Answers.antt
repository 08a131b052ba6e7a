use Rattle.std.proofs.Common.{sym, ◌∙◌}
use Rattle.apply_ast.specs.Views.{pipe_of}
use Rattle.context_typing.specs.Readings.{readings}
use Rattle.optimiser.proofs.PlanTurns.{factor-round, round-end}
use Rattle.optimiser.proofs.SamePipes.{same_pipes}
use Rattle.optimiser.proofs.plans.one_round.Goals as goal

pub returns : goal.returns
returns c =
    let m = c.args.m.now in
    let cs = readings c.args.c.now in
    let t = c.args.t.now in
    let all = c.in_ok-all.all in
    let out = c.in_ok-out.out in
    record {
      made = factor-round m cs t c.requires.whole c.requires.typing c.requires.gives c.factoring_keeps_plan.ensures.law all out c.in_ok-all.ensures c.in_ok-out.ensures;
      done = λ d.
          round-end m cs t c.requires.whole c.requires.typing c.requires.gives c.unfactored_is_settled.ensures.law all out c.in_ok-all.ensures c.in_ok-out.ensures
          (same_pipes (pipe_of out.pipe) (pipe_of all.pipe) (sym c.same_pipe-done.ensures.value ∙ d));
    }
