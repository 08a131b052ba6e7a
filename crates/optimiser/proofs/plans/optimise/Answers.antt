use Rattle.std.proofs.Common.{◌∙◌, inr, sym}
use Rattle.apply_ast.specs.Views.{pipe_of}
use Rattle.context_typing.specs.Readings.{readings}
use Rattle.optimiser.specs.Plans.{AreOneTyping}
use Rattle.optimiser.proofs.PlanMeaning.{one-back, plan-copied, plan-stands, typing-copied}
use Rattle.optimiser.proofs.plans.optimise.Goals as goal

pub returns-clause-written : goal.returns-clause-written
returns-clause-written c = record { set = c.in_ok-written.ensures.set; pipe = c.in_ok-written.ensures.pipe; shape = c.in_ok-written.ensures.shape }

pub returns-clause-plan : goal.returns-clause-plan
returns-clause-plan c =
    let m = c.args.m.now in
    let cs = readings c.args.c.now in
    let written : AreOneTyping c.in_ok-written.written c.args.t.now = record { set = c.in_ok-written.ensures.set; pipe = c.in_ok-written.ensures.pipe; shape = c.in_ok-written.ensures.shape } in
    let own = c.in_ok-own.ensures in
    record {
      typing = typing-copied m cs c.args.t.now c.in_ok-written.written written c.requires.typing;
      set = own.set ∙ sym written.set;
      shape = own.shape ∙ sym written.shape;
      pipe = inr (plan-copied m cs c.in_ok-written.written c.args.t.now (pipe_of c.in_ok-own.own.pipe) (one-back _ _ written) own.pipe);
    }

pub returns-clause-own : goal.returns-clause-own
returns-clause-own c = c.in_ok-own.ensures.pipe

pub returns-clause-meaning : goal.returns-clause-meaning
returns-clause-meaning c = plan-stands c.args.m.now (readings c.args.c.now) c.args.t.now (pipe_of c.in_ok-own.own.pipe) c.requires.whole c.requires.typing c.in_ok-own.ensures.pipe
