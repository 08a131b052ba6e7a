use Rattle.std.proofs.Common.{Bool, IfOk, ap, subst, sym}
use Rattle.apply_ast.specs.Views.{pipe_of}
use Rattle.context_typing.specs.Readings.{readings}
use Rattle.context_typing.specs.Typing.{shape_of_set}
use Rattle.context_typing.specs.declared.typed.Typed.{Typed}
use Rattle.optimiser.specs.Plans.{own_of}
use Rattle.apply_replies.specs.Costs.{IsRunFor}
use Rattle.apply_replies.proofs.replies.plan_for.Goals as goal

pub returns-then-is_optimised-clause-plan : goal.returns-then-is_optimised-clause-plan
returns-then-is_optimised-clause-plan c = rw (c.model.ensures.value, c.customs.ensures.value) at c.optimise.ensures.plan

pub returns-then-is_optimised-clause-own : goal.returns-then-is_optimised-clause-own
returns-then-is_optimised-clause-own c =
    let w = c.args.store.now.world in
    let cs = readings c.args.store.now.customs in
    let P : Bool → Type 0 = λ b. IfOk c.optimise.result (λ p. IsRunFor b w.model cs (shape_of_set w.model c.args.typed.set) (pipe_of c.args.typed.pipe) (pipe_of (own_of p).pipe)) in
    subst P (sym c.if-is_optimised.true) (rw (c.model.ensures.value, c.customs.ensures.value) at c.optimise.ensures.own)

pub returns-clause-plan : goal.returns-clause-plan
returns-clause-plan c = c.written.ensures.plan c.args.store.now.world.model (readings c.args.store.now.customs) c.requires.typing

pub returns-clause-written : goal.returns-clause-written
returns-clause-written c = record {
  set = ap (λ (t : Typed). t.set) c.written.ensures.written;
  pipe = ap (λ (t : Typed). pipe_of t.pipe) c.written.ensures.written;
  shape = ap (λ (t : Typed). t.shape) c.written.ensures.written;
}

pub returns-clause-own : goal.returns-clause-own
returns-clause-own c =
    let w = c.args.store.now.world in
    let cs = readings c.args.store.now.customs in
    let P : Bool → Type 0 = λ b. IsRunFor b w.model cs (shape_of_set w.model c.args.typed.set) (pipe_of c.args.typed.pipe) (pipe_of (own_of c.written.result).pipe) in
    subst P (sym c.if-is_optimised.false) (ap (λ (t : Typed). pipe_of t.pipe) c.written.ensures.own)
