use Rattle.apply_grammar.specs.Requests.{asked_of}
use Rattle.context_typing.specs.Readings.{readings}
use Rattle.optimiser.specs.Plans.{written_of}
use Rattle.apply_replies.specs.Replies.{cycle}
use Rattle.apply_replies.proofs.Responding.{cycle-asked, one-body, respond-made, respond-plan, respond-run, run-within}
use Rattle.apply_replies.proofs.replies.typed_response.Goals as goal

pub returns-then-request-clause-response : goal.returns-then-request-clause-response
returns-then-request-clause-response g c =
    respond-plan c.plan_response.result c.args.store.now.world (readings c.args.store.now.customs) (asked_of c.args.request.now) c.args.typed c.args.typed.shape c.requires.typed c.if-request.true c.requires.pipe c.plan_response.ensures

pub returns-in-Some-clause-response : goal.returns-in-Some-clause-response
returns-in-Some-clause-response g c =
    let w = c.args.store.now.world in
    let t = c.args.typed in
    respond-made c.cycle_response.result w (readings c.args.store.now.customs) (asked_of c.args.request.now) _
    (cycle t.set t.shape c.in-Some.node c.requires.typed c.if-request.false (cycle-asked _ w _ _ _ c.data.ensures.value c.requires.pipe c.in-Some.ensures.value))
    c.cycle_response.ensures

pub returns-clause-response : goal.returns-clause-response
returns-clause-response g c =
    let w = c.args.store.now.world in
    let cs = readings c.args.store.now.customs in
    let t = c.args.typed in
    respond-run c.run_response.result c.body_of-body.result w cs (asked_of c.args.request.now) t.set t.shape _ c.requires.typed c.if-request.false (cycle-asked _ w _ _ _ c.data.ensures.value c.requires.pipe c.in_default.ensures.value)
    (one-body w cs t (written_of c.in_ok-plan.plan) _ c.in_ok-plan.ensures.written c.requires.pipe) c.body_of-body.ensures.ok c.body_of-body.ensures.range c.run_response.ensures

pub returns-clause-steps : goal.returns-clause-steps
returns-clause-steps g c =
    run-within c.args.is_optimised c.args.store.now.world (readings c.args.store.now.customs) (asked_of c.args.request.now) c.args.typed.shape c.args.typed c.in_ok-plan.plan _ _ c.requires.typed c.if-request.false (cycle-asked _ c.args.store.now.world _ _ _ c.data.ensures.value c.requires.pipe c.in_default.ensures.value) c.requires.pipe c.in_ok-plan.ensures.plan c.in_ok-plan.ensures.written c.in_ok-plan.ensures.own c.body_of-body.ensures.steps
