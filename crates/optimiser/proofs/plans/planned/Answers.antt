use Rattle.std.proofs.Common.{◌∙◌, sym, subst}
use Rattle.std.proofs.lemmas.Result.{IfOk-weaker}
use Rattle.context_typing.specs.Readings.{readings}
use Rattle.walk_laws.specs.Walks.{All}
use Rattle.optimiser.specs.Plans.{IsFirstOf, IsGiven, IsTypedPlan, IsWalked, later_rules}
use Rattle.optimiser.proofs.PlanTurns.{given-plan, turn-first, turn-less, turn-turned, turned-plan, walk-plan}
use Rattle.optimiser.proofs.plans.planned.Goals as goal

pub returns-then-stays_apart : goal.returns-then-stays_apart
returns-then-stays_apart c =
    let m = c.args.m.now in
    let cs = readings c.args.c.now in
    let t = c.args.t.now in
    let apart = sym c.stays_apart.ensures.value ∙ c.if-stays_apart.true in
    IfOk-weaker c.walked.result (IsWalked All m cs t) (IsTypedPlan m cs t) (λ q w. walk-plan m cs t q c.apart_walk_is_plan.ensures.law c.requires.whole c.requires.typing apart w) c.walked.ensures

pub returns-then-gives_at_front : goal.returns-then-gives_at_front
returns-then-gives_at_front c =
    let m = c.args.m.now in
    let cs = readings c.args.c.now in
    let t = c.args.t.now in
    let gives = sym c.gives_at_front.ensures.value ∙ c.if-gives_at_front.true in
    IfOk-weaker c.given.result (IsGiven m cs t) (IsTypedPlan m cs t) (λ q w. given-plan m cs t q c.given_walk_is_plan.ensures.law c.requires.whole c.requires.typing gives w) c.given.ensures

pub returns-then-done : goal.returns-then-done
returns-then-done c = turned-plan c.args.m.now (readings c.args.c.now) c.args.t.now c.in_ok-current.current (c.in_ok-current.ensures).made ((c.in_ok-current.ensures).done c.if-done.true)

pub loop-current-init : goal.loop-current-init
loop-current-init c = (c.in_ok-current.ensures).made

pub loop-current-smaller : goal.loop-current-smaller
loop-current-smaller c =
    let m = c.args.m.now in
    let cs = readings c.args.c.now in
    let q = c.loop-current.current in
    turn-less m cs c.args.t.now q c.in-Some.after c.in_ok-next.next c.loop-current.invariant (subst (IsFirstOf later_rules m cs q) c.in-Some.is c.in_ok-after.ensures.value) c.in_ok-next.ensures

pub loop-current-preserved : goal.loop-current-preserved
loop-current-preserved c =
    let m = c.args.m.now in
    let cs = readings c.args.c.now in
    let q = c.loop-current.current in
    turn-turned m cs c.args.t.now q c.in-Some.after c.in_ok-next.next c.loop-current.invariant (subst (IsFirstOf later_rules m cs q) c.in-Some.is c.in_ok-after.ensures.value) (turn-first m cs c.in-Some.after c.in_ok-next.next c.in_ok-next.ensures)

pub loop-current-smaller-in_ok-next : goal.loop-current-smaller-in_ok-next
loop-current-smaller-in_ok-next c =
    let m = c.args.m.now in
    let cs = readings c.args.c.now in
    let q = c.loop-current.current in
    turn-less m cs c.args.t.now q c.in-Some.after c.in_ok-next.next c.loop-current.invariant (subst (IsFirstOf later_rules m cs q) c.in-Some.is c.in_ok-after.ensures.value) c.in_ok-next.ensures

pub loop-current-preserved-in_ok-next : goal.loop-current-preserved-in_ok-next
loop-current-preserved-in_ok-next c =
    let m = c.args.m.now in
    let cs = readings c.args.c.now in
    let q = c.loop-current.current in
    turn-turned m cs c.args.t.now q c.in-Some.after c.in_ok-next.next c.loop-current.invariant (subst (IsFirstOf later_rules m cs q) c.in-Some.is c.in_ok-after.ensures.value) (turn-first m cs c.in-Some.after c.in_ok-next.next c.in_ok-next.ensures)

pub returns : goal.returns
returns c =
    let m = c.args.m.now in
    let cs = readings c.args.c.now in
    turned-plan m cs c.args.t.now c.loop-current.current c.loop-current.invariant (subst (IsFirstOf later_rules m cs c.loop-current.current) c.in_default.is c.in_ok-after.ensures.value)
