use Rattle.std.proofs.Common.{arith}
use Rattle.std.proofs.lemmas.Result.{err_from_is_err_and}
use Rattle.apply_grammar.specs.Limits.{served}
use Rattle.apply_grammar.specs.Reading.{primary, parens}
use Rattle.apply_grammar.proofs.Failing.{fails_on}
use Rattle.apply_grammar.proofs.ExprSteps.{parens_none, parens_some, signed_none, signed_full, signed_is_more, signed_fails, climb_start, climb_fails, goes_full, goes_on_turn, goes_fails, goes_done}
use Rattle.apply_grammar.proofs.expressions.+expr.Goals as goal

pub read_inner-returns-then-depth-eq0-clause-exact : goal.read_inner-returns-then-depth-eq0-clause-exact
read_inner-returns-then-depth-eq0-clause-exact t c = parens_none served c.args.depth c.args.ops c.args.text.now c.if-depth-eq0.true

pub read_inner-returns-clause-exact : goal.read_inner-returns-clause-exact
read_inner-returns-clause-exact t c = rw (parens_some served c.args.depth c.args.ops c.args.text.now (omega arith)) c.read_level.ensures.exact

pub read_signed-returns-then-ops-eq0-clause-exact : goal.read_signed-returns-then-ops-eq0-clause-exact
read_signed-returns-then-ops-eq0-clause-exact t c = signed_full (primary served (parens served c.args.depth)) c.args.ops c.args.text.now (c.in-Some.op, c.in-Some.operand.now) c.in-Some.ensures c.if-ops-eq0.true

pub read_signed-returns-in_err-e-in-Some-clause-exact : goal.read_signed-returns-in_err-e-in-Some-clause-exact
read_signed-returns-in_err-e-in-Some-clause-exact t c =
    let p = err_from_is_err_and c.from_residual.result c.from_residual.ensures.1 in
    rw (p.1, p.2) (fails_on c.in_err-e-in-Some.field-0.0 c.in_err-e-in-Some.ensures.exact (λ h. signed_fails (primary served (parens served c.args.depth)) c.args.ops c.args.text.now c.in-Some.op c.in-Some.operand.now c.in-Some.ensures (omega arith) h))

pub read_signed-returns-in_ok-new-in-Some-clause-exact : goal.read_signed-returns-in_ok-new-in-Some-clause-exact
read_signed-returns-in_ok-new-in-Some-clause-exact t c =
    rw c.in_ok-new-in-Some.ensures.ok (signed_is_more (primary served (parens served c.args.depth)) c.args.ops c.args.text.now c.in-Some.op c.in-Some.operand.now _ _ _ c.in-Some.ensures (omega arith) c.in_ok-e-in-Some.ensures.exact)

pub read_signed-returns-in-None-clause-exact : goal.read_signed-returns-in-None-clause-exact
read_signed-returns-in-None-clause-exact t c = rw (signed_none (primary served (parens served c.args.depth)) c.args.ops c.args.text.now c.in-None.ensures) c.read_primary.ensures.exact

pub read_level-returns-in_err-left-clause-exact : goal.read_level-returns-in_err-left-clause-exact
read_level-returns-in_err-left-clause-exact t c =
    let p = err_from_is_err_and c.from_residual.result c.from_residual.ensures.1 in
    rw (p.1, p.2) (fails_on c.in_err-left.field-0.0 c.in_err-left.ensures.exact (climb_fails (primary served (parens served c.args.depth)) c.args.level c.args.ops c.args.text.now))

pub read_level-loop-op-init : goal.read_level-loop-op-init
read_level-loop-op-init t c = (climb_start (primary served (parens served c.args.depth)) c.args.level c.args.ops c.args.text.now _ _ _ c.in_ok-left.ensures.exact, omega (arith, c.in_ok-left.ensures.less))

pub read_level-returns-then-ops-eq0-clause-exact : goal.read_level-returns-then-ops-eq0-clause-exact
read_level-returns-then-ops-eq0-clause-exact t c = goes_full (primary served (parens served c.args.depth)) c.args.level _ _ _ (c.in-Some.op, c.in-Some.behind.now) _ c.in-Some.ensures c.if-ops-eq0.true c.loop-op.invariant.0

pub read_level-returns-in_err-right-clause-exact : goal.read_level-returns-in_err-right-clause-exact
read_level-returns-in_err-right-clause-exact t c =
    let p = err_from_is_err_and c.from_residual-in_err-right.result c.from_residual-in_err-right.ensures.1 in
    rw (p.1, p.2) (fails_on c.in_err-right.field-0.0 c.in_err-right.ensures.exact (λ h. goes_fails served c.args.depth c.args.level _ _ _ c.in-Some.op c.in-Some.behind.now c.level.result _ c.in-Some.ensures (omega arith) c.level.ensures.value h c.loop-op.invariant.0))

pub read_level-loop-op-preserved : goal.read_level-loop-op-preserved
read_level-loop-op-preserved t c =
    rw (c.in_ok-new.ensures.ok, c.in_ok-new-2.ensures.ok)
    (goes_on_turn served c.args.depth c.args.level _ _ _ c.in-Some.op c.in-Some.behind.now c.level.result _ _ _ _ c.in-Some.ensures (omega arith) c.level.ensures.value c.in_ok-right.ensures.exact c.loop-op.invariant.0, omega (arith, c.in_ok-right.ensures.less))

pub read_level-returns-clause-exact : goal.read_level-returns-clause-exact
read_level-returns-clause-exact t c = goes_done (primary served (parens served c.args.depth)) c.args.level _ _ _ _ c.in_default.ensures c.loop-op.invariant.0
