use Rattle.std.proofs.Common.{◌≡◌, sym, ◌∙◌, ap, ◌+◌, ◌-◌, Some, length, map, arith}
use Rattle.apply_ast.specs.Views.{pipe_of, step_of}
use Rattle.context_typing.specs.Readings.{readings}
use Rattle.rewrite_forms.specs.StepShapes.{shape_behind}
use Rattle.rewrite_rules.proofs.ClimbForms.{idle-given, idle-kept, idle-other, idle-untyped}
use Rattle.rewrite_rules.proofs.climbs.without_idle.Goals as goal

pub returns-then-not-may_be_idle : goal.returns-then-not-may_be_idle
returns-then-not-may_be_idle c =
    let m = c.args.m.now in
    let cs = readings c.args.c.now in
    let xs = c.steps-steps.result.now in
    let n : length xs - 1 + 1 ≡ length xs = omega (arith, c.steps-steps.ensures.some) in
    idle-other step_of xs (length xs - 1) c.index-steps-end.result n c.index-steps-end.is (pipe_of c.args.climb.now.inner) c.steps-steps.ensures.tree m cs
    (shape_behind m cs c.args.start.now (map step_of c.args.before.now)) c.args.climb.now.path (sym c.may_be_idle.ensures ∙ c.if-not-may_be_idle.true)

pub returns-then-not-is_idle : goal.returns-then-not-is_idle
returns-then-not-is_idle c =
    let m = c.args.m.now in
    let cs = readings c.args.c.now in
    let xs = c.steps-steps.result.now in
    let n : length xs - 1 + 1 ≡ length xs = omega (arith, c.steps-steps.ensures.some) in
    idle-kept step_of xs (length xs - 1) c.index-steps-end.result n c.index-steps-end.is (pipe_of c.args.climb.now.inner) c.steps-steps.ensures.tree m cs
    (shape_behind m cs c.args.start.now (map step_of c.args.before.now)) c.args.climb.now.path
    c.in_ok-there.there c.in_ok-there.ensures.value c.in-Some.shape (sym c.in-Some.is ∙ c.in_ok-shape.ensures.value) (sym c.is_idle.ensures ∙ c.if-not-is_idle.true)

pub returns-in-Some : goal.returns-in-Some
returns-in-Some c =
    let m = c.args.m.now in
    let cs = readings c.args.c.now in
    let xs = c.steps-steps.result.now in
    let n : length xs - 1 + 1 ≡ length xs = omega (arith, c.steps-steps.ensures.some) in
    ap Some c.in_ok-pipe_or_identity-in-Some.ensures
    ∙ idle-given step_of xs (length xs - 1) c.index-steps-end.result n c.index-steps-end.is (pipe_of c.args.climb.now.inner) c.steps-steps.ensures.tree m cs
    (shape_behind m cs c.args.start.now (map step_of c.args.before.now)) c.args.climb.now.path
    c.in_ok-there.there c.in_ok-there.ensures.value c.in-Some.shape (sym c.in-Some.is ∙ c.in_ok-shape.ensures.value) (sym c.is_idle.ensures ∙ c.if-not-is_idle.false)

pub returns : goal.returns
returns c =
    let m = c.args.m.now in
    let cs = readings c.args.c.now in
    let xs = c.steps-steps.result.now in
    let n : length xs - 1 + 1 ≡ length xs = omega (arith, c.steps-steps.ensures.some) in
    idle-untyped step_of xs (length xs - 1) c.index-steps-end.result n c.index-steps-end.is (pipe_of c.args.climb.now.inner) c.steps-steps.ensures.tree m cs
    (shape_behind m cs c.args.start.now (map step_of c.args.before.now)) c.args.climb.now.path
    c.in_ok-there.there c.in_ok-there.ensures.value (sym c.in-None.is ∙ c.in_ok-shape.ensures.value)
