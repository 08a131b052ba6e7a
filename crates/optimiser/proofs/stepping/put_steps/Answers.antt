use Rattle.std.proofs.Common.{◌<◌, ◌≤◌, sym, ◌∙◌, arith, length, map}
use Rattle.apply_ast.specs.Views.{step_of}
use Rattle.context_typing.specs.Readings.{readings}
use Rattle.optimiser.specs.HeldSegments.{segments_of}
use Rattle.optimiser.specs.IdleForms.{frame}
use Rattle.optimiser.specs.WalkRules.{rules_named}
use Rattle.optimiser.proofs.KnownLemmas.{next-known}
use Rattle.optimiser.proofs.SteppingLemmas.{behind-next, placed, rest-typed}
use Rattle.optimiser.proofs.WalkTrees.{put-all, put-next}
use Rattle.optimiser.proofs.stepping.put_steps.Goals as goal

pub put_step-requires-clause-there : goal.put_step-requires-clause-there
put_step-requires-clause-there c = placed step_of c.args.steps.now c.loop-at.at c.index-steps-at.result c.loop-at-test.true c.index-steps-at.is

pub loop-at-preserved : goal.loop-at-preserved
loop-at-preserved c =
    let m = c.args.m.now in
    let cs = readings c.args.c.now in
    let r = rules_named c.args.rules in
    let xs = c.args.steps.now in
    let w = frame r cs (map step_of xs) in
    let i = c.loop-at.at in
    let d = c.index-steps-at.result in
    let S = c.loop-at.shape in
    let S' = c.in_ok-next.next in
    let lt : i < length c.args.known.now = c.one_is_known.ensures in record {
      value = put-next r m cs step_of S S' xs i d (segments_of m w c.loop-at.segments.items) _ c.loop-at-test.true c.index-steps-at.is c.in_ok-put_step.ensures.value c.in_ok-next.ensures.value ∙ c.loop-at.invariant.value;
      shape = behind-next m cs step_of S S' xs i d c.loop-at-test.true c.index-steps-at.is c.in_ok-next.ensures.value ∙ c.loop-at.invariant.shape;
      types = c.in_ok-next.ensures.types;
      typed = (rest-typed m cs step_of S S' xs i d c.loop-at-test.true c.index-steps-at.is c.loop-at.invariant.typed).1 c.in_ok-next.ensures.value;
      right = c.in_ok-put_step.ensures.right;
      there = c.in_ok-put_step.ensures.there c.args.known.now c.next_is_known.ensures.place c.loop-at.invariant.there;
      known = (next-known m cs step_of S S' xs i d c.args.known.now c.index-known-at.result c.loop-at-test.true c.index-steps-at.is lt c.index-known-at.is c.loop-at.invariant.known).1 c.in_ok-next.ensures.value;
    }

pub returns-clause-value : goal.returns-clause-value
returns-clause-value c =
    let m = c.args.m.now in
    let cs = readings c.args.c.now in
    let r = rules_named c.args.rules in
    let xs = c.args.steps.now in
    let end : length xs ≤ c.loop-at.at = omega (arith, c.loop-at-test.false) in
    sym (put-all r m cs step_of c.loop-at.shape xs c.loop-at.at (segments_of m (frame r cs (map step_of xs)) c.loop-at.segments.items) end) ∙ c.loop-at.invariant.value
