use Rattle.std.proofs.Common.{◌≤◌, sym, subst, ◌∙◌, length, map, take}
use Rattle.apply_ast.specs.Views.{step_of}
use Rattle.context_typing.specs.Readings.{readings}
use Rattle.walk_laws.specs.Crossing.{all_cross}
use Rattle.optimiser.proofs.CrossingLemmas.{behind-more}
use Rattle.optimiser.proofs.SteppingLemmas.{rest-typed}
use Rattle.optimiser.proofs.crossing.last_crossing.Goals as goal

pub later_crossing-found-requires-clause-count : goal.later_crossing-found-requires-clause-count
later_crossing-found-requires-clause-count c = subst (λ l. c.in_ok-count.count ≤ length l) c.behind-rest.ensures c.in_ok-count.ensures.within

pub loop-at-preserved : goal.loop-at-preserved
loop-at-preserved c =
    let m = c.args.m.now in
    let cs = readings c.args.c.now in
    let xs = c.args.steps.now in
    let i = c.loop-at.at in
    let d = c.index-steps-at.result in
    let Z = c.loop-at.shape in
    let Z' = c.in_ok-next.next in
    let k = c.in_ok-count.count in
    let at = c.loop-at.invariant.behind in record {
      found = c.later_crossing-found.ensures m cs c.args.start.now c.loop-at.invariant.found (λ some. sym (λ j. all_cross m cs (at j) (step_of d) (map step_of (take k (c.behind-rest.ensures j)))) ∙ c.in_ok-count.ensures.value some);
      behind = behind-more m cs step_of xs i d c.args.start.now Z Z' c.loop-at-test.true c.index-steps-at.is at c.in_ok-next.ensures.value;
      types = c.in_ok-next.ensures.types;
      typed = (rest-typed m cs step_of Z Z' xs i d c.loop-at-test.true c.index-steps-at.is c.loop-at.invariant.typed).1 c.in_ok-next.ensures.value;
    }
