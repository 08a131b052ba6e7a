use Rattle.std.proofs.Common.{◌≤◌, refl, sym, ◌∙◌, ap, arith, ◌+◌, ◌∷◌, [], length, map, take}
use Rattle.std.specs.List.{list_all}
use Rattle.std.proofs.lemmas.Bool.{and_from}
use Rattle.std.proofs.lemmas.List.{take_all}
use Rattle.edm_values.proofs.ListFacts.{all-append}
use Rattle.apply_ast.specs.Trees.{pipe}
use Rattle.apply_ast.specs.Views.{pipe_of, pipes_from, step_of}
use Rattle.apply_ast.proofs.ViewEquations.{pipes_of-is}
use Rattle.context_typing.specs.Readings.{readings}
use Rattle.context_typing.specs.ShapeTypes.{has_types}
use Rattle.optimiser.specs.KnownSteps.{are_known, branches_known}
use Rattle.walk_laws.specs.Walks.{shape_behind}
use Rattle.optimiser.proofs.KnownLemmas.{more-branches, more-known, one-more}
use Rattle.optimiser.proofs.SteppingLemmas.{rest-typed}
use Rattle.optimiser.proofs.known.+known.Goals as goal

-- ---- branches

pub known_branches-loop-i-preserved : goal.known_branches-loop-i-preserved
known_branches-loop-i-preserved t c =
    let m = c.args.m.now in
    let cs = readings c.args.c.now in
    let S = c.args.shape.now in
    let xs = c.as_slice-all.result.now in
    let i = c.loop-i.i in
    let d = c.index-all-i.result in record {
      ends = c.in_ok-push.ensures.items ∙ one-more (λ p. shape_behind m cs S (pipe_of p)) xs i d c.loop-i.ends.items c.in_ok-known.end c.loop-i-test.true c.index-all-i.is c.loop-i.invariant.ends c.in_ok-known.ensures.value;
      types = ap (list_all (has_types m)) c.in_ok-push.ensures.items ∙ all-append (has_types m) c.loop-i.ends.items (c.in_ok-known.end ∷ []) c.loop-i.invariant.types (and_from _ _ c.in_ok-known.ensures.types refl);
      inside = ap (branches_known m cs S (pipes_from (map pipe_of (take (i + 1) xs)))) c.in_ok-push-2.ensures.items ∙ more-branches m cs pipe_of xs i d c.loop-i.inside.items c.in_ok-known.known S c.loop-i-test.true c.index-all-i.is c.loop-i.invariant.inside c.in_ok-known.ensures.known;
    }

pub known_branches-returns-clause-inside : goal.known_branches-returns-clause-inside
known_branches-returns-clause-inside t c =
    let m = c.args.m.now in
    let cs = readings c.args.c.now in
    let xs = c.as_slice-all.result.now in
    let end : length xs ≤ c.loop-i.i = omega (arith, c.loop-i-test.false) in
    ap (λ B. branches_known m cs c.args.shape.now B c.loop-i.inside.items) (pipes_of-is c.args.branches.now ∙ ap (λ l. pipes_from (map pipe_of l)) (sym c.as_slice-all.ensures.value ∙ sym (take_all c.loop-i.i xs end)))
    ∙ c.loop-i.invariant.inside

-- ---- steps

pub known_pipe-loop-i-preserved : goal.known_pipe-loop-i-preserved
known_pipe-loop-i-preserved t c =
    let m = c.args.m.now in
    let cs = readings c.args.c.now in
    let xs = c.steps-steps.result.now in
    let i = c.loop-i.i in
    let d = c.index-steps-i.result in
    let Z = c.loop-i.shape in
    let Z' = c.in_ok-of.next in
    let more = more-known m cs step_of xs i d c.loop-i.known.items c.in_ok-of.of c.args.start.now Z Z' c.loop-i-test.true c.index-steps-i.is c.loop-i.invariant.at c.loop-i.invariant.known c.in_ok-of.ensures.known c.in_ok-of.ensures.value in record {
      at = more.0;
      types = c.in_ok-of.ensures.types;
      known = ap (are_known m cs c.args.start.now (pipe (map step_of (take (i + 1) xs)))) c.in_ok-push.ensures.items ∙ more.1;
      typed = (rest-typed m cs step_of Z Z' xs i d c.loop-i-test.true c.index-steps-i.is c.loop-i.invariant.typed).1 c.in_ok-of.ensures.value;
    }
