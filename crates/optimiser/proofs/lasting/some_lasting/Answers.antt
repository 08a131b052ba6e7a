use Rattle.std.proofs.Common.{sym, ◌∙◌, ap, ◌+◌, ◌≤◌, arith, length, drop, map}
use Rattle.std.proofs.Math.ListN.{drop_of_length-le}
use Rattle.apply_ast.specs.Views.{pipe_of, pipes_from, pipes_of}
use Rattle.apply_ast.proofs.ViewEquations.{pipes_of-is}
use Rattle.rewrite_forms.proofs.CutLists.{dropped-next}
use Rattle.walk_laws.specs.FiltersOut as spec
use Rattle.optimiser.proofs.LastingLemmas.{lasting-found, lasting-next}
use Rattle.optimiser.proofs.lasting.some_lasting.Goals as goal

pub loop-branch-init : goal.loop-branch-init
loop-branch-init c = ap (spec.some_lasting (pipes_of c.args.branches.now)) (pipes_of-is c.args.branches.now ∙ ap (λ l. pipes_from (map pipe_of l)) (sym c.as_slice-branch-items.ensures.value))

pub loop-branch-preserved : goal.loop-branch-preserved
loop-branch-preserved c =
    let xs = c.as_slice-branch-items.result.now in
    let i = c.loop-branch.branch-index in
    let x = pipes_of c.args.branches.now in
    c.loop-branch.invariant ∙ ap (λ l. spec.some_lasting x (pipes_from l)) (dropped-next pipe_of xs i c.branch-item.result c.loop-branch-test.true c.branch-item.is)
    ∙ lasting-next x (pipe_of c.branch-item.result) c.has_lasting_front.ensures c.if-has_lasting_front.false (pipes_from (map pipe_of (drop (i + 1) xs)))

pub returns-then-has_lasting_front : goal.returns-then-has_lasting_front
returns-then-has_lasting_front c =
    let xs = c.as_slice-branch-items.result.now in
    let i = c.loop-branch.branch-index in
    let x = pipes_of c.args.branches.now in
    sym (c.loop-branch.invariant ∙ ap (λ l. spec.some_lasting x (pipes_from l)) (dropped-next pipe_of xs i c.branch-item.result c.loop-branch-test.true c.branch-item.is)
    ∙ lasting-found x (pipe_of c.branch-item.result) c.has_lasting_front.ensures c.if-has_lasting_front.true (pipes_from (map pipe_of (drop (i + 1) xs))))

pub returns : goal.returns
returns c =
    let xs = c.as_slice-branch-items.result.now in
    let end : length xs ≤ c.loop-branch.branch-index = omega (arith, c.loop-branch-test.false) in
    sym (c.loop-branch.invariant ∙ ap (λ l. spec.some_lasting (pipes_of c.args.branches.now) (pipes_from (map pipe_of l))) (drop_of_length-le xs end))
