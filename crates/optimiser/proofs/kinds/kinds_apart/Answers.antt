use Rattle.std.proofs.Common.{sym, ◌∙◌, ap, ◌+◌, ◌≤◌, arith, length, drop, map}
use Rattle.std.proofs.Math.ListN.{drop_of_length-le}
use Rattle.apply_ast.specs.Views.{pipe_of, pipes_from, pipes_of}
use Rattle.apply_ast.proofs.ViewEquations.{pipes_of-is}
use Rattle.rewrite_forms.proofs.CutLists.{dropped-next}
use Rattle.walk_laws.specs.Apart as spec
use Rattle.optimiser.proofs.KindLemmas.{unlike-found, unlike-next}
use Rattle.optimiser.proofs.kinds.kinds_apart.Goals as goal

pub loop-branch-init : goal.loop-branch-init
loop-branch-init c = ap (spec.kinds_apart (pipes_of c.args.branches.now)) (pipes_of-is c.args.branches.now ∙ ap (λ l. pipes_from (map pipe_of l)) (sym c.as_slice-branch-items.ensures.value))

pub loop-branch-preserved : goal.loop-branch-preserved
loop-branch-preserved c =
    let xs = c.as_slice-branch-items.result.now in
    let i = c.loop-branch.branch-index in
    let x = pipes_of c.args.branches.now in
    c.loop-branch.invariant ∙ ap (λ l. spec.kinds_apart x (pipes_from l)) (dropped-next pipe_of xs i c.branch-item.result c.loop-branch-test.true c.branch-item.is)
    ∙ unlike-next x (pipe_of c.branch-item.result) c.is_unlike.ensures c.if-is_unlike.false (pipes_from (map pipe_of (drop (i + 1) xs)))

pub returns-then-is_unlike : goal.returns-then-is_unlike
returns-then-is_unlike c =
    let xs = c.as_slice-branch-items.result.now in
    let i = c.loop-branch.branch-index in
    let x = pipes_of c.args.branches.now in
    sym (c.loop-branch.invariant ∙ ap (λ l. spec.kinds_apart x (pipes_from l)) (dropped-next pipe_of xs i c.branch-item.result c.loop-branch-test.true c.branch-item.is)
    ∙ unlike-found x (pipe_of c.branch-item.result) c.is_unlike.ensures c.if-is_unlike.true (pipes_from (map pipe_of (drop (i + 1) xs))))

pub returns : goal.returns
returns c =
    let xs = c.as_slice-branch-items.result.now in
    let end : length xs ≤ c.loop-branch.branch-index = omega (arith, c.loop-branch-test.false) in
    sym (c.loop-branch.invariant ∙ ap (λ l. spec.kinds_apart (pipes_of c.args.branches.now) (pipes_from (map pipe_of l))) (drop_of_length-le xs end))
