use Rattle.std.proofs.Common.{◌∙◌, ap, map, arith}
use Rattle.apply_ast.specs.Views.{pipe_of, step_of}
use Rattle.rewrite_laws.specs.Rewrites.{ended}
use Rattle.rewrite_rules.proofs.BranchForms.{made-next}
use Rattle.rewrite_rules.proofs.branches.ended_branches.Goals as goal

pub loop-branch-preserved : goal.loop-branch-preserved
loop-branch-preserved c =
    ap (map pipe_of) c.in_ok-push.ensures.items
    ∙ made-next pipe_of (λ p. ended p (step_of c.args.step.now)) pipe_of c.loop-branch.made.items c.args.branches.now c.loop-branch.branch-index c.branch-item.result c.in_ok-ended.field-0 (omega arith) c.branch-item.is c.loop-branch.invariant
    c.in_ok-ended.ensures
