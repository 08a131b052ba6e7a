use Rattle.std.proofs.Common.{◌∙◌, ap, map, arith}
use Rattle.apply_ast.specs.Views.{pipe_of, step_of}
use Rattle.rewrite_laws.specs.Rewrites.{pipe_or_identity}
use Rattle.rewrite_rules.specs.Branches.{without_first}
use Rattle.rewrite_rules.proofs.BranchForms.{made-next, rest-steps}
use Rattle.rewrite_rules.proofs.branches.without_first.Goals as goal

pub loop-branch-preserved : goal.loop-branch-preserved
loop-branch-preserved c =
    ap (map pipe_of) c.in_ok-push.ensures.items
    ∙ made-next pipe_of without_first pipe_of c.loop-branch.made.items c.args.branches.now c.loop-branch.branch-index c.branch-item.result c.in_ok-pipe_or_identity.field-0 (omega arith) c.branch-item.is c.loop-branch.invariant
    (c.in_ok-pipe_or_identity.ensures ∙ ap pipe_or_identity (rest-steps step_of c.steps.result.now (pipe_of c.branch-item.result) c.steps.ensures.tree))
