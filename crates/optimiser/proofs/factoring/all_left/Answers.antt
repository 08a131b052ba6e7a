use Rattle.std.proofs.Common.{◌∙◌, ap, arith, drop, map}
use Rattle.apply_ast.specs.Views.{pipe_of, pipes_from, step_of}
use Rattle.apply_ast.proofs.ViewEquations.{pipes_of-is}
use Rattle.rewrite_laws.specs.Rewrites.{pipe_or_identity}
use Rattle.optimiser.proofs.FactorLemmas.{left-all, made-more}
use Rattle.optimiser.proofs.factoring.all_left.Goals as goal

pub loop-list-preserved : goal.loop-list-preserved
loop-list-preserved c =
    ap (map pipe_of) c.in_ok-push.ensures.items
    ∙ made-more pipe_of (λ v. pipe_or_identity (drop c.args.at (map step_of v.items))) c.args.lists.now c.loop-list.made.items c.loop-list.list-index c.list-item.result c.in_ok-left.field-0 (omega arith) c.list-item.is c.loop-list.invariant
    (c.in_ok-left.ensures ∙ ap (λ l. pipe_or_identity (drop c.args.at (map step_of l))) c.as_slice.ensures.value)

pub returns : goal.returns
returns c =
    pipes_of-is c.new.result ∙ ap (λ l. pipes_from (map pipe_of l)) c.new.ensures.value
    ∙ left-all (λ v. map step_of v.items) c.args.lists.now c.args.at c.loop-list.list-index (map pipe_of c.loop-list.made.items) (omega arith) c.loop-list.invariant
