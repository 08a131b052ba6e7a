use Rattle.std.proofs.Common.{◌≡◌, ◌∙◌, ap, ◌++◌, drop, map}
use Rattle.std.proofs.lemmas.Result.{IfOk-weaker}
use Rattle.apply_ast.specs.Views.{pipe_of, step_of}
use Rattle.rewrite_laws.specs.Rewrites.{pipe_or_identity}
use Rattle.optimiser.proofs.FactorLemmas.{drop-map}
use Rattle.optimiser.proofs.factoring.left.Goals as goal

pub returns : goal.returns
returns c =
    let steps = c.put_copies.new.out.items in
    let same = c.in_ok-put_copies.ensures.steps ∙ (λ i. map step_of (c.new-steps.ensures.items i) ++ map step_of (c.behind.ensures i)) ∙ drop-map step_of c.args.at c.args.list.now in
    IfOk-weaker c.pipe_or_identity.result (λ p. pipe_of p ≡ pipe_or_identity (map step_of steps)) (λ p. pipe_of p ≡ pipe_or_identity (drop c.args.at (map step_of c.args.list.now))) (λ p e. e ∙ ap pipe_or_identity same) c.pipe_or_identity.ensures
