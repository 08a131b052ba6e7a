use Rattle.std.proofs.Common.{◌∙◌, ap, Some}
use Rattle.apply_ast.specs.Trees.{Step, OptPipe}
use Rattle.apply_ast.specs.Views.{pipe_of}
use Rattle.apply_ast.proofs.ViewEquations.{step_of-GroupBy}
use Rattle.rewrite_places.proofs.trees.with_groups.Goals as goal

pub returns-in_ok-copy-in-Some : goal.returns-in_ok-copy-in-Some
returns-in_ok-copy-in-Some c =
    rw c.in-Some.is (ap Some (step_of-GroupBy c.in_ok-copy-in-Some.field-0 (Some c.in-Some.pipe) ∙ ap (λ k. Step.GroupBy k (OptPipe.SomePipe (pipe_of c.in-Some.pipe))) c.in_ok-copy-in-Some.ensures.value))
