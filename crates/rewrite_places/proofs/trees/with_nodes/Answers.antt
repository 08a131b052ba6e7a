use Rattle.std.proofs.Common.{◌∙◌, ap, Some}
use Rattle.apply_ast.specs.Trees.{Key, OptPipe}
use Rattle.apply_ast.specs.Views.{pipe_of, hier_of}
use Rattle.apply_ast.proofs.ViewEquations.{key_of-Recursive}
use Rattle.rewrite_places.proofs.trees.with_nodes.Goals as goal

pub returns-in_ok-copy-in-Some : goal.returns-in_ok-copy-in-Some
returns-in_ok-copy-in-Some c =
    rw c.in-Some.is (ap Some (key_of-Recursive c.in_ok-hier-in-Some.hier c.in_ok-copy-in-Some.field-0 (Some c.in-Some.pipe)
    ∙ ap (λ h. Key.Recursive (hier_of h) c.in_ok-copy-in-Some.field-0 (OptPipe.SomePipe (pipe_of c.in-Some.pipe))) c.in_ok-hier-in-Some.ensures.value
    ∙ ap (λ p. Key.Recursive (hier_of c.args.hier.now) p (OptPipe.SomePipe (pipe_of c.in-Some.pipe))) c.in_ok-copy-in-Some.ensures.value))
